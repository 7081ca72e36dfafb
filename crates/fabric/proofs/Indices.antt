-- Bounds of the places of signals and pads, and the signal at a place.
use Rattle.std.proofs.Common.{◌≡◌, ℕ, ◌+◌, ◌*◌, ◌/◌, ◌%◌, ◌<◌, ◌≤◌, false, arith}
use Rattle.std.proofs.lemmas.Nat.{mul-add-lt, div_below, mod_below}
use Rattle.fabric.specs.declared.parts.Side.{Side}
use Rattle.fabric.specs.declared.parts.Side.TheVariants.{Left, Above}
use Rattle.fabric.specs.Fabrics.{Size, cell_count, at_edge, neighbour}
use Rattle.fabric.specs.Numbers.{side_number, per_cell, pad_place, pads_length}
use Rattle.fabric.specs.Code.{track_place, out_place}
use Rattle.fabric.proofs.Coding.{side_number_small}
use Rattle.fabric.proofs.Geometry.{neighbour_inside, no_left_edge, no_above_edge, columns_below, row_of, column_of}

-- side n, track t of T tracks, in cell c of N
pub track_below : (N T c n t : ℕ) → c < N → n < 4 → t < T → c * (1 + 4 * T) + (1 + (n * T + t)) < N * (1 + 4 * T)
track_below N T c n t h m l =
    let k : 1 + (n * T + t) < 1 + 4 * T = omega (arith, mul-add-lt n T t 4 m l) in
    omega (arith, mul-add-lt c (1 + 4 * T) (1 + (n * T + t)) N h k)

pub pad_below : (N T c n t : ℕ) → c < N → n < 4 → t < T → (c * 4 + n) * T + t < N * 4 * T
pad_below N T c n t h m l =
    let k : c * 4 + n < N * 4 = omega arith in
    omega (arith, mul-add-lt (c * 4 + n) T t (N * 4) k l)

-- number k of P in cell c of N
pub word_below : (N P c k : ℕ) → c < N → k < P → c * P + k < N * P
word_below N P c k h m = omega (arith, mul-add-lt c P k N h m)

-- the step to a side v
pub stepped : (z : Size) (c n : ℕ) (s v : Side) → s ≡ v → n ≡ neighbour z c v → c < cell_count z → at_edge z c s ≡ false →
    (n ≡ neighbour z c s) × (n < cell_count z)
stepped z c n s v e f l o =
    let g : n ≡ neighbour z c s = cc in
    (g, rw g (neighbour_inside z c s l o))

pub left_of_some : (z : Size) (c : ℕ) (s : Side) → s ≡ Left → at_edge z c s ≡ false → 1 ≤ c
left_of_some z c s e o =
    let f : at_edge z c Left ≡ false = cc in
    omega (arith, no_left_edge z c f)

pub above_some : (z : Size) (c : ℕ) (s : Side) → s ≡ Above → at_edge z c s ≡ false → z.columns ≤ c
above_some z c s e o =
    let f : at_edge z c Above ≡ false = cc in
    columns_below z.columns c (no_above_edge z c f)

pub cell_below : (N T c : ℕ) → c < N → c * (1 + 4 * T) < N * (1 + 4 * T)
cell_below N T c h = omega (arith, mul-add-lt c (1 + 4 * T) 0 N h (omega arith))

pub pad_inside : (z : Size) (c : ℕ) (s : Side) (t : ℕ) → c < cell_count z → t < z.tracks → pad_place z c s t < pads_length z
unfolding pad_place pads_length
pad_inside z c s t h l = pad_below (cell_count z) z.tracks c (side_number s) t h (side_number_small s) l

-- the source of a track among a cell's numbers
pub drive_inside : (z : Size) (s : Side) (t : ℕ) → t < z.tracks → 22 + (side_number s * z.tracks + t) < per_cell z
unfolding per_cell
drive_inside z s t l = omega (arith, mul-add-lt (side_number s) z.tracks t 4 (side_number_small s) l)

-- the track at place k among the pads
pub out_below : (N T k : ℕ) → 0 < T → k < N * 4 * T → k / (4 * T) * (1 + 4 * T) + (1 + k % (4 * T)) < N * (1 + 4 * T)
out_below N T k p l =
    let q : k / (4 * T) < N = div_below k (4 * T) N (omega arith) (omega arith) in
    let r : k % (4 * T) < 4 * T = mod_below k (4 * T) (omega arith) in
    word_below N (1 + 4 * T) (k / (4 * T)) (1 + k % (4 * T)) q (omega arith)

pub out_at : (z : Size) (c : ℕ) (s : Side) (t : ℕ) → t < z.tracks → out_place z (pad_place z c s t) ≡ track_place z c s t
unfolding pad_place
out_at z c s t l =
    let T = z.tracks in
    let n = side_number s in
    let k = (c * 4 + n) * T + t in
    let m : n * T + t < 4 * T = omega (arith, mul-add-lt n T t 4 (side_number_small s) l) in
    let q : k / (4 * T) ≡ c = row_of (4 * T) k c (n * T + t) m (omega arith) in
    let r : k % (4 * T) ≡ n * T + t = column_of (4 * T) k c (n * T + t) m (omega arith) in
    simp (q, r)
