-- The numbers that are written for a cell, and what they make of the fabric.
use Rattle.std.proofs.Common.{◌≡◌, ℕ, ◌+◌, ◌-◌, ◌*◌, ◌/◌, ◌%◌, ◌^◌, ◌<◌, ◌≤◌, Bool, true, false, cond, eqb, List, ◌++◌, length, get_or, take, drop, Some, None, Option, unwrap_or, refl, ap, ◌∙◌, ⊎_elim, mul-le-mul_right, add-mul, arith, length-drop, length-take}
use borrow.Rule.Slice.PartMut.{put_mid, post_of}
use Rattle.std.proofs.lemmas.List.{length-take-le, get_or_append_left, get_or-append_right, get_or-take}
use Rattle.std.specs.Option.{option_map}
use Rattle.std.proofs.lemmas.Nat.{mod-mul-add}
use Rattle.std.proofs.lemmas.Bool.{lt-ltb, cases_eq}
use Rattle.design.specs.Designs.{word}
use Rattle.fabric.specs.declared.parts.Side.{Side}
use Rattle.fabric.specs.declared.parts.Side.TheVariants.{Left}
use Rattle.fabric.specs.declared.parts.Source.{Source}
use Rattle.fabric.specs.declared.parts.Source.TheVariants.{Own, Track}
use Rattle.fabric.specs.Fabrics.{Size, cell_count}
use Rattle.fabric.specs.Numbers.{side_number, source_of, per_cell, room_length}
use Rattle.fabric.specs.declared.grid.Grid.{Grid}
use Rattle.fabric.specs.Code.{numbered, size_of}
use Rattle.netlist.specs.declared.parts.Net.{Net}
use Rattle.netlist.specs.declared.parts.Net.TheVariants.{Zero, Input, Cell}
use Rattle.netlist.specs.declared.parts.Cell.{Cell as CellT}
use Rattle.netlist.specs.Building.{input_of}
use Rattle.route.specs.Nets.{Exists}
use Rattle.route.specs.Plain.{toward, plain_source, plain_net}
use Rattle.bitstream.specs.declared.plans.Plan.{Plan}
use Rattle.bitstream.specs.Plans.{grid_of, inputs_of, count_of, cell_of, NumberAt, CellsWritten}

-- a net that a cell of the plan reads is there
pub net_exists : (i n : ℕ) (net : Net) → ((j : ℕ) → (net ≡ Input j → j < i) × (net ≡ Cell j → j < n)) → Exists i n net
net_exists i n Zero h = tt
net_exists i n (Input j) h = (h j).0 refl
net_exists i n (Cell j) h = (h j).1 refl

-- sources of the plain layout have numbers
track_numbered : (s : Side) (t : ℕ) → t < 64 → numbered (Track s t) ≡ Track s t
track_numbered s t h = rw (lt-ltb t 64 h) refl

way_numbered : (o : Option Side) (t : ℕ) (here : Source) → t < 64 → numbered here ≡ here → numbered (unwrap_or (option_map (λ s. Track s t) o) here) ≡ unwrap_or (option_map (λ s. Track s t) o) here
way_numbered None t here h e = e
way_numbered (Some s) t here h e = track_numbered s t h

source_numbered : (z : Size) (i n c : ℕ) (net : Net) → i + n ≤ 64 → Exists i n net → numbered (plain_source z i c net) ≡ plain_source z i c net
unfolding plain_source
source_numbered z i n c Zero room e = refl
source_numbered z i n c (Input j) room e = way_numbered (toward z c 0) j (Track Left j) (omega arith) (track_numbered Left j (omega arith))
source_numbered z i n c (Cell j) room e = way_numbered (toward z c j) (i + j) Own (omega arith) refl

-- the number x of a source
stands : (z : Size) (i n c x : ℕ) (net : Net) (s : Source) → i + n ≤ 64 → Exists i n net → (Exists i n net → s ≡ plain_source z i c net) → source_of x ≡ numbered s → source_of x ≡ plain_source z i c net
stands z i n c x net s room e is q = q ∙ ap numbered (is e) ∙ source_numbered z i n c net room e

flag_back : (b : Bool) → eqb (cond b 1 0) 1 ≡ b
flag_back true = refl
flag_back false = refl

module _ (z : Size) (i n : ℕ) (cell : CellT) (c j x : ℕ) where
  pub table_number : j < 16 → x ≡ cell.table / 2 ^ j % 2 → NumberAt z i n cell c j x
  unfolding word
  table_number h e = record {
    table = λ l. ap (λ y. eqb y 1) e;
    input = λ k l q. absurd (omega arith);
    holds = λ q. absurd (omega arith);
    initial = λ q. absurd (omega arith);
    drive = λ s t l q. absurd (omega arith);
  }

  pub input_number : (s : Source) → 16 ≤ j → j < 20 → i + n ≤ 64 → ((k : ℕ) → k < 4 → Exists i n (input_of cell k)) →
      (Exists i n (input_of cell (j - 16)) → s ≡ plain_source z i c (input_of cell (j - 16))) → source_of x ≡ numbered s → NumberAt z i n cell c j x
  input_number s low high room exist is q = record {
    table = λ l. absurd (omega arith);
    input = λ k l e. let r : j - 16 ≡ k = omega arith in rw r at (stands z i n c x (input_of cell (j - 16)) s room (exist (j - 16) (omega arith)) is q);
    holds = λ e. absurd (omega arith);
    initial = λ e. absurd (omega arith);
    drive = λ s t l e. absurd (omega arith);
  }

  pub holds_number : j ≡ 20 → x ≡ cond cell.holds 1 0 → NumberAt z i n cell c j x
  holds_number h e = record {
    table = λ l. absurd (omega arith);
    input = λ k l q. absurd (omega arith);
    holds = λ q. ap (λ y. eqb y 1) e ∙ flag_back cell.holds;
    initial = λ q. absurd (omega arith);
    drive = λ s t l q. absurd (omega arith);
  }

  pub initial_number : j ≡ 21 → x ≡ cond cell.initial 1 0 → NumberAt z i n cell c j x
  initial_number h e = record {
    table = λ l. absurd (omega arith);
    input = λ k l q. absurd (omega arith);
    holds = λ q. absurd (omega arith);
    initial = λ q. ap (λ y. eqb y 1) e ∙ flag_back cell.initial;
    drive = λ s t l q. absurd (omega arith);
  }

  pub drive_number : (net : Net) (s : Source) → 22 ≤ j → i + n ≤ 64 → net ≡ plain_net i n ((j - 22) % z.tracks) → Exists i n net →
      (Exists i n net → s ≡ plain_source z i c net) → source_of x ≡ numbered s → NumberAt z i n cell c j x
  drive_number net s low room e exists is q = record {
    table = λ l. absurd (omega arith);
    input = λ k l r. absurd (omega arith);
    holds = λ r. absurd (omega arith);
    initial = λ r. absurd (omega arith);
    drive = λ side t l r.
        let k : j - 22 ≡ side_number side * z.tracks + t = omega arith in
        let m : (j - 22) % z.tracks ≡ t = ap (λ y. y % z.tracks) k ∙ mod-mul-add (side_number side) z.tracks t l in
        stands z i n c x net s room exists is q ∙ ap (plain_source z i c) (e ∙ ap (plain_net i n) m);
  }

-- a part of a list is written: what lies elsewhere is as it was
pub part_here : (a k j : ℕ) (xs ys : List ℕ) → a ≤ length xs → length ys ≡ k → j < k → get_or (put_mid a k xs ys) (a + j) 0 ≡ get_or ys j 0
part_here a k j xs ys within long h =
    let t : length (take a xs) ≡ a = length-take-le a xs within in
    get_or-append_right (take a xs) (ys ++ post_of a k xs) a (a + j) 0 t (omega arith)
    ∙ ap (λ m. get_or (ys ++ post_of a k xs) m 0) (let e : a + j - a ≡ j = omega arith in e)
    ∙ get_or_append_left ys (post_of a k xs) 0 j (omega arith)

pub part_before : (a k m : ℕ) (xs ys : List ℕ) → a ≤ length xs → m < a → get_or (put_mid a k xs ys) m 0 ≡ get_or xs m 0
part_before a k m xs ys within h =
    let t : length (take a xs) ≡ a = length-take-le a xs within in
    get_or_append_left (take a xs) (ys ++ post_of a k xs) 0 m (omega arith) ∙ get_or-take a xs m 0 h

-- a cell's part lies within the room
pub part_within : (z : Size) (at size cells : ℕ) → at < cells → size ≡ per_cell z → cells ≡ cell_count z → at * size + size ≤ room_length z
unfolding room_length
part_within z at size cells h e n = rw (e, ← n) (omega (arith, mul-le-mul_right (per_cell z) (let s : at + 1 ≤ cells = omega arith in s), add-mul at 1 (per_cell z)))

-- one cell more is written
pub cell_more : (p : Plan) (at size : ℕ) (xs ys : List ℕ) → size ≡ per_cell (grid_of p) → at * size + size ≤ length xs → length ys ≡ size →
    CellsWritten p at xs →
    ((j : ℕ) → j < size → NumberAt (grid_of p) (inputs_of p) (count_of p) (cell_of p at) at j (get_or ys j 0)) →
    CellsWritten p (at + 1) (put_mid (at * size) size xs ys)
cell_more p at size xs ys e room long before here b j h l = ⊎_elim
    (λ (q : b ≡ at). rw (q, ← e) (rw (part_here (at * size) size j xs ys (omega arith) long (omega arith)) (here j (omega arith))))
    (λ (q : b ≡ at → ⊥).
    let s : b * size + size ≤ at * size = omega (arith, mul-le-mul_right size (let s : b + 1 ≤ at = omega arith in s), add-mul b 1 size) in
    rw (← e) (rw (part_before (at * size) size (b * size + j) xs ys (omega arith) (omega arith)) (rw (← e) at (before b j (omega arith) l))))
    (cases_eq b at)

pub room_small : (g : Grid) → room_length (size_of g) ≤ 32000
unfolding room_length per_cell
room_small g = g.fits

pub part_small : (p : Plan) (at size cells : ℕ) → at < cells → size ≡ per_cell (grid_of p) → cells ≡ cell_count (grid_of p) → at * size + size ≤ 32000
part_small p at size cells h e n = omega (arith, part_within (grid_of p) at size cells h e n, room_small p.routing.grid)

-- the same, as the code has it: the part ends at its start and its size
pub cell_step : (p : Plan) (at size cells : ℕ) (xs ys : List ℕ) → at < cells → size ≡ per_cell (grid_of p) → cells ≡ cell_count (grid_of p) → length xs ≡ room_length (grid_of p) →
    length ys ≡ length (take (at * size + size - at * size) (drop (at * size) xs)) →
    CellsWritten p at xs →
    ((j : ℕ) → j < length (take (at * size + size - at * size) (drop (at * size) xs)) → NumberAt (grid_of p) (inputs_of p) (count_of p) (cell_of p at) at j (get_or ys j 0)) →
    CellsWritten p (at + 1) (put_mid (at * size) (at * size + size - at * size) xs ys)
cell_step p at size cells xs ys h e n room long before here =
    let w : at * size + size ≤ length xs = omega (arith, part_within (grid_of p) at size cells h e n) in
    let s : at * size + size - at * size ≡ size = omega arith in
    let t : length (take (at * size + size - at * size) (drop (at * size) xs)) ≡ size = simp (length-take, length-drop) (omega arith) in
    rw s (cell_more p at size xs ys e w (long ∙ t) before (λ j l. here j (omega arith)))
