-- A fabric in numbers: its size, its bits, pads and pins, the refusals of them, and what a tick answers and leaves.
-- A reader has to believe these definitions. They assume nothing.
use Rattle.std.specs.Prelude.{◌≡◌, ℕ, ◌+◌, ◌-◌, ◌*◌, ◌/◌, ◌%◌, ◌<◌, Bool, cond, not, ◌||◌, List, length, Option, ◌==◌, nat_lt, slice_index, slice_index_or}
use Rattle.std.specs.Option.{option_or}
use Rattle.std.specs.Bool.{then_some}
use Rattle.design.specs.Designs.{bit}
use Rattle.design.specs.declared.refusal.Refusal.{Refusal}
use Rattle.design.specs.declared.refusal.Refusal.TheVariants.{Rows, Columns, Tracks, FabricSize, BitsLength, HeldLength, PadsLength, OutputsLength}
use Rattle.fabric.specs.declared.parts.Side.{Side}
use Rattle.fabric.specs.declared.parts.Side.TheVariants.{Right, Below, Left, Above}
use Rattle.fabric.specs.declared.parts.Source.{Source}
use Rattle.fabric.specs.declared.parts.Source.TheVariants.{Nothing, Own, Track}
use Rattle.fabric.specs.declared.parts.Pin.{Pin}
use Rattle.fabric.specs.Fabrics.{Size, cell_count, Config, Pads, lookup, final, Settles}

-- 1. Sides and sources. A source is 0 for nothing, 1 for the cell itself, else 2 + 64 times the side + the track.

unfoldable pub side_number : Side → ℕ
side_number Right = 0
side_number Below = 1
side_number Left = 2
side_number Above = 3

-- a track from a side; there is no side above 3
unfoldable pub track_from : (side track : ℕ) → Source
track_from s t = cond (s == 0) (Track Right t) (cond (s == 1) (Track Below t) (cond (s == 2) (Track Left t) (cond (s == 3) (Track Above t) Nothing)))

unfoldable pub source_of : ℕ → Source
source_of n = cond (n == 0) Nothing (cond (n == 1) Own (track_from ((n - 2) / 64) ((n - 2) % 64)))

-- 2. The configuration: for each cell sixteen numbers of its table, four sources, 1 if it shows what it held, 1 if it holds 1 at
-- first; then for each side and track a source. In tables and flags any number but 1 is 0.

unfoldable pub per_cell : Size → ℕ
per_cell z = 22 + 4 * z.tracks

unfoldable pub room_length : Size → ℕ
room_length z = cell_count z * per_cell z

unfoldable pub config_in : Size → List ℕ → Config
config_in z xs = record {
  table = λ c k. (slice_index xs (c * per_cell z + k) == 1);
  input = λ c k. source_of (slice_index xs (c * per_cell z + (16 + k)));
  holds = λ c. (slice_index xs (c * per_cell z + 20) == 1);
  initial = λ c. (slice_index xs (c * per_cell z + 21) == 1);
  drive = λ c s t. source_of (slice_index xs (c * per_cell z + (22 + (side_number s * z.tracks + t))));
}

-- 3. Held bits, one for each cell; pads and outputs, one for each cell, side and track, at edges and inside. Any number but 1 is 0.

unfoldable pub held_in : List ℕ → ℕ → Bool
held_in xs c = slice_index xs c == 1

unfoldable pub pad_place : Size → ℕ → Side → ℕ → ℕ
pad_place z c s t = (c * 4 + side_number s) * z.tracks + t

unfoldable pub pads_length : Size → ℕ
pads_length z = cell_count z * 4 * z.tracks

unfoldable pub pads_in : Size → List ℕ → Pads
pads_in z xs c s t = slice_index xs (pad_place z c s t) == 1

-- 4. Pins: three numbers each, the cell, the side and the track.

pub record PinAt (xs : List ℕ) (n : ℕ) (q : Pin) : Type 0 where
  pub cell : slice_index_or xs (3 * n) 0 ≡ q.cell
  pub side : slice_index_or xs (3 * n + 1) 0 ≡ side_number q.side
  pub track : slice_index_or xs (3 * n + 2) 0 ≡ q.track

-- 5. Refusals.

unfoldable pub size_refusal : Size → Option Refusal
size_refusal z =
    option_or (then_some (z.rows == 0 || nat_lt 32 z.rows) Rows)
    (option_or (then_some (z.columns == 0 || nat_lt 32 z.columns) Columns)
    (option_or (then_some (z.tracks == 0 || nat_lt 64 z.tracks) Tracks)
    (then_some (nat_lt 32000 (room_length z)) FabricSize)))

unfoldable pub tick_refusal : Size → (bits held pads outs : List ℕ) → Option Refusal
tick_refusal z bits held pads outs =
    option_or (size_refusal z)
    (option_or (then_some (not (length bits == room_length z)) BitsLength)
    (option_or (then_some (not (length held == cell_count z)) HeldLength)
    (option_or (then_some (not (length pads == pads_length z)) PadsLength)
    (then_some (not (length outs == pads_length z)) OutputsLength))))

-- 6. What a tick leaves where it settles: what every cell holds, and what every track carries.

pub record Ticks (z : Size) (b : Config) (held pads outs : List ℕ) (held₁ outs₁ : List ℕ) : Type 0 where
  pub settles : Settles z b (held_in held) (pads_in z pads)
  pub held_length : length held₁ ≡ length held
  pub outs_length : length outs₁ ≡ length outs
  pub held_bits : (c : ℕ) → c < cell_count z → slice_index held₁ c ≡ bit (lookup z b (pads_in z pads) (final z b (held_in held) (pads_in z pads)) c)
  pub out_bits : (c : ℕ) (s : Side) (t : ℕ) → c < cell_count z → t < z.tracks →
      slice_index outs₁ (pad_place z c s t) ≡ bit ((final z b (held_in held) (pads_in z pads)).track c s t)
