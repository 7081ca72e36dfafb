-- What `put` plans and writes.
-- Only proofs use these definitions: no promise to a user names them.
use Rattle.std.specs.Prelude.{◌≡◌, ℕ, ◌+◌, ◌-◌, ◌*◌, ◌<◌, ◌≤◌, cond, List, length, Some, None, Option, Result, MatchResult, ◌==◌, nat_lt, slice_index}
use Rattle.std.specs.Option.{option_or}
use Rattle.design.specs.declared.refusal.Refusal.{Refusal}
use Rattle.design.specs.Designs.{word, Design, input_bits}
use Rattle.design.specs.Numbers.{design_in, soundness_refusal}
use Rattle.design.specs.Encodings.{list_of}
use Rattle.fabric.specs.declared.parts.Side.{Side}
use Rattle.fabric.specs.declared.parts.Side.TheVariants.{Left, Above}
use Rattle.fabric.specs.declared.parts.Pin.{Pin}
use Rattle.fabric.specs.Fabrics.{Size}
use Rattle.fabric.specs.Numbers.{side_number, source_of, per_cell, room_length, PinAt}
use Rattle.fabric.specs.Code.{size_of}
use Rattle.netlist.specs.declared.parts.Cell.{Cell as CellT}
use Rattle.netlist.specs.Building.{input_of, Lowering}
use Rattle.netlist.specs.Lowerings.{netlist_of}
use Rattle.route.specs.Plain.{plain_source, plain_net}
use Rattle.bitstream.specs.declared.plans.Request.{Request}
use Rattle.bitstream.specs.declared.plans.Plan.{Plan}
use Rattle.bitstream.specs.Fitting.{standing}
use Rattle.bitstream.specs.declared.Made.{Made}
use Rattle.bitstream.specs.Puts.{pin_count, put_refusal, plain_refusal, not_yet, Refuses, Places}

-- the refusal that `put_words` answers, if any: 7 is said wherever the plain layout has no room
unfoldable pub words_answer : Size → (design room pins : List ℕ) → Option Refusal
words_answer z xs room pins = option_or (put_refusal z xs room pins) (plain_refusal z (design_in xs))

-- the refusal that `put` answers, if any
unfoldable pub put_answer : Size → (design room pins : List ℕ) → Option Refusal
put_answer z xs room pins = option_or (words_answer z xs room pins) (not_yet z xs)

-- the request is for that fabric and that design, and the room and the list of pins are long enough
pub record Accepts (z : Size) (xs room pins : List ℕ) (r : Request) : Type 0 where
  pub grid : size_of r.grid ≡ z
  pub list : list_of r.design ≡ xs
  pub room_fits : length room ≡ room_length z
  pub pins_fit : 3 * pin_count (design_in xs) ≤ length pins

abbrev pub grid_of : Plan → Size
grid_of p = size_of p.routing.grid

abbrev pub inputs_of : Plan → ℕ
inputs_of p = p.routing.inputs

abbrev pub count_of : Plan → ℕ
count_of p = p.routing.placement.count

abbrev pub cell_of : Plan → ℕ → CellT
cell_of p c = standing p.netlist c

-- a plan for the design
pub record Plans (d : Design) (p : Plan) : Type 0 where
  pub lowered : Lowering d (netlist_of p.netlist)
  pub inputs : inputs_of p ≡ input_bits d
  pub count : count_of p ≡ p.netlist.count
  pub pins : p.pins ≡ pin_count d

-- the room and the list of pins are long enough for the plan
pub record Fits (room pins : List ℕ) (p : Plan) : Type 0 where
  pub room_fits : length room ≡ room_length (grid_of p)
  pub pins_fit : 3 * p.pins ≤ length pins

-- a plan for the design in the list, which is sound, on that fabric
pub record Planned (z : Size) (xs room pins : List ℕ) (p : Plan) : Type 0 where
  pub grid : grid_of p ≡ z
  pub sound : soundness_refusal (design_in xs) ≡ None
  pub plans : Plans (design_in xs) p
  pub fits : Fits room pins p

-- the plan, where nothing is refused, or the refusal
abbrev pub PlanSays : (answer : Option Refusal) → Size → (design room pins : List ℕ) → Result Plan Refusal → Type 0
PlanSays answer z xs room pins o = MatchResult o (λ p. (answer ≡ None) × Planned z xs room pins p) (λ f. answer ≡ Some f)

-- what is planned is carried out
abbrev pub CarriesOut : Result Plan Refusal → (room pins : List ℕ) → Made → (room₁ pins₁ : List ℕ) → Type 0
CarriesOut o room pins r room₁ pins₁ =
    MatchResult o (λ p. (z : Size) (xs : List ℕ) → Planned z xs room pins p → Places xs z room pins r room₁ pins₁) (Refuses room pins r room₁ pins₁)

-- the number x, at place j of those of the fabric's cell c, is what the plan has there
pub record NumberAt (z : Size) (i n : ℕ) (cell : CellT) (c j x : ℕ) : Type 0 where
  pub table : j < 16 → (x == 1) ≡ word cell.table j
  pub input : (k : ℕ) → k < 4 → j ≡ 16 + k → source_of x ≡ plain_source z i c (input_of cell k)
  pub holds : j ≡ 20 → (x == 1) ≡ cell.holds
  pub initial : j ≡ 21 → (x == 1) ≡ cell.initial
  pub drive : (s : Side) (t : ℕ) → t < z.tracks → j ≡ 22 + (side_number s * z.tracks + t) → source_of x ≡ plain_source z i c (plain_net i n t)

abbrev pub PlanHas : Plan → (c j x : ℕ) → Type 0
PlanHas p c j x = NumberAt (grid_of p) (inputs_of p) (count_of p) (cell_of p c) c j x

-- the numbers of the cells below c, in the room
abbrev pub CellsWritten : Plan → (c : ℕ) → List ℕ → Type 0
CellsWritten p c xs = (b j : ℕ) → b < c → j < per_cell (grid_of p) → PlanHas p b j (slice_index xs (b * per_cell (grid_of p) + j))

-- the pin of number m: those of the input bits, then those of the output bits
unfoldable pub pin_of : Plan → ℕ → Pin
pin_of p m = cond (nat_lt m (inputs_of p)) (record { cell = 0; side = Left; track = m })
    (record { cell = 0; side = Above; track = inputs_of p + slice_index p.netlist.outputs (m - inputs_of p) })

-- the first m pins are written, and what lies past them is as it was
pub record PinsWritten (p : Plan) (m : ℕ) (pins pins₁ : List ℕ) : Type 0 where
  pub written : (q : ℕ) → q < m → PinAt pins₁ q (pin_of p q)
  pub rest : (k : ℕ) → 3 * m ≤ k → slice_index pins₁ k ≡ slice_index pins k
