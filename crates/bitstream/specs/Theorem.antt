-- Theorems of implementations: what implements a design, that implementations exist, and what they show.
use Rattle.std.specs.Prelude.{◌≡◌, ℕ, ◌+◌, ◌<◌, ◌≤◌, List, [], ◌∷◌, slice_index}
use Rattle.design.specs.Designs.{bit, Words, Design, Sound, total, input_bits, output_bits, output_width, output_at, plain_cells, plain_tracks}
use Rattle.fabric.specs.Fabrics.{Size, cell_count, Config, Pads, Settles}
use Rattle.fabric.specs.Implements.{Pins, Implements, Drives, DrivesAll}
use Rattle.fabric.specs.Numbers.{held_in, pads_in, pad_place, Ticks}
use Rattle.netlist.specs.Netlists.{Netlist, Lowers}
use Rattle.route.specs.Layouts.{Layout, Realizes}

-- the pins of words, bit by bit
abbrev pub input_pins : Design → Layout → Pins
input_pins d l i k = l.in_pin (total i d.input_width + k)

abbrev pub output_pins : Design → Layout → Pins
output_pins d l o k = l.out_pin (total o (output_width d) + k)

-- A netlist that computes what the design computes, and a configuration that lays it out, implement the design.
abbrev pub LayoutsImplement : Type 0
LayoutsImplement = (d : Design) (n : Netlist) (z : Size) (b : Config) (l : Layout) (most : ℕ) →
    Lowers d n → Realizes n z (input_bits d) (output_bits d) b l most → Implements d z b (input_pins d l) (output_pins d l)

-- Every sound design for which the plain layout has room, of any size and on any fabric, has a configuration and pins that implement it.
abbrev pub ImplementationsExist : Type 0
ImplementationsExist = (d : Design) (z : Size) → Sound d → 0 < z.columns → 0 < z.rows → plain_cells d ≤ cell_count z → plain_tracks d ≤ z.tracks →
    (b : Config) × (ins_at : Pins) × (outs_at : Pins) × Implements d z b ins_at outs_at

-- A run of the fabric in numbers: `held` is what its cells hold after ticks with these pads, which are listed latest first.
pub data Run (z : Size) (b : Config) : (pads : List (List ℕ)) (held : List ℕ) → Type 0 where
  begin : {held : List ℕ} → ((c : ℕ) → c < cell_count z → held_in held c ≡ b.initial c) → Run z b [] held
  tick : {before : List (List ℕ)} {pads held outs held₁ outs₁ : List ℕ} → Run z b before held → Ticks z b held pads outs held₁ outs₁ → Run z b (pads ∷ before) held₁

-- the pads of all ticks
unfoldable pub all_pads : Size → List (List ℕ) → List Pads
all_pads z [] = []
all_pads z (p ∷ ps) = pads_in z p ∷ all_pads z ps

-- A configuration and pins that implement a design, played tick by tick: the fabric settles in every tick and its pins show, bit by bit, what
-- the design shows, for every stream and whatever the other pads carry.
abbrev pub RunsShow : Type 0
RunsShow = (d : Design) (z : Size) (b : Config) (ins_at outs_at : Pins) → Implements d z b ins_at outs_at →
    (before : List (List ℕ)) (held pads : List ℕ) (is : List Words) (ins : Words) →
    Run z b before held → DrivesAll d ins_at is (all_pads z before) → Drives d ins_at ins (pads_in z pads) →
    Settles z b (held_in held) (pads_in z pads)
    × ((outs held₁ outs₁ : List ℕ) → Ticks z b held pads outs held₁ outs₁ → (o k : ℕ) → o < d.outputs → k < output_width d o →
    slice_index outs₁ (pad_place z (outs_at o k).cell (outs_at o k).side (outs_at o k).track) ≡ bit (output_at d ins is o k))
