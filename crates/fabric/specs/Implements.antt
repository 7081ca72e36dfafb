-- When a configuration and pins implement a design.
-- A reader has to believe these definitions. They assume nothing.
use Rattle.std.specs.Prelude.{◌≡◌, ℕ, ◌<◌, true, List, [], ◌∷◌}
use Rattle.design.specs.Designs.{Words, Design, output_width, output_at}
use Rattle.fabric.specs.declared.parts.Pin.{Pin}
use Rattle.fabric.specs.Fabrics.{Size, cell_count, at_edge, Config, Pads, final, Settles, held_after}

-- where bit k of word i goes in, or comes out
abbrev pub Pins : Type 0
Pins = ℕ → ℕ → Pin

pub record OnEdge (z : Size) (q : Pin) : Type 0 where
  pub cell : q.cell < cell_count z
  pub track : q.track < z.tracks
  pub edge : at_edge z q.cell q.side ≡ true

-- no two bits of so many words of given widths share a pin
abbrev pub Apart : (n : ℕ) (width : ℕ → ℕ) → Pins → Type 0
Apart n width pins = (i k j l : ℕ) → i < n → k < width i → j < n → l < width j → pins i k ≡ pins j l → (i ≡ j) × (k ≡ l)

-- the pads carry the input words by the pins; what other pads carry is anything
abbrev pub Drives : Design → Pins → Words → Pads → Type 0
Drives d pins ins p = (i k : ℕ) → i < d.inputs → k < d.input_width i → p (pins i k).cell (pins i k).side (pins i k).track ≡ ins i k

pub data DrivesAll (d : Design) (pins : Pins) : List Words → List Pads → Type 0 where
  none : DrivesAll d pins [] []
  more : {ins : Words} {is : List Words} {p : Pads} {ps : List Pads} → Drives d pins ins p → DrivesAll d pins is ps → DrivesAll d pins (ins ∷ is) (p ∷ ps)

-- For every stream, and whatever the other pads carry, the fabric settles in every tick and its pins show what the design shows.
pub record Implements (d : Design) (z : Size) (b : Config) (ins_at outs_at : Pins) : Type 0 where
  pub ins_edge : (i k : ℕ) → i < d.inputs → k < d.input_width i → OnEdge z (ins_at i k)
  pub ins_apart : Apart d.inputs d.input_width ins_at
  pub outs_edge : (o k : ℕ) → o < d.outputs → k < output_width d o → OnEdge z (outs_at o k)
  pub outs_apart : Apart d.outputs (output_width d) outs_at
  pub settles : (is : List Words) (ps : List Pads) (ins : Words) (p : Pads) → DrivesAll d ins_at is ps → Drives d ins_at ins p →
      Settles z b (held_after z b ps) p
  pub shows : (is : List Words) (ps : List Pads) (ins : Words) (p : Pads) → DrivesAll d ins_at is ps → Drives d ins_at ins p →
      (o k : ℕ) → o < d.outputs → k < output_width d o →
      (final z b (held_after z b ps) p).track (outs_at o k).cell (outs_at o k).side (outs_at o k).track ≡ output_at d ins is o k
