-- What `put` and `put_words` answer and leave behind, as a function of the numbers that it is lent.
-- A reader has to believe these definitions. They assume nothing.
use Rattle.std.specs.Prelude.{◌≡◌, ℕ, ◌+◌, ◌*◌, ◌<◌, ◌≤◌, min, not, ◌⊎◌, List, length, Option, MatchOption, ◌==◌, nat_lt, slice_index}
use Rattle.std.specs.Option.{option_or}
use Rattle.std.specs.Bool.{then_some}
use Rattle.design.specs.declared.refusal.Refusal.{Refusal}
use Rattle.design.specs.declared.refusal.Refusal.TheVariants.{RoomLength, Pins, Cells, NetTracks, NotYet}
use Rattle.design.specs.Designs.{Design, Sound, total, output_width, input_bits, output_bits, plain_cells, plain_tracks}
use Rattle.design.specs.Numbers.{nodes_of, design_in, reading_refusal, soundness_refusal}
use Rattle.fabric.specs.Fabrics.{Size, cell_count}
use Rattle.fabric.specs.Implements.{Implements}
use Rattle.fabric.specs.Implements.{Pins as PinsOf}
use Rattle.fabric.specs.Numbers.{room_length, config_in, PinAt, size_refusal}
use Rattle.netlist.specs.NotYet.{lowering_refusal}
use Rattle.bitstream.specs.declared.Made.{Made}
use Rattle.bitstream.specs.declared.Made.TheVariants.{Placed, Refused}

-- 1. Refusals.

-- how many pins a design has
unfoldable pub pin_count : Design → ℕ
pin_count d = input_bits d + output_bits d

-- refusals 1 to 6, the first that applies: the fabric, the list, the room, the design, the pins
unfoldable pub put_refusal : Size → (design room pins : List ℕ) → Option Refusal
put_refusal z xs room pins =
    option_or (size_refusal z)
    (option_or (reading_refusal xs)
    (option_or (then_some (not (length room == room_length z)) RoomLength)
    (option_or (soundness_refusal (design_in xs))
    (then_some (nat_lt (length pins) (3 * pin_count (design_in xs))) (Pins (pin_count (design_in xs)))))))

-- refusal 7: the plain layout takes more cells, or else more tracks, than there are; above 65,536 it says 65,536
unfoldable pub plain_refusal : Size → Design → Option Refusal
plain_refusal z d =
    option_or (then_some (nat_lt (cell_count z) (plain_cells d)) (Cells (min 65536 (plain_cells d))))
    (then_some (nat_lt z.tracks (plain_tracks d)) (NetTracks (min 65536 (plain_tracks d))))

-- refusal 9: a design that can't be lowered yet, or a fabric of several rows
unfoldable pub not_yet : Size → (design : List ℕ) → Option Refusal
not_yet z xs = option_or (lowering_refusal xs) (then_some (not (z.rows == 1)) (NotYet (nodes_of xs)))

-- 2. Answers.

-- The room holds a configuration, and the list of pins first those of the inputs, then those of the outputs, word by word and bit by bit from
-- the low one, such that they implement the design. What lies past the pins is as it was.
pub record Puts (d : Design) (z : Size) (room pins room₁ pins₁ : List ℕ) : Type 0 where
  pub room_kept : length room₁ ≡ length room
  pub pins_kept : length pins₁ ≡ length pins
  pub ins_at : PinsOf
  pub outs_at : PinsOf
  pub implements : Implements d z (config_in z room₁) ins_at outs_at
  pub ins_written : (i k : ℕ) → i < d.inputs → k < d.input_width i → PinAt pins₁ (total i d.input_width + k) (ins_at i k)
  pub outs_written : (o k : ℕ) → o < d.outputs → k < output_width d o → PinAt pins₁ (input_bits d + (total o (output_width d) + k)) (outs_at o k)
  pub rest_kept : (m : ℕ) → 3 * pin_count d ≤ m → slice_index pins₁ m ≡ slice_index pins m

abbrev pub Refuses : (room pins : List ℕ) → Made → (room₁ pins₁ : List ℕ) → Refusal → Type 0
Refuses room pins r room₁ pins₁ f = (r ≡ Refused f) × (room₁ ≡ room) × (pins₁ ≡ pins)

abbrev pub Places : (xs : List ℕ) → Size → (room pins : List ℕ) → Made → (room₁ pins₁ : List ℕ) → Type 0
Places xs z room pins r room₁ pins₁ = (r ≡ Placed) × Sound (design_in xs) × Puts (design_in xs) z room pins room₁ pins₁

-- The first refusal of 1 to 7 that applies, and nothing lent changes; else what is said of a design that `fits`. Where the plain layout has
-- no room, the design may be placed all the same.
abbrev pub Answers : (fits : Type 0) → (xs : List ℕ) → Size → (room pins : List ℕ) → Made → (room₁ pins₁ : List ℕ) → Type 0
Answers fits xs z room pins r room₁ pins₁ =
    MatchOption (put_refusal z xs room pins)
    (MatchOption (plain_refusal z (design_in xs)) fits
    (λ f. Places xs z room pins r room₁ pins₁ ⊎ Refuses room pins r room₁ pins₁ f))
    (Refuses room pins r room₁ pins₁)

-- `put_words` places every design that fits.
abbrev pub PutWordsSays : Size → (design room pins : List ℕ) → Made → (room₁ pins₁ : List ℕ) → Type 0
PutWordsSays z xs room pins r room₁ pins₁ = Answers (Places xs z room pins r room₁ pins₁) xs z room pins r room₁ pins₁

-- `put` turns away those of refusal 9.
abbrev pub PutSays : Size → (design room pins : List ℕ) → Made → (room₁ pins₁ : List ℕ) → Type 0
PutSays z xs room pins r room₁ pins₁ =
    Answers (MatchOption (not_yet z xs) (Places xs z room pins r room₁ pins₁) (Refuses room pins r room₁ pins₁)) xs z room pins r room₁ pins₁
