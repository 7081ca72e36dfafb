-- What the readers of texts answer.
use Rattle.std.specs.Prelude.{◌≡◌, ℕ, ◌+◌, ◌-◌, ◌*◌, ◌<◌, cond, ◌&&◌, List, length, Some, None, Option, MatchOption, nat_le, slice_index}
use Rattle.std.specs.Borrow.{Bor}
use Rattle.words.specs.Cuts.{piece_at}
use Rattle.std.specs.Str.Parse.{IsNumeral, digits_value}

-- the word at a place; past the end an empty one
abbrev pub word_at : List (Bor (List ℕ)) → ℕ → List ℕ
word_at words at = piece_at words at

-- a decimal number that fits 16 bits
abbrev pub Small : List ℕ → Option ℕ → Type 0
Small text r = MatchOption r (IsNumeral 10 text → digits_value 10 text < 65536 → ⊥) (λ n. IsNumeral 10 text × (n ≡ digits_value 10 text))

-- the value of a lower-case hexadecimal digit
abbrev pub hex_value : ℕ → Option ℕ
hex_value b = cond (nat_le 48 b && nat_le b 57) (Some (b - 48)) (cond (nat_le 97 b && nat_le b 102) (Some (b - 87)) None)

-- the number of four lower-case hexadecimal digits, the high one first
pub record HexNumber (text : List ℕ) (n : ℕ) : Type 0 where
  pub a : ℕ
  pub b : ℕ
  pub c : ℕ
  pub d : ℕ
  pub long : length text ≡ 4
  pub first : hex_value (slice_index text 0) ≡ Some a
  pub second : hex_value (slice_index text 1) ≡ Some b
  pub third : hex_value (slice_index text 2) ≡ Some c
  pub fourth : hex_value (slice_index text 3) ≡ Some d
  pub sum : n ≡ a * 4096 + b * 256 + c * 16 + d
