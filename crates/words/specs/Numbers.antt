-- The decimal numbers that a word may be.
use Rattle.std.specs.Prelude.{◌≡◌, ℕ, ◌-◌, ◌^◌, ◌<◌, min, List, Option, MatchOption}
use Rattle.std.specs.Str.Parse.{IsNumeral, digits_value}

-- one that fits 64 bits: one digit or more, and nothing else
abbrev pub Decimal : List ℕ → Option ℕ → Type 0
Decimal text r = MatchOption r (IsNumeral 10 text → digits_value 10 text < 2 ^ 64 → ⊥) (λ n. IsNumeral 10 text × (n ≡ digits_value 10 text))

-- one of any size; what doesn't fit 64 bits counts as the largest number that does
abbrev pub Capped : List ℕ → Option ℕ → Type 0
Capped text r = MatchOption r (IsNumeral 10 text → ⊥) (λ n. IsNumeral 10 text × (n ≡ min (digits_value 10 text) (2 ^ 64 - 1)))
