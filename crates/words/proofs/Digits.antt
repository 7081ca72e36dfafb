-- A text is of digits where each of its bytes is one.
use Rattle.std.proofs.Common.{◌≡◌, ℕ, ◌<◌, Bool, true, false, List, length, MatchBool, sym, refl, ◌∙◌, arith}
use Rattle.std.specs.Char.{is_ascii_digit}
use Rattle.std.specs.List.{list_all}
use Rattle.std.specs.Str.Parse.{IsNumeral, digits_value}
use Rattle.std.proofs.lemmas.Bool.{and_parts, false≢true}
use Rattle.std.proofs.lemmas.Str.Parse.{IsDigitsTest, IsNumeralModel, numerals_by_value}
use Rattle.std.proofs.lemmas.Bool.Decides.{nat_tests}

abbrev Digits : List ℕ → Type 0
Digits ds = list_all is_ascii_digit ds ≡ true

tells : IsDigitsTest Digits
tells = record {
  empty = refl;
  parts = λ c cs h. let p = and_parts (is_ascii_digit c) (list_all is_ascii_digit cs) h in (grind (arith, nat_tests), p.1);
  more = λ c cs k h. grind (arith, nat_tests);
}

own : IsNumeralModel Digits (digits_value 10)
own = numerals_by_value Digits tells

pub told : (b : Bool) (ds : List ℕ) → b ≡ list_all is_ascii_digit ds → 0 < length ds → MatchBool b (IsNumeral 10 ds) (IsNumeral 10 ds → ⊥)
told true ds e l = (l, own.to ds (sym e))
told false ds e l = λ n. false≢true (e ∙ own.from ds n.1)
