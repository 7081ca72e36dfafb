-- The cells of the plain placement have places of their own.
use Rattle.std.proofs.Common.{◌≡◌, ℕ, ◌<◌, ◌≤◌, Bool, true, false, ltb, ◌⊎◌, refl, inl, inr, arith}
use Rattle.std.proofs.lemmas.Bool.Decides.{nat_tests}
use Rattle.netlist.specs.declared.parts.Net.TheVariants.{Zero, Cell}
use Rattle.place.specs.Plain.{plain_occupant, PlainPlaces}

pub occupied : (n c : ℕ) → c < n → plain_occupant n c ≡ Cell c
unfolding plain_occupant
occupied n c l = grind (arith, nat_tests)

pub free : (n c : ℕ) → n ≤ c → plain_occupant n c ≡ Zero
unfolding plain_occupant
free n c l = grind (arith, nat_tests)

-- what the occupant says of the cell
pub occupant_is : (n c j : ℕ) → plain_occupant n c ≡ Cell j → (j ≡ c) × (c < n)
unfolding plain_occupant
occupant_is n c j e = grind (arith, nat_tests)

pub occupant_none : (n c : ℕ) → plain_occupant n c ≡ Zero → n ≤ c
unfolding plain_occupant
occupant_none n c e = grind (arith, nat_tests)

only_one : (n c : ℕ) (b : Bool) → ltb c n ≡ b →
    (plain_occupant n c ≡ Zero) ⊎ ((j : ℕ) × (j < n) × (plain_occupant n c ≡ Cell j) × (j ≡ c))
only_one n c true e = let l : c < n = grind (arith, nat_tests) in inr (c, l, occupied n c l, refl)
only_one n c false e = let l : n ≤ c = grind (arith, nat_tests) in inl (free n c l)

pub plain_places : PlainPlaces
plain_places n z room = record {
  inside = λ j l. omega arith;
  there = λ j l. occupied n j l;
  only = λ c l. only_one n c (ltb c n) refl;
}
