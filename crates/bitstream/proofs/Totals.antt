-- Bits counted over words: each bit has a place of its own below the total.
use Rattle.std.proofs.Common.{◌≡◌, ℕ, ◌+◌, ◌<◌, ◌≤◌, ap, ⊎_elim, arith}
use Rattle.std.proofs.lemmas.Bool.{cases_lt}
use Rattle.design.specs.Designs.{total}
use Rattle.netlist.proofs.Totals.{total_within}

pub total_apart : (f : ℕ → ℕ) (i j k l : ℕ) → k < f i → l < f j → total i f + k ≡ total j f + l → (i ≡ j) × (k ≡ l)
total_apart f i j k l m o e = ⊎_elim
    (λ (b : i < j). absurd (omega (arith, total_within f i j k b m)))
    (λ (b : j ≤ i). ⊎_elim
    (λ (a : j < i). absurd (omega (arith, total_within f j i l a o)))
    (λ (a : i ≤ j). let same : i ≡ j = omega arith in (same, omega (arith, ap (λ (n : ℕ). total n f) same)))
    (cases_lt j i))
    (cases_lt i j)
