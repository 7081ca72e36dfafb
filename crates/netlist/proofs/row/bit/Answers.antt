use Rattle.std.proofs.Common.{◌≡◌, ℕ, zero, ◌/◌, ◌%◌, ◌^◌, ◌<◌, ◌≤◌, false, eqb, sym, refl, ap, ◌∙◌, arith, pow_mono}
use native.Mathlib.Nat.{div-eq_of_lt}
use Rattle.std.proofs.lemmas.Bool.{le-ltb}
use Rattle.design.specs.Designs.{word}
use Rattle.netlist.proofs.row.bit.Goals as goal

past : (v k : ℕ) → v < 65536 → 16 ≤ k → false ≡ word v k
unfolding word
past v k h l =
    let p : 2 ^ 16 ≤ 2 ^ k = pow_mono l in
    let e : v / 2 ^ k ≡ zero = div-eq_of_lt (omega arith) in
    sym (ap (λ q. eqb (q % 2) 1) e)

pub returns-then-k-lt16 : goal.returns-then-k-lt16
unfolding word
returns-then-k-lt16 c = refl

pub returns-else-k-lt16 : goal.returns-else-k-lt16
returns-else-k-lt16 c = le-ltb c.args.k 16 c.if-k-lt16.false ∙ past c.args.value c.args.k (omega arith) c.if-k-lt16.false
