use Rattle.std.proofs.Common.{◌≡◌, ℕ, ◌+◌, ◌*◌, ◌<◌, ◌≤◌, min, List, length, get_or, set, refl, rules, arith, ◌∙◌, ⊎_elim, get_or-set_other, get_or-set_same}
use Rattle.std.proofs.lemmas.Bool.{cases_eq}
use Rattle.std.proofs.lemmas.List.{length-set}
use Rattle.design.specs.Designs.{total}
use Rattle.netlist.proofs.Totals.{total_zero}
use Rattle.netlist.proofs.starts.Starts.new.Goals as goal

pub loop-q-init : goal.loop-q-init
loop-q-init g c = (refl, λ widths is k h. let e : k ≡ 0 = omega arith in rw e (omega (arith, total_zero widths)))

-- one more mark
more : (xs : List ℕ) (q b : ℕ) (widths : ℕ → ℕ) → q + 1 < length xs → ((k : ℕ) → k ≤ q → get_or xs k 0 ≡ min 65535 (total (64 * k) widths)) →
    b ≡ min 65535 (total (64 * (q + 1)) widths) → (k : ℕ) → k ≤ q + 1 → get_or (set xs (q + 1) b) k 0 ≡ min 65535 (total (64 * k) widths)
more xs q b widths room before is k h = ⊎_elim
    (λ (e : k ≡ q + 1). rw e (get_or-set_same xs (q + 1) b 0 room ∙ is))
    (λ (ne : k ≡ q + 1 → ⊥). get_or-set_other xs (q + 1) k b 0 ne ∙ before k (omega arith))
    (cases_eq k (q + 1))

pub loop-q-preserved : goal.loop-q-preserved
loop-q-preserved g c =
    let i = c.loop-q.invariant in (
      length-set c.loop-q.marks (c.loop-q.q + 1) c.bits_up_to.result ∙ i.0,
      λ widths is. more c.loop-q.marks c.loop-q.q c.bits_up_to.result widths (omega (arith, i.0)) (i.1 widths is)
          (c.bits_up_to.ensures widths (λ j w h p. search (rules, is)) (omega arith) (i.1 widths is c.loop-q.q (omega arith))),
    )

pub returns : goal.returns
returns g c = λ widths is. record {
  single = λ e. absurd cc;
  marks = λ ms e k h. let same : ms ≡ c.loop-q.marks = cc in rw same (c.loop-q.invariant.1 widths is k (omega arith));
}
