use Rattle.std.proofs.Common.{◌≡◌, ℕ, ◌+◌, ◌-◌, ◌<◌, ◌≤◌, min, List, [], ◌∷◌, ◌++◌, length, get_or, arith, rules, refl, sym, ◌∙◌}
use Rattle.std.proofs.iter.Yields.{nat_range_steps}
use Rattle.std.specs.List.{range_with_len}
use Rattle.std.proofs.lemmas.Fn.{fold_over}
use Rattle.std.proofs.lemmas.Iterator.{YieldsList-from_range}
use Rattle.std.proofs.lemmas.List.{length_push, get_or_push, get_or_append_left}
use Rattle.std.proofs.lemmas.List.FromFn.{length-range_with_len, get_or-range_with_len}
use Rattle.design.specs.Designs.{total}
use Rattle.netlist.proofs.Totals.{total_more}
use Rattle.netlist.proofs.starts.bits_up_to.Goals as goal

-- the sum of the words so far, the first of which is `from`
abbrev Summed : (from n : ℕ) (widths : ℕ → ℕ) → List ℕ → ℕ → Type 0
Summed from n widths ys bits = ((k : ℕ) → k < length ys → get_or ys k 0 ≡ from + k) → from + length ys ≤ n → bits ≡ min 65535 (total (from + length ys) widths)

-- a step of the fold
one_more : (from n : ℕ) (widths : ℕ → ℕ) (ys : List ℕ) (a x b : ℕ) → Summed from n widths ys a → (x < n → b ≡ min 65535 (a + widths x)) → Summed from n widths (ys ++ x ∷ []) b
one_more from n widths ys a x b before step at few =
    let long = length_push ys x in
    let last : x ≡ from + length ys = sym (get_or_push ys x 0 (length ys) refl) ∙ at (length ys) (omega (arith, long)) in
    let sum = before (λ k l. sym (get_or_append_left ys (x ∷ []) 0 k l) ∙ at k (omega (arith, long))) (omega (arith, long)) in
    let s : b ≡ min 65535 (a + widths (from + length ys)) = rw last at (step (omega (arith, long))) in
    let e : from + (length ys + 1) ≡ from + length ys + 1 = omega arith in
    rw (long, e) (omega (arith, sum, s, total_more (from + length ys) widths))

pub returns : goal.returns
returns g c = λ widths is order begin.
    let from = c.args.from in
    let n = c.args.word in
    let long = length-range_with_len from (n - from) in
    let e : from + 0 ≡ from = omega arith in
    let r = fold_over nat_range_steps (λ x. x) _ (Summed from n widths) _
    (λ ys a x b f' j k. (one_more from n widths ys a x b j (λ l. search (rules, is)), search rules))
    (record { start = from; end = n }) (range_with_len from (n - from)) c.args.bits c.fold.result (YieldsList-from_range from n (n - from) refl refl).runs (λ _ _. rw e begin) c.fold.ensures.ran
    (λ k l. get_or-range_with_len from (n - from) k 0 (omega (arith, long))) (omega (arith, long)) in
    let all : from + (n - from) ≡ n = omega arith in
    rw (long, all) at r
