-- Which designs can be lowered: what the tests of the code say.
use Rattle.std.proofs.Common.{◌≡◌, ℕ, ◌<◌, ◌≤◌, Bool, true, false, List, length, get_or, is_some, Some, None, Option, sym, refl, ap, ◌∙◌, arith, MatchOption}
use Rattle.std.specs.Bool.{MatchBool}
use Rattle.std.specs.List.{range_with_len, AllWithin, HoldsAt}
use Rattle.std.proofs.lemmas.List.FromFn.{length-range_with_len, get_or-range_with_len}
use Rattle.std.proofs.lemmas.Bool.{eq-eqb, ne_eqb, true≢false}
use Rattle.design.specs.declared.node.Node.{Node}
use Rattle.design.specs.declared.refusal.Refusal.TheVariants.{NotYet}
use Rattle.design.specs.Numbers.{nodes_of, node_in, first_failing, design_in}
use Rattle.design.proofs.First.{first_none, none_first, first_from_find}
use Rattle.netlist.specs.NotYet.{kind_landed, node_landed, input_single, register_single, wide, lowering_refusal}

at_node : (o : Option Node) (node : Node) → o ≡ Some node → kind_landed node ≡ (elim o [ None ↦ false | Some node ↦ kind_landed node ])
at_node o node h = rw h

pub node_test : (xs : List ℕ) (n : ℕ) (node : Node) → node_in xs n ≡ Some node → kind_landed node ≡ node_landed xs n
unfolding node_landed
node_test xs n node h = at_node (node_in xs n) node h

pub input_test : (xs : List ℕ) (i : ℕ) → (design_in xs).input_width i ≡ 1 → input_single xs i ≡ true
unfolding input_single design_in
input_test xs i h = eq-eqb _ 1 h

pub input_fails : (xs : List ℕ) (i : ℕ) → ((design_in xs).input_width i ≡ 1 → ⊥) → input_single xs i ≡ false
unfolding input_single design_in
input_fails xs i h = ne_eqb _ 1 h

pub register_test : (xs : List ℕ) (r : ℕ) → (design_in xs).register_width r ≡ 1 → register_single xs r ≡ true
unfolding register_single design_in
register_test xs r h = eq-eqb _ 1 h

pub register_fails : (xs : List ℕ) (r : ℕ) → ((design_in xs).register_width r ≡ 1 → ⊥) → register_single xs r ≡ false
unfolding register_single design_in
register_fails xs r h = ne_eqb _ 1 h

-- what `find` over the range to n answers, of a test that is known of the numbers below n only
pub first_by : (test : ℕ → Bool) (n m : ℕ) (r : Option ℕ) → m ≡ n →
    MatchOption r ((k : ℕ) → 0 ≤ k → k < m → k < n → test k ≡ true)
    (λ i. (0 ≤ i) × (i < m) × (i < n → test i ≡ false) × ((k : ℕ) → 0 ≤ k → k < i → k < n → test k ≡ true)) → r ≡ first_failing test n
first_by test n m None e h = first_from_find test n m None e (λ k z l. h k z l (omega arith))
first_by test n m (Some i) e h =
    let below : i < n = omega (arith, h.1) in
    first_from_find test n m (Some i) e (h.0, h.1, h.2 below, λ k z l. h.3 k z l (omega arith))

fails_at : (test : ℕ → Bool) (n k : ℕ) (o : Option ℕ) → first_failing test n ≡ o → k < n → test k ≡ false → true ≡ is_some o
fails_at test n k None e h f = absurd (true≢false (sym (first_none test n e k h) ∙ f))
fails_at test n k (Some i) e h f = refl

number : (m k : ℕ) → k < m → get_or (range_with_len 0 m) k 0 ≡ k
number m k h = omega (arith, get_or-range_with_len 0 m k 0 h)

pub any_by : (test : ℕ → Bool) (n m : ℕ) (r : Bool) → m ≡ n →
    MatchBool r ((k : ℕ) × (k < length (range_with_len 0 m)) × HoldsAt (λ i. test i ≡ false) (range_with_len 0 m) k)
    (AllWithin (λ i. test i ≡ true) (range_with_len 0 m) 0 (length (range_with_len 0 m))) → r ≡ is_some (first_failing test n)
any_by test n m true e h =
    let below : h.0 < m = omega (arith, h.1, length-range_with_len 0 m) in
    let at : test (get_or (range_with_len 0 m) h.0 0) ≡ false = h.2 0 in
    let here : test h.0 ≡ false = ap test (sym (number m h.0 below)) ∙ at in
    fails_at test n h.0 (first_failing test n) refl (omega arith) here
any_by test n m false e h =
    let all : (k : ℕ) → k < n → test k ≡ true = λ k l.
    let below : k < m = omega arith in
    let at : test (get_or (range_with_len 0 m) k 0) ≡ true = h k 0 (omega arith) (omega (arith, length-range_with_len 0 m)) in
    ap test (sym (number m k below)) ∙ at in
    rw (none_first test n all) refl

-- the answers of `landed`
pub other_node : (xs : List ℕ) (n : ℕ) → Some n ≡ first_failing (node_landed xs) (nodes_of xs) → lowering_refusal xs ≡ Some (NotYet n)
unfolding lowering_refusal
other_node xs n h = rw (← h) refl

pub wide_words : (xs : List ℕ) (n : ℕ) → None ≡ first_failing (node_landed xs) (nodes_of xs) → wide xs ≡ true → n ≡ nodes_of xs → lowering_refusal xs ≡ Some (NotYet n)
unfolding lowering_refusal
wide_words xs n h w e = rw (← h, w, e) refl

pub all_landed : (xs : List ℕ) → None ≡ first_failing (node_landed xs) (nodes_of xs) → wide xs ≡ false → lowering_refusal xs ≡ None
unfolding lowering_refusal
all_landed xs h w = rw (← h, w) refl
