-- The first number below n at which a test fails: a loop's steps, what `find` over a range answers, and what None says.
use Rattle.std.proofs.Common.{◌≡◌, ℕ, zero, suc, ◌+◌, ◌<◌, ◌≤◌, Bool, true, false, not, Some, None, Option, MatchOption, refl, sym, inl, inr, add-one, arith}
use Rattle.std.specs.Option.{option_or}
use Rattle.std.specs.Bool.{then_some}
use Rattle.std.proofs.lemmas.Bool.{cases_order}
use Rattle.design.specs.Numbers.{first_failing}

-- one more that passes, and one that fails
pub first_more : (test : ℕ → Bool) (i : ℕ) → first_failing test i ≡ None → test i ≡ true → first_failing test (i + 1) ≡ None
unfolding first_failing
first_more test i h t = rw add-one (simp (h, t))

pub first_here : (test : ℕ → Bool) (i : ℕ) → first_failing test i ≡ None → test i ≡ false → first_failing test (suc i) ≡ Some i
unfolding first_failing
first_here test i h t = simp (h, t)

stays : (test : ℕ → Bool) (i n : ℕ) → first_failing test n ≡ Some i → first_failing test (suc n) ≡ Some i
unfolding first_failing
stays test i n h = simp h

pub first_found : (test : ℕ → Bool) (i n : ℕ) → first_failing test i ≡ None → test i ≡ false → i < n → first_failing test n ≡ Some i
first_found test i zero h t l = absurd (omega arith)
first_found test i (suc n) h t l = elim (cases_order i n) [
  | inl e ↦ rw (← e) (first_here test i h t)
  | inr s ↦ elim s [ inl b ↦ stays test i n (first_found test i n h t b) | inr b ↦ absurd (omega arith) ]
]

-- nothing fails
parts : (o : Option ℕ) (b : Bool) (n : ℕ) → option_or o (then_some (not b) n) ≡ None → (o ≡ None) × (b ≡ true)
parts None true n h = (refl, refl)
parts None false n h = absurd (let z : ◌≡◌ {A = ℕ} 0 1 = cc in omega arith)
parts (Some x) b n h = absurd (let z : ◌≡◌ {A = ℕ} 0 1 = cc in omega arith)

pub first_none : (test : ℕ → Bool) (n : ℕ) → first_failing test n ≡ None → (k : ℕ) → k < n → test k ≡ true
unfolding first_failing
first_none test zero h k l = absurd (omega arith)
first_none test (suc n) h k l =
    let p = parts (first_failing test n) (test n) n h in
    elim (cases_order k n) [
      | inl e ↦ rw e p.1
      | inr s ↦ elim s [ inl b ↦ first_none test n p.0 k b | inr b ↦ absurd (omega arith) ]
    ]

pub none_first : (test : ℕ → Bool) (n : ℕ) → ((k : ℕ) → k < n → test k ≡ true) → first_failing test n ≡ None
unfolding first_failing
none_first test zero all = refl
none_first test (suc n) all =
    let h = none_first test n (λ k l. all k (omega arith)) in
    let t : test n ≡ true = all n (omega arith) in
    simp (h, t)

pub first_start : (test : ℕ → Bool) → first_failing test 0 ≡ None
unfolding first_failing
first_start test = refl

pub first_end : (test : ℕ → Bool) (k n : ℕ) → k ≡ n → first_failing test k ≡ None → first_failing test n ≡ None
first_end test k n e h = rw e at h

-- what `find` over the range to n answers, if it looks for a number at which the test fails
pub first_from_find : (test : ℕ → Bool) (n m : ℕ) (r : Option ℕ) → m ≡ n →
    MatchOption r ((k : ℕ) → 0 ≤ k → k < m → test k ≡ true) (λ i. (0 ≤ i) × (i < m) × (test i ≡ false) × ((k : ℕ) → 0 ≤ k → k < i → test k ≡ true)) →
    r ≡ first_failing test n
first_from_find test n m None e h = sym (none_first test n (λ k l. h k (omega arith) (omega arith)))
first_from_find test n m (Some i) e h = sym (first_found test i n (none_first test i (λ k l. h.3 k (omega arith) l)) h.2 (omega (arith, h.1)))
