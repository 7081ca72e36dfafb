-- What `array::from_fn` makes of a function that stays as it is.
use Rattle.std.proofs.Common.{◌≡◌, ℕ, zero, suc, ◌+◌, ◌<◌, List, get_or, sym, subst, arith}
use Rattle.std.specs.Array.{IsFromFnResultFrom}
use denote.Param.Members.{Mut, Called}

module _ {F B : Type 0} (g : Mut F (ℕ × Unit {0}) B) (f : F) (P : ℕ → B → Type 0) (step : (i : ℕ) (y : B) (q : F) → Called g f (i, tt) y q → (q ≡ f) × P i y) (ys : List B) (d : B) where
  at_place : (i j : ℕ) → i ≡ j → P i (get_or ys i d) → P j (get_or ys j d)
  at_place i j e p = subst (λ m. P m (get_or ys m d)) e p

  made_from : (i n : ℕ) → IsFromFnResultFrom g f ys i n → (k : ℕ) → k < n → P (i + k) (get_or ys (i + k) d)
  made_from i zero e k h = absurd (omega arith)
  made_from i (suc n) e zero h =
      let s = step i e.1 e.0 e.3 in
      at_place i (i + zero) (omega arith) (subst (λ y. P i y) (sym (e.2.1 d)) s.1)
  made_from i (suc n) e (suc k) h =
      let s = step i e.1 e.0 e.3 in
      at_place (i + 1 + k) (i + suc k) (omega arith) (made_from (i + 1) n (subst (λ q. IsFromFnResultFrom g q ys (i + 1) n) s.0 e.4) k (omega arith))

  pub made : (n : ℕ) → IsFromFnResultFrom g f ys 0 n → (k : ℕ) → k < n → P k (get_or ys k d)
  made n e k h = at_place (0 + k) k (omega arith) (made_from 0 n e k h)
