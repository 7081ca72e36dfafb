-- The word of an expression, from numbers for the words of its operands.
use Rattle.std.proofs.Common.{◌≡◌, ℕ, ◌+◌, ◌-◌, Bool, true, cond, ◌&&◌, ◌||◌, eqb, ltb, leb, ap, ◌∙◌, ap₂, arith}
use mathlib.Core.Bool
use Rattle.std.proofs.lemmas.Bool.{ltb-true, ltb-false, leb-true, eqb-true, and_parts}
use Rattle.design.specs.Designs.{Words, Expr, and, or, xor, not, add, less, equal, mux, slice, concat, Design, width, well_formed, less_below, equal_below, single, word, eval}
use Rattle.design_laws.proofs.Arithmetic.{word_of_number}
use Rattle.design_laws.proofs.Locality.{Below, operands, sum_alike, less_alike, equal_alike, cond_alike, cond_by}
use Rattle.player.specs.Operations.{and_word, or_word, xor_word, not_word, sum_word, less_word, equal_word, mux_word, slice_word, concat_word}
use Rattle.player.specs.Tables.{Evaluates}

module _ (d : Design) (ins regs : Words) where
  bits : (x : Expr) (u : ℕ) → Evaluates d ins regs x u → well_formed d x ≡ true → Below (width d x) (word u) (eval d ins regs x)
  bits x u is ok k h = ap (λ (n : ℕ). word n k) (is ok) ∙ word_of_number (width d x) (eval d ins regs x) k h

  pub and_bits : (x y : Expr) (u v : ℕ) → Evaluates d ins regs x u → Evaluates d ins regs y v →
      well_formed d (and x y) ≡ true → Below (width d (and x y)) (and_word (word u) (word v)) (eval d ins regs (and x y))
  unfolding width well_formed eval
  and_bits x y u v p q ok k h =
      let o = operands d x y ok in
      ap₂ ◌&&◌ (bits x u p o.one k h) (bits y v q o.other k (omega arith))

  pub or_bits : (x y : Expr) (u v : ℕ) → Evaluates d ins regs x u → Evaluates d ins regs y v →
      well_formed d (or x y) ≡ true → Below (width d (or x y)) (or_word (word u) (word v)) (eval d ins regs (or x y))
  unfolding width well_formed eval
  or_bits x y u v p q ok k h =
      let o = operands d x y ok in
      ap₂ ◌||◌ (bits x u p o.one k h) (bits y v q o.other k (omega arith))

  pub xor_bits : (x y : Expr) (u v : ℕ) → Evaluates d ins regs x u → Evaluates d ins regs y v →
      well_formed d (xor x y) ≡ true → Below (width d (xor x y)) (xor_word (word u) (word v)) (eval d ins regs (xor x y))
  unfolding width well_formed eval
  xor_bits x y u v p q ok k h =
      let o = operands d x y ok in
      ap₂ Bool.xor (bits x u p o.one k h) (bits y v q o.other k (omega arith))

  pub not_bits : (x : Expr) (u : ℕ) → Evaluates d ins regs x u →
      well_formed d (not x) ≡ true → Below (width d (not x)) (not_word (word u)) (eval d ins regs (not x))
  unfolding width well_formed eval
  not_bits x u p ok k h = ap Bool.not (bits x u p ok k h)

  pub add_bits : (x y : Expr) (u v : ℕ) → Evaluates d ins regs x u → Evaluates d ins regs y v →
      well_formed d (add x y) ≡ true → Below (width d (add x y)) (sum_word (word u) (word v)) (eval d ins regs (add x y))
  unfolding width well_formed eval
  add_bits x y u v p q ok k h =
      let o = operands d x y ok in
      sum_alike k (word u) (eval d ins regs x) (word v) (eval d ins regs y)
      (λ j l. bits x u p o.one j (omega arith)) (λ j l. bits y v q o.other j (omega arith))

  pub less_bits : (x y : Expr) (u v w : ℕ) → Evaluates d ins regs x u → Evaluates d ins regs y v → (well_formed d x ≡ true → w ≡ width d x) →
      well_formed d (less x y) ≡ true → Below (width d (less x y)) (less_word (word u) (word v) w) (eval d ins regs (less x y))
  unfolding width well_formed eval
  less_bits x y u v w p q wide ok k h =
      let o = operands d x y ok in
      ap (λ (n : ℕ). single (less_below (word u) (word v) n) k) (wide o.one)
      ∙ ap (λ (t : Bool). single t k)
      (less_alike (width d x) (word u) (eval d ins regs x) (word v) (eval d ins regs y)
      (λ j l. bits x u p o.one j l) (λ j l. bits y v q o.other j (omega arith)))

  pub equal_bits : (x y : Expr) (u v w : ℕ) → Evaluates d ins regs x u → Evaluates d ins regs y v → (well_formed d x ≡ true → w ≡ width d x) →
      well_formed d (equal x y) ≡ true → Below (width d (equal x y)) (equal_word (word u) (word v) w) (eval d ins regs (equal x y))
  unfolding width well_formed eval
  equal_bits x y u v w p q wide ok k h =
      let o = operands d x y ok in
      ap (λ (n : ℕ). single (equal_below (word u) (word v) n) k) (wide o.one)
      ∙ ap (λ (t : Bool). single t k)
      (equal_alike (width d x) (word u) (eval d ins regs x) (word v) (eval d ins regs y)
      (λ j l. bits x u p o.one j l) (λ j l. bits y v q o.other j (omega arith)))

  pub mux_bits : (c x y : Expr) (t u v : ℕ) → Evaluates d ins regs c t → Evaluates d ins regs x u → Evaluates d ins regs y v →
      well_formed d (mux c x y) ≡ true → Below (width d (mux c x y)) (mux_word (word t) (word u) (word v)) (eval d ins regs (mux c x y))
  unfolding width well_formed eval
  mux_bits c x y t u v s p q ok k h =
      let f = and_parts (well_formed d c) (eqb (width d c) 1 && (well_formed d x && (well_formed d y && eqb (width d x) (width d y)))) ok in
      let g = and_parts (eqb (width d c) 1) (well_formed d x && (well_formed d y && eqb (width d x) (width d y))) f.1 in
      let one = eqb-true (width d c) 1 g.0 in
      let o = operands d x y g.1 in
      cond_alike (word t 0) (eval d ins regs c 0) (word u k) (eval d ins regs x k) (word v k) (eval d ins regs y k)
      (bits c t s f.0 0 (omega arith)) (bits x u p o.one k h) (bits y v q o.other k (omega arith))

  pub slice_bits : (l w : ℕ) (x : Expr) (u : ℕ) → Evaluates d ins regs x u →
      well_formed d (slice l w x) ≡ true → Below (width d (slice l w x)) (slice_word l (word u)) (eval d ins regs (slice l w x))
  unfolding width well_formed eval
  slice_bits l w x u p ok k h =
      let f = and_parts (well_formed d x) (leb 1 w && leb (l + w) (width d x)) ok in
      let g = and_parts (leb 1 w) (leb (l + w) (width d x)) f.1 in
      bits x u p f.0 (l + k) (omega (arith, leb-true (l + w) (width d x) g.1))

  pub concat_bits : (x y : Expr) (u v w : ℕ) → Evaluates d ins regs x u → Evaluates d ins regs y v → (well_formed d y ≡ true → w ≡ width d y) →
      well_formed d (concat x y) ≡ true → Below (width d (concat x y)) (concat_word (word u) (word v) w) (eval d ins regs (concat x y))
  unfolding width well_formed eval
  concat_bits x y u v w p q wide ok k h =
      let f = and_parts (well_formed d x) (well_formed d y && leb (width d x + width d y) 64) ok in
      let g = and_parts (well_formed d y) (leb (width d x + width d y) 64) f.1 in
      ap (λ (n : ℕ). cond (ltb k n) (word v k) (word u (k - n))) (wide g.0)
      ∙ cond_by (ltb k (width d y)) (word v k) (eval d ins regs y k) (word u (k - width d y)) (eval d ins regs x (k - width d y))
      (λ t. bits y v q g.0 k (ltb-true k (width d y) t))
      (λ t. bits x u p f.0 (k - width d y) (omega (arith, ltb-false k (width d y) t)))
