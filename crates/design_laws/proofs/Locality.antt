-- Bits past the widths don't matter.
use Rattle.std.proofs.Common.{◌≡◌, ℕ, zero, suc, ◌+◌, ◌-◌, ◌<◌, Bool, true, false, cond, ◌&&◌, ◌||◌, eqb, ltb, leb, List, [], ◌∷◌, refl, ap, ap₂, arith}
use mathlib.Core.Bool
use Rattle.std.proofs.lemmas.Bool.{ltb-true, ltb-false, leb-true, eqb-true, and_parts}
use Rattle.design.specs.Designs.{Word, Words, Expr, input, register, constant, and, or, xor, not, add, less, equal, mux, slice, concat, Design, Sound, width, well_formed, register_sound, output_sound, carry, less_below, equal_below, single, eval, registers_after, output_at, output_width}
use Rattle.design_laws.specs.Laws.{Alike, AlikeAll}

-- alike in the bits below w
abbrev pub Below : ℕ → Word → Word → Type 0
Below w a b = (k : ℕ) → k < w → a k ≡ b k

less_of : (w : ℕ) (a b : Word) → Below (suc w) a b → Below w a b
less_of w a b h k l = h k (omega arith)

pub carry_alike : (k : ℕ) (a a₁ b b₁ : Word) → Below k a a₁ → Below k b b₁ → carry a b k ≡ carry a₁ b₁ k
unfolding carry
carry_alike zero a a₁ b b₁ p q = refl
carry_alike (suc k) a a₁ b b₁ p q =
    let x = p k (omega arith) in
    let y = q k (omega arith) in
    let c = carry_alike k a a₁ b b₁ (less_of k a a₁ p) (less_of k b b₁ q) in
    rw (x, y, c)

pub less_alike : (w : ℕ) (a a₁ b b₁ : Word) → Below w a a₁ → Below w b b₁ → less_below a b w ≡ less_below a₁ b₁ w
unfolding less_below
less_alike zero a a₁ b b₁ p q = refl
less_alike (suc k) a a₁ b b₁ p q =
    let x = p k (omega arith) in
    let y = q k (omega arith) in
    let c = less_alike k a a₁ b b₁ (less_of k a a₁ p) (less_of k b b₁ q) in
    rw (x, y, c)

pub equal_alike : (w : ℕ) (a a₁ b b₁ : Word) → Below w a a₁ → Below w b b₁ → equal_below a b w ≡ equal_below a₁ b₁ w
unfolding equal_below
equal_alike zero a a₁ b b₁ p q = refl
equal_alike (suc k) a a₁ b b₁ p q =
    let x = p k (omega arith) in
    let y = q k (omega arith) in
    let c = equal_alike k a a₁ b b₁ (less_of k a a₁ p) (less_of k b b₁ q) in
    rw (x, y, c)

pub sum_alike : (k : ℕ) (a a₁ b b₁ : Word) → Below (suc k) a a₁ → Below (suc k) b b₁ →
    Bool.xor (Bool.xor (a k) (b k)) (carry a b k) ≡ Bool.xor (Bool.xor (a₁ k) (b₁ k)) (carry a₁ b₁ k)
sum_alike k a a₁ b b₁ p q =
    let x = p k (omega arith) in
    let y = q k (omega arith) in
    let c = carry_alike k a a₁ b b₁ (less_of k a a₁ p) (less_of k b b₁ q) in
    rw (x, y, c)

pub cond_alike : (c c₁ x x₁ y y₁ : Bool) → c ≡ c₁ → x ≡ x₁ → y ≡ y₁ → cond c x y ≡ cond c₁ x₁ y₁
cond_alike c c₁ x x₁ y y₁ p q r = rw (p, q, r)

pub cond_by : (t x x₁ y y₁ : Bool) → (t ≡ true → x ≡ x₁) → (t ≡ false → y ≡ y₁) → cond t x y ≡ cond t x₁ y₁
cond_by true x x₁ y y₁ p q = p refl
cond_by false x x₁ y y₁ p q = q refl

-- two operands of one width
pub record Operands (d : Design) (a b : Expr) : Type 0 where
  pub one : well_formed d a ≡ true
  pub other : well_formed d b ≡ true
  pub fit : width d a ≡ width d b

pub operands : (d : Design) (a b : Expr) → (well_formed d a && (well_formed d b && eqb (width d a) (width d b))) ≡ true → Operands d a b
operands d a b h =
    let p = and_parts (well_formed d a) (well_formed d b && eqb (width d a) (width d b)) h in
    let q = and_parts (well_formed d b) (eqb (width d a) (width d b)) p.1 in
    record { one = p.0; other = q.0; fit = eqb-true (width d a) (width d b) q.1 }

module _ (d : Design) (ins ins₁ regs regs₁ : Words) (i : Alike d.inputs d.input_width ins ins₁) (r : Alike d.registers d.register_width regs regs₁) where
  same_bits : (e : Expr) → well_formed d e ≡ true → Below (width d e) (eval d ins regs e) (eval d ins₁ regs₁ e)
  unfolding width well_formed eval
  same_bits (input n) ok k h = i n k (ltb-true n d.inputs ok) h
  same_bits (register n) ok k h = r n k (ltb-true n d.registers ok) h
  same_bits (constant w a) ok k h = refl
  same_bits (and a b) ok k h =
      let o = operands d a b ok in
      ap₂ ◌&&◌ (same_bits a o.one k h) (same_bits b o.other k (omega arith))
  same_bits (or a b) ok k h =
      let o = operands d a b ok in
      ap₂ ◌||◌ (same_bits a o.one k h) (same_bits b o.other k (omega arith))
  same_bits (xor a b) ok k h =
      let o = operands d a b ok in
      ap₂ Bool.xor (same_bits a o.one k h) (same_bits b o.other k (omega arith))
  same_bits (not a) ok k h = ap Bool.not (same_bits a ok k h)
  same_bits (add a b) ok k h =
      let o = operands d a b ok in
      sum_alike k (eval d ins regs a) (eval d ins₁ regs₁ a) (eval d ins regs b) (eval d ins₁ regs₁ b)
      (λ j l. same_bits a o.one j (omega arith)) (λ j l. same_bits b o.other j (omega arith))
  same_bits (less a b) ok k h =
      let o = operands d a b ok in
      ap (λ (x : Bool). single x k)
      (less_alike (width d a) (eval d ins regs a) (eval d ins₁ regs₁ a) (eval d ins regs b) (eval d ins₁ regs₁ b)
      (λ j l. same_bits a o.one j l) (λ j l. same_bits b o.other j (omega arith)))
  same_bits (equal a b) ok k h =
      let o = operands d a b ok in
      ap (λ (x : Bool). single x k)
      (equal_alike (width d a) (eval d ins regs a) (eval d ins₁ regs₁ a) (eval d ins regs b) (eval d ins₁ regs₁ b)
      (λ j l. same_bits a o.one j l) (λ j l. same_bits b o.other j (omega arith)))
  same_bits (mux c a b) ok k h =
      let p = and_parts (well_formed d c) (eqb (width d c) 1 && (well_formed d a && (well_formed d b && eqb (width d a) (width d b)))) ok in
      let q = and_parts (eqb (width d c) 1) (well_formed d a && (well_formed d b && eqb (width d a) (width d b))) p.1 in
      let one = eqb-true (width d c) 1 q.0 in
      let o = operands d a b q.1 in
      cond_alike (eval d ins regs c 0) (eval d ins₁ regs₁ c 0) (eval d ins regs a k) (eval d ins₁ regs₁ a k) (eval d ins regs b k) (eval d ins₁ regs₁ b k)
      (same_bits c p.0 0 (omega arith)) (same_bits a o.one k h) (same_bits b o.other k (omega arith))
  same_bits (slice l w a) ok k h =
      let p = and_parts (well_formed d a) (leb 1 w && leb (l + w) (width d a)) ok in
      let q = and_parts (leb 1 w) (leb (l + w) (width d a)) p.1 in
      same_bits a p.0 (l + k) (omega (arith, leb-true (l + w) (width d a) q.1))
  same_bits (concat a b) ok k h =
      let p = and_parts (well_formed d a) (well_formed d b && leb (width d a + width d b) 64) ok in
      let q = and_parts (well_formed d b) (leb (width d a + width d b) 64) p.1 in
      cond_by (ltb k (width d b)) (eval d ins regs b k) (eval d ins₁ regs₁ b k) (eval d ins regs a (k - width d b)) (eval d ins₁ regs₁ a (k - width d b))
      (λ t. same_bits b q.0 k (ltb-true k (width d b) t))
      (λ t. same_bits a p.0 (k - width d b) (omega (arith, ltb-false k (width d b) t)))

pub widths_suffice : (d : Design) (ins ins₁ regs regs₁ : Words) (e : Expr) → well_formed d e ≡ true →
    Alike d.inputs d.input_width ins ins₁ → Alike d.registers d.register_width regs regs₁ →
    (k : ℕ) → k < width d e → eval d ins regs e k ≡ eval d ins₁ regs₁ e k
widths_suffice d ins ins₁ regs regs₁ e ok i r = same_bits d ins ins₁ regs regs₁ i r e ok

-- a register's next word is well-formed and has the register's width
pub record Next (d : Design) (r : ℕ) : Type 0 where
  pub formed : well_formed d (d.next r) ≡ true
  pub fit : width d (d.next r) ≡ d.register_width r

pub next_of : (d : Design) → Sound d → (r : ℕ) → r < d.registers → Next d r
unfolding register_sound
next_of d s r l =
    let p = and_parts (Rattle.design.specs.Designs.width_ok (d.register_width r)) (well_formed d (d.next r) && eqb (width d (d.next r)) (d.register_width r)) (s.registers r l) in
    let q = and_parts (well_formed d (d.next r)) (eqb (width d (d.next r)) (d.register_width r)) p.1 in
    record { formed = q.0; fit = eqb-true (width d (d.next r)) (d.register_width r) q.1 }

pub registers_alike : (d : Design) → Sound d → (before before₁ : List Words) → AlikeAll d.inputs d.input_width before before₁ →
    Alike d.registers d.register_width (registers_after d before) (registers_after d before₁)
unfolding registers_after
registers_alike d s [] [] h r k l b = refl
registers_alike d s [] (ins ∷ before) h r k l b = absurd h
registers_alike d s (ins ∷ before) [] h r k l b = absurd h
registers_alike d s (ins ∷ before) (ins₁ ∷ before₁) h r k l b =
    let n = next_of d s r l in
    widths_suffice d ins ins₁ (registers_after d before) (registers_after d before₁) (d.next r) n.formed h.0
    (registers_alike d s before before₁ h.1) k (omega arith)

pub streams_suffice : (d : Design) → Sound d → (ins ins₁ : Words) (before before₁ : List Words) →
    Alike d.inputs d.input_width ins ins₁ → AlikeAll d.inputs d.input_width before before₁ →
    (o k : ℕ) → o < d.outputs → k < output_width d o → output_at d ins before o k ≡ output_at d ins₁ before₁ o k
unfolding output_at output_width output_sound
streams_suffice d s ins ins₁ before before₁ i h o k l b =
    widths_suffice d ins ins₁ (registers_after d before) (registers_after d before₁) (d.output o) (s.outputs o l) i
    (registers_alike d s before before₁ h) k b
