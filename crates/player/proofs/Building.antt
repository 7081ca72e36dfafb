-- Words built bit by bit.
use Rattle.std.proofs.Common.{◌≡◌, ℕ, ◌+◌, ◌*◌, ◌/◌, ◌%◌, ◌^◌, ◌<◌, ◌≤◌, Bool, true, false, ◌&&◌, ◌||◌, eqb, refl, add-one, arith, pow_mono}
use mathlib.Core.Bool
use mathlib.Core.Bool.{beq}
use native.Mathlib.Nat.{div-eq_of_lt}
use Rattle.std.proofs.lemmas.Nat.{one_shl}
use Rattle.std.proofs.lemmas.Bool.{ne_eqb}
use Rattle.design.specs.Designs.{Word, number, word, carry, less_below, equal_below, single}
use Rattle.design_laws.proofs.Arithmetic.{number_below}

-- a number of 64 bits has no others
pub no_bit : (n k : ℕ) → n < 2 ^ 64 → 64 ≤ k → false ≡ word n k
unfolding word
no_bit n k small past =
    let e : n / 2 ^ k ≡ 0 = div-eq_of_lt (omega (arith, pow_mono past)) in
    rw e

pub is_bit : (n k : ℕ) → eqb (n / 2 ^ k % 2) 1 ≡ word n k
unfolding word
is_bit n k = refl

-- one more bit, which is 1 or 0
pub one_more : (k n : ℕ) (x : Bool) (a : Word) → k < 64 → x ≡ true → n ≡ number k a → x ≡ a k → n + (1 * 2 ^ k) % 2 ^ 64 ≡ number (k + 1) a
unfolding number
one_more k n x a h t e f = rw (add-one, e, ← f, t, one_shl k 64 h) (omega arith)

pub zero_more : (k n : ℕ) (x : Bool) (a : Word) → x ≡ false → n ≡ number k a → x ≡ a k → n ≡ number (k + 1) a
unfolding number
zero_more k n x a t e f = rw (add-one, e, ← f, t) (omega arith)

-- either is still small
pub one_below : (k n : ℕ) → k < 64 → n < 2 ^ k → n + (1 * 2 ^ k) % 2 ^ 64 < 2 ^ (k + 1)
one_below k n h small = rw (add-one, one_shl k 64 h) (omega arith)

pub zero_below : (k n : ℕ) → n < 2 ^ k → n < 2 ^ (k + 1)
zero_below k n small = rw add-one (omega arith)

-- the code's exclusive or
pub xor_is : (x y : Bool) → Bool.not (beq x y) ≡ Bool.xor x y
unfolding Bool.xor
xor_is x y = refl

-- the carry, less and equal one bit further
pub carry_more : (a b : Word) (k : ℕ) (x y c : Bool) → x ≡ a k → y ≡ b k → c ≡ carry a b k →
    ((x && y) || (c && Bool.not (beq x y))) ≡ carry a b (k + 1)
unfolding carry
carry_more a b k x y c p q r = rw (xor_is x y, add-one, p, q, r)

pub less_more : (a b : Word) (k : ℕ) (x y l : Bool) → x ≡ a k → y ≡ b k → l ≡ less_below a b k →
    ((Bool.not x && y) || (Bool.not (Bool.not (beq x y)) && l)) ≡ less_below a b (k + 1)
unfolding less_below
less_more a b k x y l p q r = rw (xor_is x y, add-one, p, q, r)

pub equal_more : (a b : Word) (k : ℕ) (x y l : Bool) → x ≡ a k → y ≡ b k → l ≡ equal_below a b k →
    (Bool.not (Bool.not (beq x y)) && l) ≡ equal_below a b (k + 1)
unfolding equal_below
equal_more a b k x y l p q r = rw (xor_is x y, add-one, p, q, r)

-- a bit of a sum
pub sum_bit : (x y c x' y' c' : Bool) → x ≡ x' → y ≡ y' → c ≡ c' →
    Bool.not (beq (Bool.not (beq x y)) c) ≡ Bool.xor (Bool.xor x' y') c'
sum_bit x y c x' y' c' p q r = rw (xor_is x y, xor_is (Bool.xor x y) c, p, q, r)

-- a word built so far is small
pub built_below : (k n : ℕ) (a : Word) → n ≡ number k a → n < 2 ^ k
built_below k n a e = rw e (number_below k a)

-- nothing built yet, and all
pub built_none : (a : Word) → 0 ≡ number 0 a
unfolding number
built_none a = refl

pub carry_none : (a b : Word) → false ≡ carry a b 0
unfolding carry
carry_none a b = refl

pub less_none : (a b : Word) → false ≡ less_below a b 0
unfolding less_below
less_none a b = refl

pub equal_none : (a b : Word) → true ≡ equal_below a b 0
unfolding equal_below
equal_none a b = refl

-- a word of width 1
pub single_here : (k : ℕ) (x y : Bool) → k ≡ 0 → x ≡ y → x ≡ single y k
unfolding single
single_here k x y e f = rw (e, f)

pub single_past : (k : ℕ) (y : Bool) → (k ≡ 0 → ⊥) → eqb k 0 ≡ single y k
unfolding single
single_past k y ne = rw (ne_eqb k 0 ne)
