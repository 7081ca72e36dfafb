-- Words as numbers.
use Rattle.std.proofs.Common.{◌≡◌, ℕ, zero, suc, ◌+◌, ◌-◌, ◌*◌, ◌/◌, ◌%◌, ◌^◌, ◌<◌, Bool, true, false, cond, ◌&&◌, ◌||◌, eqb, ltb, sym, refl, ap, ◌∙◌, ap₂, add-zero, add-suc, mod-eq_of_lt, mul_comm, add-mul, add_comm, pow-suc, mul-one, one-add, arith}
use mathlib.Core.Bool
use Rattle.std.proofs.lemmas.Nat.{pow-add, shr_high, mod-pow-add}
use Rattle.std.proofs.lemmas.Bool.{lt-ltb, le-ltb, cond-true, cond-false}
use Rattle.std.proofs.lemmas.Bool.Decides.{nat_tests}
use Rattle.design.specs.Designs.{Word, bit, number, word, carry, less_below, equal_below, single}

-- 1. A number of w bits.

below_step : (p n : ℕ) (x : Bool) → n < p → n + p * bit x < p * 2
below_step p n true h = omega arith
below_step p n false h = omega arith

pub number_below : (w : ℕ) (a : Word) → number w a < 2 ^ w
unfolding number
number_below zero a = omega arith
number_below (suc k) a = rw pow-suc (below_step (2 ^ k) (number k a) (a k) (number_below k a))

-- words that are alike below w
pub same_number : (w : ℕ) (a b : Word) → ((k : ℕ) → k < w → a k ≡ b k) → number w a ≡ number w b
unfolding number
same_number zero a b h = refl
same_number (suc k) a b h =
    ap₂ (λ (n : ℕ) (x : Bool). n + 2 ^ k * bit x) (same_number k a b (λ j l. h j (omega arith))) (h k (omega arith))

-- 2. Sums and comparisons.

add_step : (p n m s : ℕ) (x y c : Bool) → s + p * bit c ≡ n + m →
    (s + p * bit (Bool.xor (Bool.xor x y) c)) + p * 2 * bit ((x && y) || (c && Bool.xor x y)) ≡ (n + p * bit x) + (m + p * bit y)
unfolding Bool.xor
add_step p n m s true true true h = omega arith
add_step p n m s true true false h = omega arith
add_step p n m s true false true h = omega arith
add_step p n m s true false false h = omega arith
add_step p n m s false true true h = omega arith
add_step p n m s false true false h = omega arith
add_step p n m s false false true h = omega arith
add_step p n m s false false false h = omega arith

pub number_of_sum : (a b : Word) (w : ℕ) →
    number w (λ k. Bool.xor (Bool.xor (a k) (b k)) (carry a b k)) + 2 ^ w * bit (carry a b w) ≡ number w a + number w b
unfolding number carry
number_of_sum a b zero = refl
number_of_sum a b (suc k) =
    rw pow-suc
    (add_step (2 ^ k) (number k a) (number k b) (number k (λ j. Bool.xor (Bool.xor (a j) (b j)) (carry a b j))) (a k) (b k) (carry a b k)
    (number_of_sum a b k))

less_step : (p n m : ℕ) (x y l : Bool) → n < p → m < p → l ≡ ltb n m →
    ((Bool.not x && y) || (Bool.not (Bool.xor x y) && l)) ≡ ltb (n + p * bit x) (m + p * bit y)
unfolding Bool.xor
less_step p n m true true l g h e = grind (arith, nat_tests)
less_step p n m true false l g h e = grind (arith, nat_tests)
less_step p n m false true l g h e = grind (arith, nat_tests)
less_step p n m false false l g h e = grind (arith, nat_tests)

pub less_is_less : (a b : Word) (w : ℕ) → less_below a b w ≡ ltb (number w a) (number w b)
unfolding number less_below
less_is_less a b zero = refl
less_is_less a b (suc k) =
    less_step (2 ^ k) (number k a) (number k b) (a k) (b k) (less_below a b k) (number_below k a) (number_below k b) (less_is_less a b k)

equal_step : (p n m : ℕ) (x y l : Bool) → n < p → m < p → l ≡ eqb n m →
    (Bool.not (Bool.xor x y) && l) ≡ eqb (n + p * bit x) (m + p * bit y)
unfolding Bool.xor
equal_step p n m true true l g h e = grind (arith, nat_tests)
equal_step p n m true false l g h e = grind (arith, nat_tests)
equal_step p n m false true l g h e = grind (arith, nat_tests)
equal_step p n m false false l g h e = grind (arith, nat_tests)

pub equal_is_equal : (a b : Word) (w : ℕ) → equal_below a b w ≡ eqb (number w a) (number w b)
unfolding number equal_below
equal_is_equal a b zero = refl
equal_is_equal a b (suc k) =
    equal_step (2 ^ k) (number k a) (number k b) (a k) (b k) (equal_below a b k) (number_below k a) (number_below k b) (equal_is_equal a b k)

-- 3. Slices and joins.

split_step : (p q n m s : ℕ) (x : Bool) → s ≡ n * p + m → s + p * q * bit x ≡ (n + q * bit x) * p + m
split_step p q n m s true h = simp (mul-one, add-mul) (omega (arith, mul_comm p q))
split_step p q n m s false h = let e : n + q * 0 ≡ n = omega arith in rw e (omega arith)

pub number_split : (l w : ℕ) (a : Word) → number (l + w) a ≡ number w (λ k. a (l + k)) * 2 ^ l + number l a
unfolding number
number_split l zero a = rw add-zero (omega arith)
number_split l (suc w) a =
    rw (add-suc, pow-add)
    (split_step (2 ^ l) (2 ^ w) (number w (λ k. a (l + k))) (number l a) (number (l + w) a) (a (l + w)) (number_split l w a))

pub number_of_slice : (a : Word) (l w : ℕ) → number w (λ k. a (l + k)) ≡ number (l + w) a / 2 ^ l
number_of_slice a l w = rw number_split (sym (shr_high (number w (λ k. a (l + k))) l (number l a) (number_below l a)))

pub number_of_join : (a b : Word) (u v : ℕ) → number (u + v) (λ k. cond (ltb k v) (b k) (a (k - v))) ≡ number u a * 2 ^ v + number v b
number_of_join a b u v =
    let c : Word = λ k. cond (ltb k v) (b k) (a (k - v)) in
    let high : number u (λ k. c (v + k)) ≡ number u a =
    same_number u (λ k. c (v + k)) a (λ k h. cond-false (ltb (v + k) v) (b (v + k)) (a (v + k - v)) (le-ltb (v + k) v (omega arith)) ∙ ap a (omega arith)) in
    let low : number v c ≡ number v b =
    same_number v c b (λ k h. cond-true (ltb k v) (b k) (a (k - v)) (lt-ltb k v h)) in
    ap (λ (n : ℕ). number n c) (add_comm u v) ∙ number_split v u c ∙ ap₂ (λ (m n : ℕ). m * 2 ^ v + n) high low

-- 4. Words from numbers.

one_bit : (x : Bool) → eqb (bit x) 1 ≡ x
one_bit true = refl
one_bit false = refl

parity : (n : ℕ) → bit (eqb (n % 2) 1) ≡ n % 2
parity n = grind (arith, nat_tests)

bit_below : (x : Bool) → bit x < 2
bit_below true = omega arith
bit_below false = omega arith

low_bit : (j : ℕ) (a : Word) → number (suc j) a % 2 ≡ bit (a 0)
unfolding number
low_bit j a =
    let e : number (suc j) a ≡ number j (λ k. a (1 + k)) * 2 + number 1 a = ap (λ (n : ℕ). number n a) (sym (one-add j)) ∙ number_split 1 j a in
    let b : number 1 a ≡ bit (a 0) = omega arith in
    let l = bit_below (a 0) in
    rw (e, b) (omega arith)

-- each bit is back from the number
pub word_of_number : (w : ℕ) (a : Word) (k : ℕ) → k < w → word (number w a) k ≡ a k
unfolding word
word_of_number w a k h =
    let j = w - suc k in
    let e : w ≡ k + suc j = omega arith in
    let q : number w a / 2 ^ k ≡ number (suc j) (λ i. a (k + i)) = ap (λ (n : ℕ). number n a / 2 ^ k) e ∙ sym (number_of_slice a k (suc j)) in
    ap (λ (n : ℕ). eqb (n % 2) 1) q ∙ ap (λ (n : ℕ). eqb n 1) (low_bit j (λ i. a (k + i))) ∙ one_bit (a (k + 0)) ∙ ap a (add-zero k)

-- words of one number are alike
pub bits_of_number : (w : ℕ) (a b : Word) → number w a ≡ number w b → (k : ℕ) → k < w → a k ≡ b k
bits_of_number w a b e k h = sym (word_of_number w a k h) ∙ ap (λ (n : ℕ). word n k) e ∙ word_of_number w b k h

pub number_of_word : (w n : ℕ) → number w (word n) ≡ n % 2 ^ w
unfolding number word
number_of_word zero n = omega arith
number_of_word (suc w) n =
    let e : n % 2 ^ suc w ≡ (n / 2 ^ w % 2) * 2 ^ w + n % 2 ^ w = ap (λ (m : ℕ). n % 2 ^ m) (sym (one-add w)) ∙ mod-pow-add n 1 w in
    let b : 2 ^ w * bit (word n w) ≡ (n / 2 ^ w % 2) * 2 ^ w = ap (λ (x : ℕ). 2 ^ w * x) (parity (n / 2 ^ w)) ∙ mul_comm (2 ^ w) (n / 2 ^ w % 2) in
    omega (arith, number_of_word w n)

pub number_of_word_whole : (w n : ℕ) → n < 2 ^ w → number w (word n) ≡ n
number_of_word_whole w n h = number_of_word w n ∙ mod-eq_of_lt h

-- 5. Operations on each bit.

not_step : (p s n : ℕ) (x : Bool) → s + n + 1 ≡ p → (s + p * bit (Bool.not x)) + (n + p * bit x) + 1 ≡ p * 2
not_step p s n true h = omega arith
not_step p s n false h = omega arith

pub number_of_not : (a : Word) (w : ℕ) → number w (λ k. Bool.not (a k)) + number w a + 1 ≡ 2 ^ w
unfolding number
number_of_not a zero = refl
number_of_not a (suc k) = rw pow-suc (not_step (2 ^ k) (number k (λ j. Bool.not (a j))) (number k a) (a k) (number_of_not a k))

or_step : (p s t n m : ℕ) (x y : Bool) → s + t ≡ n + m → (s + p * bit (x || y)) + (t + p * bit (x && y)) ≡ (n + p * bit x) + (m + p * bit y)
or_step p s t n m true true h = omega arith
or_step p s t n m true false h = omega arith
or_step p s t n m false true h = omega arith
or_step p s t n m false false h = omega arith

pub number_of_or : (a b : Word) (w : ℕ) → number w (λ k. a k || b k) + number w (λ k. a k && b k) ≡ number w a + number w b
unfolding number
number_of_or a b zero = refl
number_of_or a b (suc k) =
    or_step (2 ^ k) (number k (λ j. a j || b j)) (number k (λ j. a j && b j)) (number k a) (number k b) (a k) (b k) (number_of_or a b k)

xor_step : (p s t n m : ℕ) (x y : Bool) → s + 2 * t ≡ n + m → (s + p * bit (Bool.xor x y)) + 2 * (t + p * bit (x && y)) ≡ (n + p * bit x) + (m + p * bit y)
unfolding Bool.xor
xor_step p s t n m true true h = omega arith
xor_step p s t n m true false h = omega arith
xor_step p s t n m false true h = omega arith
xor_step p s t n m false false h = omega arith

pub number_of_xor : (a b : Word) (w : ℕ) → number w (λ k. Bool.xor (a k) (b k)) + 2 * number w (λ k. a k && b k) ≡ number w a + number w b
unfolding number
number_of_xor a b zero = refl
number_of_xor a b (suc k) =
    xor_step (2 ^ k) (number k (λ j. Bool.xor (a j) (b j))) (number k (λ j. a j && b j)) (number k a) (number k b) (a k) (b k) (number_of_xor a b k)

pub number_of_single : (x : Bool) → number 1 (single x) ≡ bit x
unfolding number single
number_of_single true = refl
number_of_single false = refl

pub number_of_choice : (t : Bool) (a b : Word) (w : ℕ) → number w (λ k. cond t (a k) (b k)) ≡ cond t (number w a) (number w b)
number_of_choice true a b w = refl
number_of_choice false a b w = refl
