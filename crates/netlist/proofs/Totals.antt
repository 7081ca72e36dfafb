-- Sums of counts, and bits counted over words.
use Rattle.std.proofs.Common.{◌≡◌, ℕ, zero, suc, ◌+◌, ◌-◌, ◌<◌, ◌≤◌, refl, ap, inl, inr, ⊎_elim, add-one, arith}
use Rattle.std.proofs.lemmas.Bool.{cases_lt, cases_order}
use Rattle.design.specs.Designs.{total}

pub total_suc : (n : ℕ) (f : ℕ → ℕ) → total (suc n) f ≡ total n f + f n
unfolding total
total_suc n f = refl

pub total_zero : (f : ℕ → ℕ) → total 0 f ≡ 0
unfolding total
total_zero f = refl

pub total_more : (n : ℕ) (f : ℕ → ℕ) → total (n + 1) f ≡ total n f + f n
total_more n f = rw add-one (total_suc n f)

pub total_mono : (f : ℕ → ℕ) (m n : ℕ) → m ≤ n → total m f ≤ total n f
total_mono f m zero h = let z : m ≡ zero = omega arith in rw z (omega arith)
total_mono f m (suc n) h = ⊎_elim
    (λ (l : m < suc n). omega (arith, total_suc n f, total_mono f m n (omega arith)))
    (λ (g : suc n ≤ m). let z : m ≡ suc n = omega arith in rw z (omega arith))
    (cases_lt m (suc n))

-- a term and those before it
pub total_one : (f : ℕ → ℕ) (m n : ℕ) → m < n → total m f + f m ≤ total n f
total_one f m n h = omega (arith, total_suc m f, total_mono f (suc m) n (omega arith))

pub total_plus : (f g : ℕ → ℕ) (n : ℕ) → total n (λ i. f i + g i) ≡ total n f + total n g
total_plus f g zero = omega (arith, total_zero f, total_zero g, total_zero (λ i. f i + g i))
total_plus f g (suc n) = omega (arith, total_suc n f, total_suc n g, total_suc n (λ i. f i + g i), total_plus f g n)

-- terms that are at least 1
pub total_count : (f : ℕ → ℕ) (n : ℕ) → ((i : ℕ) → i < n → 1 ≤ f i) → n ≤ total n f
total_count f zero ones = omega arith
total_count f (suc n) ones = omega (arith, total_suc n f, ones n (omega arith), total_count f n (λ i l. ones i (omega arith)))

pub total_ones : (f : ℕ → ℕ) (n : ℕ) → ((i : ℕ) → i < n → f i ≡ 1) → total n f ≡ n
total_ones f zero ones = total_zero f
total_ones f (suc n) ones = omega (arith, total_suc n f, ones n (omega arith), total_ones f n (λ i l. ones i (omega arith)))

pub total_below : (f g : ℕ → ℕ) (n : ℕ) → ((i : ℕ) → i < n → f i ≤ g i) → total n f ≤ total n g
total_below f g zero h = omega (arith, total_zero f, total_zero g)
total_below f g (suc n) h = omega (arith, total_suc n f, total_suc n g, h n (omega arith), total_below f g n (λ i l. h i (omega arith)))

pub total_same : (f g : ℕ → ℕ) (n : ℕ) → ((i : ℕ) → i < n → f i ≡ g i) → total n f ≡ total n g
total_same f g zero h = omega (arith, total_zero f, total_zero g)
total_same f g (suc n) h = omega (arith, total_suc n f, total_suc n g, h n (omega arith), total_same f g n (λ i l. h i (omega arith)))

-- each bit has a place of its own below the total
pub total_within : (f : ℕ → ℕ) (i n k : ℕ) → i < n → k < f i → total i f + k < total n f
total_within f i n k l m = omega (arith, total_one f i n l)

pub total_apart : (f : ℕ → ℕ) (i j k l : ℕ) → k < f i → l < f j → total i f + k ≡ total j f + l → (i ≡ j) × (k ≡ l)
total_apart f i j k l m o e = elim (cases_order i j) [
  | inl q ↦ (q, omega (arith, ap (λ (a : ℕ). total a f) q))
  | inr q ↦ elim q [
    | inl h ↦ absurd (omega (arith, total_within f i j k h m))
    | inr h ↦ absurd (omega (arith, total_within f j i l h o))
  ]
]

-- and each place below the total is that of a bit
pub record Found (f : ℕ → ℕ) (n m : ℕ) : Type 0 where
  pub word : ℕ
  pub bit : ℕ
  pub word_below : word < n
  pub bit_below : bit < f word
  pub is : m ≡ total word f + bit

pub total_find : (f : ℕ → ℕ) (n m : ℕ) → m < total n f → Found f n m
total_find f zero m h = absurd (omega (arith, total_zero f))
total_find f (suc n) m h = ⊎_elim
    (λ (l : m < total n f). let r = total_find f n m l in
    record { word = r.word; bit = r.bit; word_below = omega (arith, r.word_below); bit_below = r.bit_below; is = r.is })
    (λ (g : total n f ≤ m). record { word = n; bit = m - total n f; word_below = omega arith; bit_below = omega (arith, total_suc n f); is = omega arith })
    (cases_lt m (total n f))
