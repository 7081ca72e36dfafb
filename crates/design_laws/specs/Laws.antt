-- Laws of designs, each proved under the contract of a function of `laws`: promises, and nothing that a reader has to believe.
use Rattle.std.specs.Prelude.{◌≡◌, ℕ, ◌+◌, ◌-◌, ◌*◌, ◌/◌, ◌%◌, ◌^◌, ◌<◌, true, cond, List, [], ◌∷◌, ◌==◌, nat_lt}
use Rattle.design.specs.Designs.{Word, Words, Expr, constant, and, or, xor, not, add, less, equal, mux, slice, concat, Design, Sound, bit, number, word, carry, less_below, equal_below, eval, width, well_formed, output_width, output_at}

-- 1. Operations as numbers.

-- the bits of a sum with the carry out of them are the sum of the numbers
abbrev pub SumsAreSums : Type 0
SumsAreSums =
    (d : Design) (ins regs : Words) (x y : Expr) (w : ℕ) →
    number w (eval d ins regs (add x y)) + 2 ^ w * bit (carry (eval d ins regs x) (eval d ins regs y) w)
    ≡ number w (eval d ins regs x) + number w (eval d ins regs y)

abbrev pub LessIsLess : Type 0
LessIsLess = (a b : Word) (w : ℕ) → less_below a b w ≡ nat_lt (number w a) (number w b)

abbrev pub EqualIsEqual : Type 0
EqualIsEqual = (a b : Word) (w : ℕ) → equal_below a b w ≡ (number w a == number w b)

-- the w bits of a word from bit l on; a word of u bits above one of v bits
abbrev pub SlicesAreQuotients : Type 0
SlicesAreQuotients = (a : Word) (l w : ℕ) → number w (λ k. a (l + k)) ≡ number (l + w) a / 2 ^ l

abbrev pub JoinsAreSums : Type 0
JoinsAreSums = (a b : Word) (u v : ℕ) → number (u + v) (λ k. cond (nat_lt k v) (b k) (a (k - v))) ≡ number u a * 2 ^ v + number v b

abbrev pub SlicesAndJoins : Type 0
SlicesAndJoins = SlicesAreQuotients × JoinsAreSums

-- a word's bits are those of its number, and a number is that of its word but for what the width cuts off
abbrev pub WordsAndNumbers : Type 0
WordsAndNumbers = ((w : ℕ) (a : Word) (k : ℕ) → k < w → word (number w a) k ≡ a k) × ((w n : ℕ) → number w (word n) ≡ n % 2 ^ w)

-- what the other operations show, in numbers
pub record Shown (d : Design) (ins regs : Words) (x y : Expr) : Type 0 where
  pub of_less : number 1 (eval d ins regs (less x y)) ≡ bit (nat_lt (number (width d x) (eval d ins regs x)) (number (width d x) (eval d ins regs y)))
  pub of_equal : number 1 (eval d ins regs (equal x y)) ≡ bit (number (width d x) (eval d ins regs x) == number (width d x) (eval d ins regs y))
  pub of_slice : (l w : ℕ) → number w (eval d ins regs (slice l w x)) ≡ number (l + w) (eval d ins regs x) / 2 ^ l
  pub of_concat : (u : ℕ) → number (u + width d y) (eval d ins regs (concat x y)) ≡ number u (eval d ins regs x) * 2 ^ width d y + number (width d y) (eval d ins regs y)
  pub of_not : (w : ℕ) → number w (eval d ins regs (not x)) + number w (eval d ins regs x) + 1 ≡ 2 ^ w
  pub of_or : (w : ℕ) → number w (eval d ins regs (or x y)) + number w (eval d ins regs (and x y)) ≡ number w (eval d ins regs x) + number w (eval d ins regs y)
  pub of_xor : (w : ℕ) → number w (eval d ins regs (xor x y)) + 2 * number w (eval d ins regs (and x y)) ≡ number w (eval d ins regs x) + number w (eval d ins regs y)
  pub of_mux : (c : Expr) (w : ℕ) → number w (eval d ins regs (mux c x y)) ≡ cond (eval d ins regs c 0) (number w (eval d ins regs x)) (number w (eval d ins regs y))
  pub of_constant : (w n : ℕ) → number w (eval d ins regs (constant w (word n))) ≡ n % 2 ^ w

abbrev pub OperationsInNumbers : Type 0
OperationsInNumbers = (d : Design) (ins regs : Words) (x y : Expr) → Shown d ins regs x y

-- 2. Bits past the widths don't matter.

-- n words that are alike in the bits of their widths
abbrev pub Alike : (n : ℕ) (width : ℕ → ℕ) → Words → Words → Type 0
Alike n width a b = (i k : ℕ) → i < n → k < width i → a i k ≡ b i k

-- as many ticks of each, alike tick by tick
abbrev pub AlikeAll : (n : ℕ) (width : ℕ → ℕ) → List Words → List Words → Type 0
AlikeAll n width [] [] = Unit {0}
AlikeAll n width [] (b ∷ bs) = ⊥
AlikeAll n width (a ∷ more) [] = ⊥
AlikeAll n width (a ∷ more) (b ∷ bs) = Alike n width a b × AlikeAll n width more bs

abbrev pub WidthsSuffice : Type 0
WidthsSuffice =
    (d : Design) (ins ins₁ regs regs₁ : Words) (e : Expr) → well_formed d e ≡ true →
    Alike d.inputs d.input_width ins ins₁ → Alike d.registers d.register_width regs regs₁ →
    (k : ℕ) → k < width d e → eval d ins regs e k ≡ eval d ins₁ regs₁ e k

abbrev pub StreamsSuffice : Type 0
StreamsSuffice =
    (d : Design) → Sound d → (ins ins₁ : Words) (before before₁ : List Words) →
    Alike d.inputs d.input_width ins ins₁ → AlikeAll d.inputs d.input_width before before₁ →
    (o k : ℕ) → o < d.outputs → k < output_width d o → output_at d ins before o k ≡ output_at d ins₁ before₁ o k
