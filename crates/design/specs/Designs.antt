-- Designs: words, expressions, registers, and what a design shows tick by tick.
-- A reader has to believe these definitions. They assume nothing.
use Rattle.std.specs.Prelude.{◌≡◌, ℕ, zero, suc, ◌+◌, ◌-◌, ◌*◌, ◌/◌, ◌%◌, ◌^◌, ◌<◌, Bool, true, false, cond, ◌&&◌, ◌||◌, List, [], ◌∷◌, ◌==◌, nat_le, nat_lt}
use Rattle.std.proofs.Math.Bool

-- A word is its bits, the low one first; those past its width don't matter.
abbrev pub Word : Type 0
Word = ℕ → Bool

abbrev pub Words : Type 0
Words = ℕ → Word

abbrev pub bit : Bool → ℕ
bit b = cond b 1 0

-- a word of width w as a number
unfoldable pub number : (w : ℕ) → Word → ℕ
number zero a = 0
number (suc k) a = number k a + 2 ^ k * bit (a k)

-- a number as a word
unfoldable pub word : ℕ → Word
word n k = n / 2 ^ k % 2 == 1

pub data Expr : Type 0 where
  input : ℕ → Expr
  register : ℕ → Expr
  constant : (width : ℕ) → Word → Expr
  and or xor : Expr → Expr → Expr
  not : Expr → Expr
  add less equal : Expr → Expr → Expr
  mux : (choice one zero : Expr) → Expr
  slice : (low width : ℕ) → Expr → Expr
  concat : (high low : Expr) → Expr

-- Input words, registers with the word that each begins with and the expression that it becomes at the end of a tick, and outputs.
pub record Design : Type 0 where
  pub inputs : ℕ
  pub input_width : ℕ → ℕ
  pub registers : ℕ
  pub register_width : ℕ → ℕ
  pub initial : ℕ → Word
  pub next : ℕ → Expr
  pub outputs : ℕ
  pub output : ℕ → Expr

-- 1. Widths and soundness.

unfoldable pub width : Design → Expr → ℕ
width d (input i) = d.input_width i
width d (register r) = d.register_width r
width d (constant w a) = w
width d (and a b) = width d a
width d (or a b) = width d a
width d (xor a b) = width d a
width d (not a) = width d a
width d (add a b) = width d a
width d (less a b) = 1
width d (equal a b) = 1
width d (mux c a b) = width d a
width d (slice l w a) = w
width d (concat a b) = width d a + width d b

-- the names in an expression are there, and the widths fit each other
unfoldable pub well_formed : Design → Expr → Bool
well_formed d (input i) = nat_lt i d.inputs
well_formed d (register r) = nat_lt r d.registers
well_formed d (constant w a) = nat_le 1 w && nat_le w 64
well_formed d (and a b) = well_formed d a && (well_formed d b && width d a == width d b)
well_formed d (or a b) = well_formed d a && (well_formed d b && width d a == width d b)
well_formed d (xor a b) = well_formed d a && (well_formed d b && width d a == width d b)
well_formed d (not a) = well_formed d a
well_formed d (add a b) = well_formed d a && (well_formed d b && width d a == width d b)
well_formed d (less a b) = well_formed d a && (well_formed d b && width d a == width d b)
well_formed d (equal a b) = well_formed d a && (well_formed d b && width d a == width d b)
well_formed d (mux c a b) = well_formed d c && (width d c == 1 && (well_formed d a && (well_formed d b && width d a == width d b)))
well_formed d (slice l w a) = well_formed d a && (nat_le 1 w && nat_le (l + w) (width d a))
well_formed d (concat a b) = well_formed d a && (well_formed d b && nat_le (width d a + width d b) 64)

-- a width of 1 to 64
unfoldable pub width_ok : ℕ → Bool
width_ok w = nat_le 1 w && nat_le w 64

unfoldable pub register_sound : Design → ℕ → Bool
register_sound d r = width_ok (d.register_width r) && (well_formed d (d.next r) && width d (d.next r) == d.register_width r)

unfoldable pub output_sound : Design → ℕ → Bool
output_sound d o = well_formed d (d.output o)

unfoldable pub input_sound : Design → ℕ → Bool
input_sound d i = width_ok (d.input_width i)

pub record Sound (d : Design) : Type 0 where
  pub registers : (r : ℕ) → r < d.registers → register_sound d r ≡ true
  pub outputs : (o : ℕ) → o < d.outputs → output_sound d o ≡ true
  pub inputs : (i : ℕ) → i < d.inputs → input_sound d i ≡ true

-- 2. Evaluation.

-- the carry into bit k of a sum; whether the k low bits of one word are less than, or equal to, those of another
unfoldable pub carry : Word → Word → ℕ → Bool
carry a b zero = false
carry a b (suc k) = (a k && b k) || (carry a b k && Bool.xor (a k) (b k))

unfoldable pub less_below : Word → Word → ℕ → Bool
less_below a b zero = false
less_below a b (suc k) = (Bool.not (a k) && b k) || (Bool.not (Bool.xor (a k) (b k)) && less_below a b k)

unfoldable pub equal_below : Word → Word → ℕ → Bool
equal_below a b zero = true
equal_below a b (suc k) = Bool.not (Bool.xor (a k) (b k)) && equal_below a b k

-- a word of width 1
unfoldable pub single : Bool → Word
single x k = k == 0 && x

unfoldable pub eval : Design → (ins regs : Words) → Expr → Word
eval d ins regs (input i) = ins i
eval d ins regs (register r) = regs r
eval d ins regs (constant w a) = a
eval d ins regs (and a b) = λ k. eval d ins regs a k && eval d ins regs b k
eval d ins regs (or a b) = λ k. eval d ins regs a k || eval d ins regs b k
eval d ins regs (xor a b) = λ k. Bool.xor (eval d ins regs a k) (eval d ins regs b k)
eval d ins regs (not a) = λ k. Bool.not (eval d ins regs a k)
eval d ins regs (add a b) = λ k. Bool.xor (Bool.xor (eval d ins regs a k) (eval d ins regs b k)) (carry (eval d ins regs a) (eval d ins regs b) k)
eval d ins regs (less a b) = single (less_below (eval d ins regs a) (eval d ins regs b) (width d a))
eval d ins regs (equal a b) = single (equal_below (eval d ins regs a) (eval d ins regs b) (width d a))
eval d ins regs (mux c a b) = λ k. cond (eval d ins regs c 0) (eval d ins regs a k) (eval d ins regs b k)
eval d ins regs (slice l w a) = λ k. eval d ins regs a (l + k)
eval d ins regs (concat a b) = λ k. cond (nat_lt k (width d b)) (eval d ins regs b k) (eval d ins regs a (k - width d b))

-- the registers after some ticks; the inputs of those ticks are listed latest first
unfoldable pub registers_after : Design → List Words → Words
registers_after d [] = d.initial
registers_after d (ins ∷ before) = λ r. eval d ins (registers_after d before) (d.next r)

-- what output o shows in a tick with the inputs `ins`, after the ticks `before`
unfoldable pub output_at : Design → (ins : Words) (before : List Words) → ℕ → Word
output_at d ins before o = eval d ins (registers_after d before) (d.output o)

-- 3. The plain layout's counts: a cell for each bit that an operation gives (two for a sum's; for less and equal one for each
-- bit that they compare), for each bit of a constant, of a register and of an output. What is named twice counts twice.

unfoldable pub cells : Design → Expr → ℕ
cells d (input i) = 0
cells d (register r) = 0
cells d (constant w a) = w
cells d (and a b) = cells d a + cells d b + width d a
cells d (or a b) = cells d a + cells d b + width d a
cells d (xor a b) = cells d a + cells d b + width d a
cells d (not a) = cells d a + width d a
cells d (add a b) = cells d a + cells d b + 2 * width d a
cells d (less a b) = cells d a + cells d b + width d a
cells d (equal a b) = cells d a + cells d b + width d a
cells d (mux c a b) = cells d c + (cells d a + cells d b + width d a)
cells d (slice l w a) = cells d a
cells d (concat a b) = cells d a + cells d b

-- f 0 + .. + f (n - 1)
unfoldable pub total : (n : ℕ) → (ℕ → ℕ) → ℕ
total zero f = 0
total (suc n) f = total n f + f n

unfoldable pub register_cells : Design → ℕ → ℕ
register_cells d r = cells d (d.next r) + d.register_width r

unfoldable pub output_width : Design → ℕ → ℕ
output_width d o = width d (d.output o)

unfoldable pub output_cells : Design → ℕ → ℕ
output_cells d o = cells d (d.output o) + output_width d o

unfoldable pub plain_cells : Design → ℕ
plain_cells d = total d.registers (register_cells d) + total d.outputs (output_cells d)

unfoldable pub input_bits : Design → ℕ
input_bits d = total d.inputs d.input_width

unfoldable pub output_bits : Design → ℕ
output_bits d = total d.outputs (output_width d)

-- a track for each cell and each input bit
unfoldable pub plain_tracks : Design → ℕ
plain_tracks d = plain_cells d + input_bits d
