-- A netlist under construction: its cells as a function of their number, and what is known of them. Registers are the first cells.
-- Only proofs use these definitions: no promise to a user names them.
use Rattle.std.specs.Prelude.{◌≡◌, ℕ, zero, suc, ◌+◌, ◌*◌, ◌<◌, ◌≤◌, Bool, true, false, List, [], ◌∷◌, slice_index_or}
use Rattle.design.specs.Designs.{bit, word, Word, Words, Design, Expr, Sound, width, eval, cells, total, input_bits, output_width, output_cells, output_bits, plain_cells}
use Rattle.netlist.specs.declared.parts.Net.{Net}
use Rattle.netlist.specs.declared.parts.Net.TheVariants.{Zero, Input, Cell}
use Rattle.netlist.specs.declared.parts.Cell.{Cell as CellT}
use Rattle.netlist.specs.Netlists.{Netlist, net_level, BitsOf, Lowers}

-- 1. Cells.

abbrev pub gate : (table : ℕ) (a b c : Net) → CellT
gate t a b c = record { table = t; inputs = a ∷ b ∷ c ∷ Zero ∷ []; holds = false; initial = false }

-- a cell that holds a net
abbrev pub register_cell : Net → Bool → CellT
register_cell a i = record { table = 2; inputs = a ∷ Zero ∷ Zero ∷ Zero ∷ []; holds = true; initial = i }

abbrev pub blank : CellT
blank = gate 0 Zero Zero Zero

abbrev pub input_of : CellT → ℕ → Net
input_of cell k = slice_index_or cell.inputs k Zero

-- the cells of a netlist, by their numbers
abbrev pub Cells : Type 0
Cells = ℕ → CellT

abbrev pub cell_at : List CellT → Cells
cell_at cs c = slice_index_or cs c blank

-- the cells that are the registers' bits
unfoldable pub register_bits : Design → ℕ
register_bits d = total d.registers d.register_width

-- the netlist of so many cells; `outs m` shows output bit m
abbrev pub netlist_in : Cells → (count : ℕ) → (outs : ℕ → ℕ) → Netlist
netlist_in cs n outs = record {
  count = n;
  table = λ c k. word (cs c).table k;
  input = λ c k. input_of (cs c) k;
  holds = λ c. (cs c).holds;
  initial = λ c. (cs c).initial;
  register = λ m. m;
  output = outs;
}

-- 2. What nets carry.

-- a bit that depends on the words of the inputs and of the registers
abbrev pub Signal : Type 0
Signal = (ins regs : Words) → Bool

-- bit k of an expression
abbrev pub signal_of : Design → Expr → ℕ → Signal
signal_of d e k ins regs = eval d ins regs e k

-- what a cell looks up
unfoldable pub looked_up : (x v : ℕ → Bool) → CellT → Bool
looked_up x v c =
    word c.table (bit (net_level x v (input_of c 0)) + 2 * bit (net_level x v (input_of c 1)) + 4 * bit (net_level x v (input_of c 2)) + 8 * bit (net_level x v (input_of c 3)))

-- what the cells show fits the registers, the first so many cells, and the gates after them
pub record Fits (registers : ℕ) (cs : Cells) (count : ℕ) (x h v : ℕ → Bool) : Type 0 where
  pub held : (r : ℕ) → r < registers → v r ≡ h r
  pub gates : (c : ℕ) → registers ≤ c → c < count → v c ≡ looked_up x v (cs c)

-- input bits x and held bits h that are those of words
pub record BitsAre (d : Design) (ins regs : Words) (x h : ℕ → Bool) : Type 0 where
  pub inputs : BitsOf d.inputs d.input_width ins x
  pub registers : BitsOf d.registers d.register_width regs h

-- there is such a net, with so many cells
pub record There (d : Design) (count : ℕ) (net : Net) : Type 0 where
  pub input : (j : ℕ) → net ≡ Input j → j < input_bits d
  pub cell : (j : ℕ) → net ≡ Cell j → j < count

-- there is such a net, and it carries the signal
pub record Carries (d : Design) (cs : Cells) (count : ℕ) (net : Net) (s : Signal) : Type 0 where
  pub there : There d count net
  pub level : (ins regs : Words) (x h v : ℕ → Bool) → BitsAre d ins regs x h → Fits (register_bits d) cs count x h v → net_level x v net ≡ s ins regs

-- the nets carry the bits of the expression
abbrev pub CarriesWord : (d : Design) (cs : Cells) (count : ℕ) (nets : ℕ → Net) (e : Expr) → Type 0
CarriesWord d cs n nets e = (k : ℕ) → k < width d e → Carries d cs n (nets k) (signal_of d e k)

-- 3. Growing.

-- a gate reads inputs, registers and earlier gates
pub record GateOk (d : Design) (c : ℕ) (cell : CellT) : Type 0 where
  pub holds : cell.holds ≡ false
  pub reads : (k : ℕ) → k < 4 → There d c (input_of cell k)

-- the cells from `first` to `count` are as they were, and there may be more
pub record Extends (first : ℕ) (cs : Cells) (count : ℕ) (cs₁ : Cells) (count₁ : ℕ) : Type 0 where
  pub more : count ≤ count₁
  pub same : (c : ℕ) → first ≤ c → c < count → cs₁ c ≡ cs c

-- all cells are as they were, and there are more gates
pub record Grows (d : Design) (cs : Cells) (count : ℕ) (cs₁ : Cells) (count₁ : ℕ) : Type 0 where
  pub extends : Extends 0 cs count cs₁ count₁
  pub gates : (c : ℕ) → count ≤ c → c < count₁ → GateOk d c (cs₁ c)

-- so many cells more
pub record Appended (cs : Cells) (count : ℕ) (cs₁ : Cells) (m : ℕ) (new : ℕ → CellT) : Type 0 where
  pub same : (c : ℕ) → c < count → cs₁ c ≡ cs c
  pub added : (k : ℕ) → k < m → cs₁ (count + k) ≡ new k

-- so many cells from some place on are written
pub record Written (cs cs₁ : Cells) (at m : ℕ) (new : ℕ → CellT) : Type 0 where
  pub below : (c : ℕ) → c < at → cs₁ c ≡ cs c
  pub above : (c : ℕ) → at + m ≤ c → cs₁ c ≡ cs c
  pub written : (k : ℕ) → k < m → cs₁ (at + k) ≡ new k

-- an expression is laid out: gates were added, and the nets carry its bits
pub record Laid (d : Design) (cs : Cells) (count : ℕ) (cs₁ : Cells) (count₁ : ℕ) (nets : ℕ → Net) (e : Expr) : Type 0 where
  pub grows : Grows d cs count cs₁ count₁
  pub carries : CarriesWord d cs₁ count₁ nets e

-- 4. Rows of cells, one for each bit, that begin at some number.

-- what a chain hands to bit k from the bit below
unfoldable pub handed : (start k : ℕ) → Net
handed start zero = Zero
handed start (suc k) = Cell (start + k)

-- a table for bit 0, and one for the others
unfoldable pub table_at : (first other : ℕ) → ℕ → ℕ
table_at f t zero = f
table_at f t (suc k) = t

abbrev pub gate_row : (table : ℕ) (a b c : ℕ → Net) → ℕ → CellT
gate_row t a b c k = gate t (a k) (b k) (c k)

abbrev pub chain_row : (first other : ℕ) (a b : ℕ → Net) (start : ℕ) → ℕ → CellT
chain_row f t a b start k = gate (table_at f t k) (a k) (b k) (handed start k)

abbrev pub constant_row : Word → ℕ → CellT
constant_row a k = gate (bit (a k)) Zero Zero Zero

abbrev pub register_row : (ℕ → Net) → Word → ℕ → CellT
register_row nets a k = register_cell (nets k) (a k)

-- 5. Whole designs.

-- the gates are right, and the bits of the registers below r have their cells, whose input carries what the register becomes
pub record RegistersAt (d : Design) (cs : Cells) (count r : ℕ) : Type 0 where
  pub low : register_bits d ≤ count
  pub gates : (c : ℕ) → register_bits d ≤ c → c < count → GateOk d c (cs c)
  pub done : (i k : ℕ) → i < r → k < d.register_width i →
      (net : Net) × (cs (total i d.register_width + k) ≡ register_cell net (d.initial i k)) × Carries d cs count net (signal_of d (d.next i) k)

-- so do all registers, and the bits of the outputs below o have their cells, each after those before it
pub record OutputsAt (d : Design) (cs : Cells) (count : ℕ) (outs : ℕ → ℕ) (o : ℕ) : Type 0 where
  pub registers : RegistersAt d cs count d.registers
  pub carried : (q k : ℕ) → q < o → k < output_width d q → Carries d cs count (Cell (outs (total q (output_width d) + k))) (signal_of d (d.output q) k)
  pub there : (m : ℕ) → m < total o (output_width d) → outs m < count
  pub rising : (m p : ℕ) → m < p → p < total o (output_width d) → outs m < outs p

-- the cells of the registers, of what those below r become, and of the outputs below o, as the plain layout counts them
abbrev pub registers_most : Design → (r : ℕ) → ℕ
registers_most d r = register_bits d + total r (λ i. cells d (d.next i))

abbrev pub outputs_most : Design → (o : ℕ) → ℕ
outputs_most d o = registers_most d d.registers + total o (output_cells d)

-- Every sound design is lowered, of any size: a netlist computes what the design computes, with no more cells than the plain layout counts and
-- output bits that are cells apart.
pub record Lowering (d : Design) (n : Netlist) : Type 0 where
  pub lowers : Lowers d n
  pub few : n.count ≤ plain_cells d
  pub outputs : (m : ℕ) → m < output_bits d → n.output m < n.count
  pub apart : (m k : ℕ) → m < output_bits d → k < output_bits d → n.output m ≡ n.output k → m ≡ k

abbrev pub DesignsLower : Type 0
DesignsLower = (d : Design) → Sound d → (n : Netlist) × Lowering d n
