-- Netlists of four-input cells, and when one computes what a design computes.
-- Only proofs use these definitions: no promise to a user names them.
use Rattle.std.specs.Prelude.{◌≡◌, ℕ, ◌+◌, ◌*◌, ◌<◌, Bool, true, false, cond, ◌⊎◌}
use Rattle.design.specs.Designs.{bit, Words, Design, eval, total, output_width, input_bits}
use Rattle.netlist.specs.declared.parts.Net.{Net}
use Rattle.netlist.specs.declared.parts.Net.TheVariants.{Zero, Input, Cell}

-- So many cells, each with a table, four inputs, whether it holds, and what it holds at first. Bit k of register r is held by
-- the cell `register (bits of the registers before r + k)`; bit k of output o is what the cell `output (bits of the outputs before o + k)` shows.
pub record Netlist : Type 0 where
  pub count : ℕ
  pub table : ℕ → ℕ → Bool
  pub input : ℕ → ℕ → Net
  pub holds : ℕ → Bool
  pub initial : ℕ → Bool
  pub register : ℕ → ℕ
  pub output : ℕ → ℕ

-- the level of a net, where the input bits are x and the cells show v
unfoldable pub net_level : (x v : ℕ → Bool) → Net → Bool
net_level x v Zero = false
net_level x v (Input j) = x j
net_level x v (Cell j) = v j

-- the place in the table that the inputs of a cell say
unfoldable pub cell_address : Netlist → (x v : ℕ → Bool) → ℕ → ℕ
cell_address n x v c =
    bit (net_level x v (n.input c 0)) + 2 * bit (net_level x v (n.input c 1)) + 4 * bit (net_level x v (n.input c 2)) + 8 * bit (net_level x v (n.input c 3))

unfoldable pub cell_lookup : Netlist → (x v : ℕ → Bool) → ℕ → Bool
cell_lookup n x v c = n.table c (cell_address n x v c)

-- what the cells show fits each of them, where the cells that hold held h
abbrev pub Consistent : Netlist → (x h v : ℕ → Bool) → Type 0
Consistent n x h v = (c : ℕ) → c < n.count → v c ≡ cond (n.holds c) (h c) (cell_lookup n x v c)

-- bits, counted over all words of given widths, are those of the words
abbrev pub BitsOf : (n : ℕ) (width : ℕ → ℕ) → Words → (ℕ → Bool) → Type 0
BitsOf n width ws x = (i k : ℕ) → i < n → k < width i → x (total i width + k) ≡ ws i k

-- The netlist computes in each tick what the design computes. Cells that don't hold read inputs, cells that hold, and earlier cells.
pub record Lowers (d : Design) (n : Netlist) : Type 0 where
  pub ordered : (c k j : ℕ) → c < n.count → k < 4 → n.holds c ≡ false → n.input c k ≡ Cell j → (n.holds j ≡ true) ⊎ (j < c)
  pub cells_exist : (c k j : ℕ) → c < n.count → k < 4 → n.input c k ≡ Cell j → j < n.count
  pub inputs_exist : (c k j : ℕ) → c < n.count → k < 4 → n.input c k ≡ Input j → j < input_bits d
  pub registers : (r k : ℕ) → r < d.registers → k < d.register_width r →
      (n.register (total r d.register_width + k) < n.count)
      × (n.holds (n.register (total r d.register_width + k)) ≡ true)
      × (n.initial (n.register (total r d.register_width + k)) ≡ d.initial r k)
  pub outputs : (o k : ℕ) → o < d.outputs → k < output_width d o → n.output (total o (output_width d) + k) < n.count
  pub next : (ins regs : Words) (x h v : ℕ → Bool) →
      BitsOf d.inputs d.input_width ins x → BitsOf d.registers d.register_width regs (λ m. h (n.register m)) → Consistent n x h v →
      (r k : ℕ) → r < d.registers → k < d.register_width r → cell_lookup n x v (n.register (total r d.register_width + k)) ≡ eval d ins regs (d.next r) k
  pub shows : (ins regs : Words) (x h v : ℕ → Bool) →
      BitsOf d.inputs d.input_width ins x → BitsOf d.registers d.register_width regs (λ m. h (n.register m)) → Consistent n x h v →
      (o k : ℕ) → o < d.outputs → k < output_width d o → v (n.output (total o (output_width d) + k)) ≡ eval d ins regs (d.output o) k
