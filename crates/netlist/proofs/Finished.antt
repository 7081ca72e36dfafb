-- A netlist that is laid out whole computes what the design computes.
use Rattle.std.proofs.Common.{◌≡◌, ℕ, zero, suc, ◌+◌, ◌<◌, ◌≤◌, Bool, true, false, cond, sym, refl, ap, ◌∙◌, inl, inr, ⊎_elim, true≢false, arith}
use Rattle.std.proofs.lemmas.Bool.{cases_lt, cases_order}
use Rattle.design.specs.Designs.{Words, Design, eval, cells, total, output_width, output_bits, register_cells, plain_cells}
use Rattle.netlist.proofs.Totals.{total_within, total_find, Found, total_plus}
use Rattle.netlist.specs.declared.parts.Net.{Net}
use Rattle.netlist.specs.declared.parts.Cell.{Cell as CellT}
use Rattle.netlist.specs.Netlists.{net_level, cell_address, cell_lookup, Consistent, BitsOf, Lowers}
use Rattle.netlist.specs.Building.{Cells, register_bits, register_cell, input_of, netlist_in, looked_up, Fits, BitsAre, There, OutputsAt, outputs_most, Lowering}
use Rattle.netlist.proofs.Gates.{register_looks_up, zero_there}

-- the plain count is that of the registers, of what they become and of the outputs
pub plain_is_most : (d : Design) → plain_cells d ≡ outputs_most d d.outputs
unfolding plain_cells register_bits register_cells
plain_is_most d = omega (arith, total_plus (λ i. cells d (d.next i)) d.register_width d.registers)

-- the inputs of a register's cell
register_reads : (d : Design) (n : ℕ) (net : Net) (b : Bool) (k : ℕ) → There d n net → k < 4 → There d n (input_of (register_cell net b) k)
register_reads d n net b zero t h = t
register_reads d n net b (suc zero) t h = zero_there d n
register_reads d n net b (suc (suc zero)) t h = zero_there d n
register_reads d n net b (suc (suc (suc zero))) t h = zero_there d n
register_reads d n net b (suc (suc (suc (suc k)))) t h = absurd (omega arith)

module _ (d : Design) (cs : Cells) (n : ℕ) (outs : ℕ → ℕ) (f : OutputsAt d cs n outs d.outputs) where
  -- the register's bit that a cell holds
  found : (c : ℕ) → c < register_bits d → Found d.register_width d.registers c
  unfolding register_bits
  found c h = total_find d.register_width d.registers c h

  -- a register's cell, with its net
  pub record Held (c : ℕ) : Type 0 where
    pub net : Net
    pub initial : Bool
    pub is : cs c ≡ register_cell net initial
    pub there : There d n net

  held : (c : ℕ) → c < register_bits d → Held c
  held c h =
      let w = found c h in
      let x = f.registers.done w.word w.bit w.word_below w.bit_below in
      record { net = x.0; initial = d.initial w.word w.bit; is = ap cs w.is ∙ x.1; there = x.2.there }

  holds : (c : ℕ) → c < register_bits d → (cs c).holds ≡ true
  holds c h = ap (λ (x : CellT). x.holds) (held c h).is

  -- a cell that doesn't hold is a gate
  is_gate : (c : ℕ) → (cs c).holds ≡ false → register_bits d ≤ c
  is_gate c q = ⊎_elim (λ h. absurd (true≢false (sym (holds c h) ∙ q))) (λ h. h) (cases_lt c (register_bits d))

  reads : (c k : ℕ) → c < n → k < 4 → There d n (input_of (cs c) k)
  reads c k u h = ⊎_elim
      (λ (l : c < register_bits d). let x = held c l in rw x.is (register_reads d n x.net x.initial k x.there h))
      (λ (l : register_bits d ≤ c). let t = (f.registers.gates c l u).reads k h in record { input = t.input; cell = λ j q. omega (arith, t.cell j q) })
      (cases_lt c (register_bits d))

  fits : (x h v : ℕ → Bool) → Consistent (netlist_in cs n outs) x h v → Fits (register_bits d) cs n x h v
  unfolding cell_lookup cell_address looked_up
  fits x h v con = record {
    held = λ r l. con r (omega (arith, f.registers.low)) ∙ ap (λ b. cond b (h r) (looked_up x v (cs r))) (holds r l);
    gates = λ c l u. con c u ∙ ap (λ b. cond b (h c) (looked_up x v (cs c))) (f.registers.gates c l u).holds;
  }

  bits_are : (ins regs : Words) (x h : ℕ → Bool) → BitsOf d.inputs d.input_width ins x → BitsOf d.registers d.register_width regs h → BitsAre d ins regs x h
  bits_are ins regs x h xs hs = record { inputs = xs; registers = hs }

  next_bit : (ins regs : Words) (x h v : ℕ → Bool) → BitsAre d ins regs x h → Fits (register_bits d) cs n x h v →
      (r k : ℕ) → r < d.registers → k < d.register_width r → looked_up x v (cs (total r d.register_width + k)) ≡ eval d ins regs (d.next r) k
  next_bit ins regs x h v bits fit r k l u =
      let q = f.registers.done r k l u in
      ap (looked_up x v) q.1 ∙ register_looks_up x v q.0 (d.initial r k) ∙ q.2.level ins regs x h v bits fit

  register_place : (r k : ℕ) → r < d.registers → k < d.register_width r → total r d.register_width + k < register_bits d
  unfolding register_bits
  register_place r k l u = total_within d.register_width r d.registers k l u

  pub lowers : Lowers d (netlist_in cs n outs)
  unfolding cell_lookup cell_address looked_up net_level
  lowers = record {
    ordered = λ c k j u kl q is. inr (((f.registers.gates c (is_gate c q) u).reads k kl).cell j is);
    cells_exist = λ c k j u kl q. (reads c k u kl).cell j q;
    inputs_exist = λ c k j u kl q. (reads c k u kl).input j q;
    registers = λ r k l u.
        let p = register_place r k l u in
        (omega (arith, f.registers.low), holds (total r d.register_width + k) p, ap (λ (c : CellT). c.initial) (f.registers.done r k l u).1);
    outputs = λ o k l u. (f.carried o k l u).there.cell (outs (total o (output_width d) + k)) refl;
    next = λ ins regs x h v xs hs con r k l u. next_bit ins regs x h v (bits_are ins regs x h xs hs) (fits x h v con) r k l u;
    shows = λ ins regs x h v xs hs con o k l u. (f.carried o k l u).level ins regs x h v (bits_are ins regs x h xs hs) (fits x h v con);
  }

  pub lowering : n ≤ outputs_most d d.outputs → Lowering d (netlist_in cs n outs)
  unfolding output_bits
  lowering few = record {
    lowers = lowers;
    few = omega (arith, plain_is_most d);
    outputs = f.there;
    apart = λ m k hm hk e. elim (cases_order m k) [
      | inl q ↦ q
      | inr q ↦ elim q [
        | inl l ↦ absurd (omega (arith, f.rising m k l hk))
        | inr l ↦ absurd (omega (arith, f.rising k m l hm))
      ]
    ];
  }
