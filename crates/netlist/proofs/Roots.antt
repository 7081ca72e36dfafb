-- The steps of laying out the registers and the outputs of a design.
use Rattle.std.proofs.Common.{◌≡◌, ℕ, ◌+◌, ◌-◌, ◌<◌, ◌≤◌, false, ◌⊎◌, refl, ap, ◌∙◌, inl, inr, ⊎_elim, arith}
use Rattle.std.proofs.lemmas.Bool.{cases_eq, cases_lt}
use Rattle.design.specs.Designs.{Design, width, total, output_width}
use Rattle.netlist.proofs.Totals.{total_zero, total_more, total_one, total_within}
use Rattle.netlist.specs.declared.parts.Net.{Net}
use Rattle.netlist.specs.declared.parts.Net.TheVariants.{Zero, Cell}
use Rattle.netlist.specs.Building.{Cells, register_bits, register_cell, Signal, signal_of, Carries, Extends, Grows, Appended, Written, Laid, gate_row, register_row, RegistersAt, OutputsAt}
use Rattle.netlist.proofs.Gates.{pass_op, pass_table}
use Rattle.netlist.proofs.Growing.{carries_more, grows_carries, grows_gates, grows_trans, gate_more}
use Rattle.netlist.proofs.Steps.{gates_laid, zeros_carry}

-- no register is laid out yet
pub registers_begin : (d : Design) (cs : Cells) → RegistersAt d cs (register_bits d) 0
registers_begin d cs = record { low = omega arith; gates = λ c low high. absurd (omega arith); done = λ i k h. absurd (omega arith) }

-- a register's bit, its net and its cell
abbrev Done : (d : Design) (cs : Cells) (count i k : ℕ) → Type 0
Done d cs n i k = (net : Net) × (cs (total i d.register_width + k) ≡ register_cell net (d.initial i k)) × Carries d cs n net (signal_of d (d.next i) k)

-- what is done stays so while the netlist grows
registers_grow : (d : Design) (cs cs₁ : Cells) (n n₁ r : ℕ) → r ≤ d.registers → Grows d cs n cs₁ n₁ → RegistersAt d cs n r → RegistersAt d cs₁ n₁ r
unfolding register_bits
registers_grow d cs cs₁ n n₁ r few g a = record {
  low = omega (arith, a.low, g.extends.more);
  gates = grows_gates d cs cs₁ n n₁ (register_bits d) g a.gates;
  done = λ i k h l.
      let x = a.done i k h l in
      let w = total_within d.register_width i d.registers k (omega arith) l in
      (x.0, g.extends.same (total i d.register_width + k) (omega arith) (omega (arith, a.low)) ∙ x.1, grows_carries d cs cs₁ n n₁ x.0 _ g x.2);
}

module _ (d : Design) (cs cs₁ : Cells) (n r : ℕ) (nets : ℕ → Net) (there : r < d.registers) (a : RegistersAt d cs n r)
    (carries : (k : ℕ) → k < d.register_width r → Carries d cs n (nets k) (signal_of d (d.next r) k))
    (w : Written cs cs₁ (total r d.register_width) (d.register_width r) (register_row nets (d.initial r))) where
  bits_in : total r d.register_width + d.register_width r ≤ register_bits d
  unfolding register_bits
  bits_in = total_one d.register_width r d.registers there

  gates_stay : Extends (register_bits d) cs n cs₁ n
  gates_stay = record { more = omega arith; same = λ c low high. w.above c (omega (arith, bits_in)) }

  still : (net : Net) (s : Signal) → Carries d cs n net s → Carries d cs₁ n net s
  still net s c = carries_more d cs cs₁ n n net s gates_stay c

  bit_done : (i k : ℕ) → i < r + 1 → k < d.register_width i → (i ≡ r) ⊎ (i ≡ r → ⊥) → Done d cs₁ n i k
  bit_done i k h l (inl q) =
      let here : Done d cs₁ n r k =
      let b : k < d.register_width r = rw q at l in (nets k, w.written k b, still (nets k) _ (carries k b)) in
      rw q here
  bit_done i k h l (inr q) =
      let x = a.done i k (omega arith) l in
      let v = total_within d.register_width i r k (omega arith) l in
      (x.0, w.below (total i d.register_width + k) v ∙ x.1, still x.0 _ x.2)

  -- a register's cells are written
  registers_write : RegistersAt d cs₁ n (r + 1)
  registers_write = record {
    low = a.low;
    gates = λ c low high. gate_more d c (cs c) (cs₁ c) (w.above c (omega (arith, bits_in))) (a.gates c low high);
    done = λ i k h l. bit_done i k h l (cases_eq i r);
  }

-- the next word of a register is laid out, and then its cells are written
pub registers_step : (d : Design) (cs cs₁ cs₂ : Cells) (n n₁ r : ℕ) (nets : ℕ → Net) → r < d.registers → RegistersAt d cs n r →
    Laid d cs n cs₁ n₁ nets (d.next r) → width d (d.next r) ≡ d.register_width r →
    Written cs₁ cs₂ (total r d.register_width) (d.register_width r) (register_row nets (d.initial r)) → RegistersAt d cs₂ n₁ (r + 1)
registers_step d cs cs₁ cs₂ n n₁ r nets there a l wide w =
    registers_write d cs₁ cs₂ n₁ r nets there (registers_grow d cs cs₁ n n₁ r (omega arith) l.grows a) (λ k h. l.carries k (omega arith)) w

-- no output is laid out yet
pub outputs_begin : (d : Design) (cs : Cells) (n : ℕ) (outs : ℕ → ℕ) → RegistersAt d cs n d.registers → OutputsAt d cs n outs 0
outputs_begin d cs n outs a = record {
  registers = a;
  carried = λ q k h. absurd (omega arith);
  there = λ m h. absurd (omega (arith, total_zero (output_width d)));
  rising = λ m p l h. absurd (omega (arith, total_zero (output_width d)));
}

pub outputs_grow : (d : Design) (cs cs₁ : Cells) (n n₁ o : ℕ) (outs : ℕ → ℕ) → Grows d cs n cs₁ n₁ → OutputsAt d cs n outs o → OutputsAt d cs₁ n₁ outs o
outputs_grow d cs cs₁ n n₁ o outs g a = record {
  registers = registers_grow d cs cs₁ n n₁ d.registers (omega arith) g a.registers;
  carried = λ q k h l. grows_carries d cs cs₁ n n₁ _ _ g (a.carried q k h l);
  there = λ m h. omega (arith, a.there m h, g.extends.more);
  rising = a.rising;
}

module _ (d : Design) (cs cs₁ cs₂ : Cells) (n n₁ o : ℕ) (outs outs₁ : ℕ → ℕ) (nets zb zc : ℕ → Net) (a : OutputsAt d cs n outs o)
    (l : Laid d cs n cs₁ n₁ nets (d.output o)) (app : Appended cs₁ n₁ cs₂ (output_width d o) (gate_row 2 nets zb zc))
    (zero_b : (k : ℕ) → k < output_width d o → zb k ≡ Zero) (zero_c : (k : ℕ) → k < output_width d o → zc k ≡ Zero)
    (old : (m : ℕ) → m < total o (output_width d) → outs₁ m ≡ outs m) (new : (k : ℕ) → k < output_width d o → outs₁ (total o (output_width d) + k) ≡ n₁ + k) where
  passed : Laid d cs₁ n₁ cs₂ (n₁ + output_width d o) (λ k. Cell (n₁ + k)) (d.output o)
  unfolding output_width
  passed = gates_laid d cs₁ cs₂ n₁ (output_width d o) (omega (arith, a.registers.low, l.grows.extends.more)) 2 pass_op pass_table nets zb zc (signal_of d (d.output o)) (λ k ins regs. false) (λ k ins regs. false)
      l.carries (zeros_carry d cs₁ n₁ (output_width d o) zb zero_b) (zeros_carry d cs₁ n₁ (output_width d o) zc zero_c) (d.output o) refl (λ k ins regs. refl) app (λ k. Cell (n₁ + k)) (λ k h. refl)

  all_grow : Grows d cs n cs₂ (n₁ + output_width d o)
  all_grow = grows_trans d cs cs₁ cs₂ n n₁ (n₁ + output_width d o) l.grows passed.grows

  before : OutputsAt d cs₂ (n₁ + output_width d o) outs o
  before = outputs_grow d cs cs₂ n (n₁ + output_width d o) o outs all_grow a

  -- where a bit of the outputs up to o stands: before, or in the last row
  place : (m : ℕ) → m < total (o + 1) (output_width d) → (m < total o (output_width d)) ⊎ ((k : ℕ) × (k < output_width d o) × (m ≡ total o (output_width d) + k))
  place m h = ⊎_elim inl
      (λ (g : total o (output_width d) ≤ m). inr (m - total o (output_width d), omega (arith, total_more o (output_width d)), omega arith))
      (cases_lt m (total o (output_width d)))

  number_there : (m : ℕ) → m < total (o + 1) (output_width d) → outs₁ m < n₁ + output_width d o
  number_there m h = ⊎_elim
      (λ (q : m < total o (output_width d)). omega (arith, old m q, before.there m q))
      (λ (q : (k : ℕ) × (k < output_width d o) × (m ≡ total o (output_width d) + k)). omega (arith, ap outs₁ q.2, new q.0 q.1, q.1))
      (place m h)

  numbers_rise : (m p : ℕ) → m < p → p < total (o + 1) (output_width d) → outs₁ m < outs₁ p
  numbers_rise m p h u = ⊎_elim
      (λ (q : p < total o (output_width d)). omega (arith, old m (omega arith), old p q, a.rising m p h q))
      (λ (q : (k : ℕ) × (k < output_width d o) × (p ≡ total o (output_width d) + k)). ⊎_elim
      (λ (s : m < total o (output_width d)). omega (arith, old m s, a.there m s, l.grows.extends.more, ap outs₁ q.2, new q.0 q.1))
      (λ (s : (k : ℕ) × (k < output_width d o) × (m ≡ total o (output_width d) + k)). omega (arith, ap outs₁ s.2, new s.0 s.1, ap outs₁ q.2, new q.0 q.1, s.2, q.2))
      (place m (omega arith)))
      (place p u)

  carried_here : (k : ℕ) → k < output_width d o → Carries d cs₂ (n₁ + output_width d o) (Cell (n₁ + k)) (signal_of d (d.output o) k)
  unfolding output_width
  carried_here k b = passed.carries k b

  bit_carried : (q k : ℕ) → q < o + 1 → k < output_width d q → (q ≡ o) ⊎ (q ≡ o → ⊥) →
      Carries d cs₂ (n₁ + output_width d o) (Cell (outs₁ (total q (output_width d) + k))) (signal_of d (d.output q) k)
  bit_carried q k h u (inl e) =
      let here : Carries d cs₂ (n₁ + output_width d o) (Cell (outs₁ (total o (output_width d) + k))) (signal_of d (d.output o) k) =
      let b : k < output_width d o = rw e at u in rw (new k b) (carried_here k b) in
      rw e here
  bit_carried q k h u (inr e) =
      let lt : q < o = omega arith in
      rw (old (total q (output_width d) + k) (total_within (output_width d) q o k lt u)) (before.carried q k lt u)

  -- an output is laid out, and then passed on to cells of its own
  pub outputs_step : OutputsAt d cs₂ (n₁ + output_width d o) outs₁ (o + 1)
  outputs_step = record {
    registers = before.registers;
    carried = λ q k h u. bit_carried q k h u (cases_eq q o);
    there = number_there;
    rising = numbers_rise;
  }
