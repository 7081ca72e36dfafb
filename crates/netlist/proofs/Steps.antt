-- The steps of lowering, one for each form of expression: if nets carry the operands' words, the cells that are added carry the result's.
use Rattle.std.proofs.Common.{◌≡◌, ℕ, zero, suc, ◌+◌, ◌-◌, ◌<◌, ◌≤◌, Bool, true, false, cond, ◌&&◌, eqb, ltb, leb, sym, refl, ap, ◌∙◌, arith}
use Rattle.std.proofs.lemmas.Bool.{ltb-true, ltb-false, leb-true, eqb-true, and_parts}
use Rattle.design.specs.Designs.{bit, Word, Words, Design, Expr, width, well_formed, eval, total, input_bits, carry, less_below, equal_below, single}
use Rattle.design.specs.Designs.{input, register, constant, and, or, xor, not, add, less, equal, mux, slice, concat}
use Rattle.netlist.proofs.Totals.{total_within}
use Rattle.netlist.specs.declared.parts.Net.{Net}
use Rattle.netlist.specs.declared.parts.Net.TheVariants.{Zero, Input, Cell}
use Rattle.netlist.specs.Netlists.{net_level}
use Rattle.netlist.specs.Building.{Cells, register_bits, Signal, signal_of, looked_up, Fits, BitsAre, There, Carries, CarriesWord, GateOk, Grows, Appended, Laid, handed, table_at, gate_row, chain_row, constant_row}
use Rattle.netlist.proofs.Gates.{Op, GivesOp, and_op, or_op, xor_op, not_op, mux_op, sum_op, carry_op, less_op, equal_op, same_op, and_table, or_table, xor_table, not_table, mux_table, sum_table, carry_table, less_table, equal_table, same_table, gate_looks_up, constant_looks_up, zero_there, cell_there, gate_ok}
use Rattle.netlist.proofs.Growing.{there_more, grows_refl, grows_trans, grows_carries, zero_carries, carries_as, row_grows, row_carries}

-- 1. What well-formed expressions say of their operands.

pub same_width : (d : Design) (a b : Expr) → (well_formed d a && (well_formed d b && eqb (width d a) (width d b))) ≡ true →
    (well_formed d a ≡ true) × (well_formed d b ≡ true) × (width d a ≡ width d b)
same_width d a b w =
    let p = and_parts (well_formed d a) _ w in
    let q = and_parts (well_formed d b) _ p.1 in
    (p.0, q.0, eqb-true _ _ q.1)

pub choice_width : (d : Design) (c : Expr) (t : Bool) → (well_formed d c && (eqb (width d c) 1 && t)) ≡ true → (well_formed d c ≡ true) × (width d c ≡ 1) × (t ≡ true)
choice_width d c t w =
    let p = and_parts (well_formed d c) _ w in
    let q = and_parts (eqb (width d c) 1) t p.1 in
    (p.0, eqb-true _ _ q.0, q.1)

pub slice_width : (d : Design) (l w : ℕ) (a : Expr) → (well_formed d a && (leb 1 w && leb (l + w) (width d a))) ≡ true → (well_formed d a ≡ true) × (1 ≤ w) × (l + w ≤ width d a)
slice_width d l w a h =
    let p = and_parts (well_formed d a) _ h in
    let q = and_parts (leb 1 w) _ p.1 in
    (p.0, leb-true _ _ q.0, leb-true _ _ q.1)

pub concat_width : (d : Design) (a b : Expr) → (well_formed d a && (well_formed d b && leb (width d a + width d b) 64)) ≡ true →
    (well_formed d a ≡ true) × (well_formed d b ≡ true) × (width d a + width d b ≤ 64)
concat_width d a b h =
    let p = and_parts (well_formed d a) _ h in
    let q = and_parts (well_formed d b) _ p.1 in
    (p.0, q.0, leb-true _ _ q.1)

-- 2. Rows of gates, and chains.

-- the nets are those of a row's cells
abbrev pub RowNets : (n m : ℕ) → (ℕ → Net) → Type 0
RowNets n m nets = (k : ℕ) → k < m → nets k ≡ Cell (n + k)

module _ (d : Design) (cs cs₁ : Cells) (n m : ℕ) (low : register_bits d ≤ n) where
  -- one gate a bit
  module _ (t : ℕ) (op : Op) (table : GivesOp t op) (na nb nc : ℕ → Net) (sa sb sc : ℕ → Signal)
      (ca : (k : ℕ) → k < m → Carries d cs n (na k) (sa k)) (cb : (k : ℕ) → k < m → Carries d cs n (nb k) (sb k)) (cc' : (k : ℕ) → k < m → Carries d cs n (nc k) (sc k))
      (a : Appended cs n cs₁ m (gate_row t na nb nc)) where
    gates_ok : (k : ℕ) → k < m → GateOk d (n + k) (gate_row t na nb nc k)
    gates_ok k h = gate_ok d (n + k) t (na k) (nb k) (nc k)
        (there_more d n (n + k) (na k) (omega arith) (ca k h).there) (there_more d n (n + k) (nb k) (omega arith) (cb k h).there) (there_more d n (n + k) (nc k) (omega arith) (cc' k h).there)

    -- the gates carry a signal that is, bit by bit, the operation on the operands'
    gates_mean : (s : ℕ → Signal) → ((k : ℕ) (ins regs : Words) → s k ins regs ≡ op (sa k ins regs) (sb k ins regs) (sc k ins regs)) →
        (k : ℕ) → k < m → (ins regs : Words) (x h v : ℕ → Bool) → BitsAre d ins regs x h → Fits (register_bits d) cs n x h v →
        ((j : ℕ) → j < k → v (n + j) ≡ s j ins regs) → looked_up x v (gate_row t na nb nc k) ≡ s k ins regs
    gates_mean s is k l ins regs x h v bits f before =
        let la = (ca k l).level ins regs x h v bits f in
        let lb = (cb k l).level ins regs x h v bits f in
        let lc = (cc' k l).level ins regs x h v bits f in
        let g = gate_looks_up t op table x v (na k) (nb k) (nc k) in
        let e = is k ins regs in
        cc

    pub gates_grow : Grows d cs n cs₁ (n + m)
    gates_grow = row_grows d cs cs₁ n m (gate_row t na nb nc) (λ k ins regs. op (sa k ins regs) (sb k ins regs) (sc k ins regs)) low a gates_ok
        (gates_mean (λ k ins regs. op (sa k ins regs) (sb k ins regs) (sc k ins regs)) (λ k ins regs. refl))

    pub gates_carry : (s : ℕ → Signal) → ((k : ℕ) (ins regs : Words) → s k ins regs ≡ op (sa k ins regs) (sb k ins regs) (sc k ins regs)) →
        (nets : ℕ → Net) → RowNets n m nets → (k : ℕ) → k < m → Carries d cs₁ (n + m) (nets k) (s k)
    gates_carry s is nets row k h = carries_as d cs₁ (n + m) (Cell (n + k)) (nets k) (s k) (row k h)
        (row_carries d cs cs₁ n m (gate_row t na nb nc) s low a gates_ok (gates_mean s is) k h)

  -- a chain from the low bit up: `state k` is what bit k is handed, and the cell of bit k carries `state (suc k)`
  module _ (f t : ℕ) (first op : Op) (first_table : GivesOp f first) (table : GivesOp t op) (na nb : ℕ → Net) (sa sb : ℕ → Signal) (state : ℕ → Signal)
      (ca : (k : ℕ) → k < m → Carries d cs n (na k) (sa k)) (cb : (k : ℕ) → k < m → Carries d cs n (nb k) (sb k))
      (first_is : (ins regs : Words) → state 1 ins regs ≡ first (sa 0 ins regs) (sb 0 ins regs) false)
      (next_is : (k : ℕ) (ins regs : Words) → state (suc (suc k)) ins regs ≡ op (sa (suc k) ins regs) (sb (suc k) ins regs) (state (suc k) ins regs))
      (a : Appended cs n cs₁ m (chain_row f t na nb n)) where
    handed_there : (k : ℕ) → There d (n + k) (handed n k)
    unfolding handed
    handed_there zero = zero_there d (n + 0)
    handed_there (suc k) = cell_there d (n + suc k) (n + k) (omega arith)

    chain_ok : (k : ℕ) → k < m → GateOk d (n + k) (chain_row f t na nb n k)
    chain_ok k h = gate_ok d (n + k) (table_at f t k) (na k) (nb k) (handed n k)
        (there_more d n (n + k) (na k) (omega arith) (ca k h).there) (there_more d n (n + k) (nb k) (omega arith) (cb k h).there) (handed_there k)

    chain_means : (k : ℕ) → k < m → (ins regs : Words) (x h v : ℕ → Bool) → BitsAre d ins regs x h → Fits (register_bits d) cs n x h v →
        ((j : ℕ) → j < k → v (n + j) ≡ state (suc j) ins regs) → looked_up x v (chain_row f t na nb n k) ≡ state (suc k) ins regs
    unfolding handed table_at net_level
    chain_means zero l ins regs x h v bits fit before =
        let la = (ca zero l).level ins regs x h v bits fit in
        let lb = (cb zero l).level ins regs x h v bits fit in
        let g = gate_looks_up f first first_table x v (na zero) (nb zero) Zero in
        let e = first_is ins regs in
        cc
    chain_means (suc k) l ins regs x h v bits fit before =
        let la = (ca (suc k) l).level ins regs x h v bits fit in
        let lb = (cb (suc k) l).level ins regs x h v bits fit in
        let lc = before k (omega arith) in
        let g = gate_looks_up t op table x v (na (suc k)) (nb (suc k)) (Cell (n + k)) in
        let e = next_is k ins regs in
        cc

    pub chain_grows : Grows d cs n cs₁ (n + m)
    chain_grows = row_grows d cs cs₁ n m (chain_row f t na nb n) (λ k. state (suc k)) low a chain_ok chain_means

    pub chain_carries : (nets : ℕ → Net) → RowNets n m nets → (k : ℕ) → k < m → Carries d cs₁ (n + m) (nets k) (state (suc k))
    chain_carries nets row k h = carries_as d cs₁ (n + m) (Cell (n + k)) (nets k) (state (suc k)) (row k h)
        (row_carries d cs cs₁ n m (chain_row f t na nb n) (λ k. state (suc k)) low a chain_ok chain_means k h)

  -- a row of gates whose operation is that of an expression of that width
  pub gates_laid : (t : ℕ) (op : Op) → GivesOp t op → (na nb nc : ℕ → Net) (sa sb sc : ℕ → Signal) →
      ((k : ℕ) → k < m → Carries d cs n (na k) (sa k)) → ((k : ℕ) → k < m → Carries d cs n (nb k) (sb k)) → ((k : ℕ) → k < m → Carries d cs n (nc k) (sc k)) →
      (e : Expr) → width d e ≡ m → ((k : ℕ) (ins regs : Words) → eval d ins regs e k ≡ op (sa k ins regs) (sb k ins regs) (sc k ins regs)) →
      Appended cs n cs₁ m (gate_row t na nb nc) → (nets : ℕ → Net) → RowNets n m nets → Laid d cs n cs₁ (n + m) nets e
  gates_laid t op table na nb nc sa sb sc ca cb cc' e wide means a nets row = record {
    grows = gates_grow t op table na nb nc sa sb sc ca cb cc' a;
    carries = λ k h. gates_carry t op table na nb nc sa sb sc ca cb cc' a (signal_of d e) means nets row k (omega arith);
  }

-- 3. The forms.

-- nets that are always 0
pub zeros_carry : (d : Design) (cs : Cells) (n m : ℕ) (nets : ℕ → Net) → ((k : ℕ) → k < m → nets k ≡ Zero) → (k : ℕ) → k < m → Carries d cs n (nets k) (λ ins regs. false)
zeros_carry d cs n m nets z k h = carries_as d cs n Zero (nets k) (λ ins regs. false) (z k h) (zero_carries d cs n)

module _ (d : Design) (cs cs₁ : Cells) (n : ℕ) (low : register_bits d ≤ n) (nets : ℕ → Net) where
  pub constant_laid : (w : ℕ) (a : Word) → Appended cs n cs₁ w (constant_row a) → RowNets n w nets → Laid d cs n cs₁ (n + w) nets (constant w a)
  unfolding width eval
  constant_laid w a app row =
      let ok : (k : ℕ) → k < w → GateOk d (n + k) (constant_row a k) =
      λ k h. gate_ok d (n + k) (bit (a k)) Zero Zero Zero (zero_there d (n + k)) (zero_there d (n + k)) (zero_there d (n + k)) in
      let means : (k : ℕ) → k < w → (ins regs : Words) (x h v : ℕ → Bool) → BitsAre d ins regs x h → Fits (register_bits d) cs n x h v →
      ((j : ℕ) → j < k → v (n + j) ≡ a j) → looked_up x v (constant_row a k) ≡ a k = λ k l ins regs x h v bits f before. constant_looks_up x v (a k) in
      record {
        grows = row_grows d cs cs₁ n w (constant_row a) (λ k ins regs. a k) low app ok means;
        carries = λ k h. carries_as d cs₁ (n + w) (Cell (n + k)) (nets k) _ (row k h) (row_carries d cs cs₁ n w (constant_row a) (λ k ins regs. a k) low app ok means k h);
      }

  module _ (a : Expr) (na nb nc : ℕ → Net) (ca : CarriesWord d cs n na a) where
    pub not_laid : ((k : ℕ) → k < width d a → nb k ≡ Zero) → ((k : ℕ) → k < width d a → nc k ≡ Zero) →
        Appended cs n cs₁ (width d a) (gate_row 1 na nb nc) → RowNets n (width d a) nets → Laid d cs n cs₁ (n + width d a) nets (not a)
    unfolding width eval
    not_laid zb zc app row = gates_laid d cs cs₁ n (width d a) low 1 not_op not_table na nb nc (signal_of d a) (λ k ins regs. false) (λ k ins regs. false)
        ca (zeros_carry d cs n (width d a) nb zb) (zeros_carry d cs n (width d a) nc zc) (not a) refl (λ k ins regs. refl) app nets row

    module _ (b : Expr) (same : width d a ≡ width d b) (cb : CarriesWord d cs n nb b) where
      second : (k : ℕ) → k < width d a → Carries d cs n (nb k) (signal_of d b k)
      second k h = cb k (omega arith)

      module _ (zc : (k : ℕ) → k < width d a → nc k ≡ Zero) (row : RowNets n (width d a) nets) where
        bitwise : (t : ℕ) (op : Op) → GivesOp t op → (e : Expr) → width d e ≡ width d a →
            ((k : ℕ) (ins regs : Words) → eval d ins regs e k ≡ op (eval d ins regs a k) (eval d ins regs b k) false) →
            Appended cs n cs₁ (width d a) (gate_row t na nb nc) → Laid d cs n cs₁ (n + width d a) nets e
        bitwise t op table e wide means app = gates_laid d cs cs₁ n (width d a) low t op table na nb nc (signal_of d a) (signal_of d b) (λ k ins regs. false)
            ca second (zeros_carry d cs n (width d a) nc zc) e wide means app nets row

        pub and_laid : Appended cs n cs₁ (width d a) (gate_row 8 na nb nc) → Laid d cs n cs₁ (n + width d a) nets (and a b)
        unfolding width eval
        and_laid app = bitwise 8 and_op and_table (and a b) refl (λ k ins regs. refl) app

        pub or_laid : Appended cs n cs₁ (width d a) (gate_row 14 na nb nc) → Laid d cs n cs₁ (n + width d a) nets (or a b)
        unfolding width eval
        or_laid app = bitwise 14 or_op or_table (or a b) refl (λ k ins regs. refl) app

        pub xor_laid : Appended cs n cs₁ (width d a) (gate_row 6 na nb nc) → Laid d cs n cs₁ (n + width d a) nets (xor a b)
        unfolding width eval
        xor_laid app = bitwise 6 xor_op xor_table (xor a b) refl (λ k ins regs. refl) app

      -- the third nets are that of the choice
      pub mux_laid : (c : Expr) (net : ℕ → Net) → width d c ≡ 1 → CarriesWord d cs n net c → ((k : ℕ) → k < width d a → nc k ≡ net 0) → RowNets n (width d a) nets →
          Appended cs n cs₁ (width d a) (gate_row 172 na nb nc) → Laid d cs n cs₁ (n + width d a) nets (mux c a b)
      unfolding width eval
      mux_laid c net one c0 is row app = gates_laid d cs cs₁ n (width d a) low 172 mux_op mux_table na nb nc (signal_of d a) (signal_of d b) (λ k. signal_of d c 0)
          ca second (λ k h. carries_as d cs n (net 0) (nc k) _ (is k h) (c0 0 (omega arith))) (mux c a b) refl (λ k ins regs. refl) app nets row

and_true : (x : Bool) → x ≡ (x && true)
and_true true = refl
and_true false = refl

-- comparisons: the result is what the last cell of a chain carries
module _ (d : Design) (cs cs₁ : Cells) (n : ℕ) (low : register_bits d ≤ n) (a b : Expr) (na nb nets : ℕ → Net) (same : width d a ≡ width d b) (some : 1 ≤ width d a)
    (ca : CarriesWord d cs n na a) (cb : CarriesWord d cs n nb b) where
  comparison : (f t : ℕ) (first op : Op) → GivesOp f first → GivesOp t op → (state : ℕ → Signal) →
      ((ins regs : Words) → state 1 ins regs ≡ first (eval d ins regs a 0) (eval d ins regs b 0) false) →
      ((k : ℕ) (ins regs : Words) → state (suc (suc k)) ins regs ≡ op (eval d ins regs a (suc k)) (eval d ins regs b (suc k)) (state (suc k) ins regs)) →
      Appended cs n cs₁ (width d a) (chain_row f t na nb n) → (e : Expr) → width d e ≡ 1 → ((ins regs : Words) → eval d ins regs e 0 ≡ state (width d a) ins regs) →
      nets 0 ≡ Cell (n + (width d a - 1)) → Laid d cs n cs₁ (n + width d a) nets e
  comparison f t first op ft ot state first_is next_is app e wide means last =
      let second : (k : ℕ) → k < width d a → Carries d cs n (nb k) (signal_of d b k) = λ k h. cb k (omega arith) in
      let c = chain_carries d cs cs₁ n (width d a) low f t first op ft ot na nb (signal_of d a) (signal_of d b) state ca second first_is next_is app
      (λ k. Cell (n + k)) (λ k h. refl) (width d a - 1) (omega arith) in
      let end : suc (width d a - 1) ≡ width d a = omega arith in
      record {
        grows = chain_grows d cs cs₁ n (width d a) low f t first op ft ot na nb (signal_of d a) (signal_of d b) state ca second first_is next_is app;
        carries = λ k h.
            let z : k ≡ 0 = omega arith in
            rw z (record { there = rw last c.there; level = λ ins regs x h' v bits fit. ap (net_level x v) last ∙ c.level ins regs x h' v bits fit ∙ ap (λ j. state j ins regs) end ∙ sym (means ins regs) });
      }

  pub less_laid : Appended cs n cs₁ (width d a) (chain_row 212 212 na nb n) → nets 0 ≡ Cell (n + (width d a - 1)) → Laid d cs n cs₁ (n + width d a) nets (less a b)
  unfolding width eval less_below single
  less_laid app last = comparison 212 212 less_op less_op less_table less_table (λ k ins regs. less_below (eval d ins regs a) (eval d ins regs b) k)
      (λ ins regs. refl) (λ k ins regs. refl) app (less a b) refl (λ ins regs. refl) last

  pub equal_laid : Appended cs n cs₁ (width d a) (chain_row 9 144 na nb n) → nets 0 ≡ Cell (n + (width d a - 1)) → Laid d cs n cs₁ (n + width d a) nets (equal a b)
  unfolding width eval equal_below single
  equal_laid app last = comparison 9 144 same_op equal_op same_table equal_table (λ k ins regs. equal_below (eval d ins regs a) (eval d ins regs b) k)
      (λ ins regs. sym (and_true _)) (λ k ins regs. refl) app (equal a b) refl (λ ins regs. refl) last

-- a sum: a chain of carries, and then a gate a bit that is handed the carry into it
module _ (d : Design) (cs cs₁ cs₂ : Cells) (n : ℕ) (low : register_bits d ≤ n) (a b : Expr) (na nb carries into nets : ℕ → Net) (same : width d a ≡ width d b)
    (ca : CarriesWord d cs n na a) (cb : CarriesWord d cs n nb b)
    (chain : Appended cs n cs₁ (width d a) (chain_row 232 232 na nb n)) (row : RowNets n (width d a) carries)
    (into_low : into 0 ≡ Zero) (into_high : (k : ℕ) → suc k < width d a → into (suc k) ≡ carries k) where
  first_is : (ins regs : Words) → carry (eval d ins regs a) (eval d ins regs b) 1 ≡ carry_op (eval d ins regs a 0) (eval d ins regs b 0) false
  unfolding carry
  first_is ins regs = refl

  next_is : (k : ℕ) (ins regs : Words) → carry (eval d ins regs a) (eval d ins regs b) (suc (suc k))
      ≡ carry_op (eval d ins regs a (suc k)) (eval d ins regs b (suc k)) (carry (eval d ins regs a) (eval d ins regs b) (suc k))
  unfolding carry
  next_is k ins regs = refl

  augend : (k : ℕ) → k < width d a → Carries d cs n (nb k) (signal_of d b k)
  augend k h = cb k (omega arith)

  carries_carry : (k : ℕ) → k < width d a → Carries d cs₁ (n + width d a) (carries k) (λ ins regs. carry (eval d ins regs a) (eval d ins regs b) (suc k))
  carries_carry k h = chain_carries d cs cs₁ n (width d a) low 232 232 carry_op carry_op carry_table carry_table na nb (signal_of d a) (signal_of d b)
      (λ k ins regs. carry (eval d ins regs a) (eval d ins regs b) k) ca augend first_is next_is chain carries row k h

  chain_grown : Grows d cs n cs₁ (n + width d a)
  chain_grown = chain_grows d cs cs₁ n (width d a) low 232 232 carry_op carry_op carry_table carry_table na nb (signal_of d a) (signal_of d b)
      (λ k ins regs. carry (eval d ins regs a) (eval d ins regs b) k) ca augend first_is next_is chain

  into_carries : (k : ℕ) → k < width d a → Carries d cs₁ (n + width d a) (into k) (λ ins regs. carry (eval d ins regs a) (eval d ins regs b) k)
  unfolding carry
  into_carries zero h = carries_as d cs₁ (n + width d a) Zero (into 0) _ into_low (zero_carries d cs₁ (n + width d a))
  into_carries (suc k) h = carries_as d cs₁ (n + width d a) (carries k) (into (suc k)) _ (into_high k h) (carries_carry k (omega arith))

  pub add_laid : Appended cs₁ (n + width d a) cs₂ (width d a) (gate_row 150 na nb into) → RowNets (n + width d a) (width d a) nets →
      Laid d cs n cs₂ (n + width d a + width d a) nets (add a b)
  unfolding width eval
  add_laid app sums =
      let l = gates_laid d cs₁ cs₂ (n + width d a) (width d a) (omega arith) 150 sum_op sum_table na nb into (signal_of d a) (signal_of d b)
      (λ k ins regs. carry (eval d ins regs a) (eval d ins regs b) k)
      (λ k h. grows_carries d cs cs₁ n (n + width d a) (na k) _ chain_grown (ca k h)) (λ k h. grows_carries d cs cs₁ n (n + width d a) (nb k) _ chain_grown (augend k h)) into_carries
      (add a b) refl (λ k ins regs. refl) app nets sums in
      record { grows = grows_trans d cs cs₁ cs₂ n (n + width d a) (n + width d a + width d a) chain_grown l.grows; carries = l.carries }

either_carries : (d : Design) (cs : Cells) (n : ℕ) (t : Bool) (a b : Net) (sa sb : Signal) → (t ≡ true → Carries d cs n a sa) → (t ≡ false → Carries d cs n b sb) →
    Carries d cs n (cond t a b) (λ ins regs. cond t (sa ins regs) (sb ins regs))
either_carries d cs n true a b sa sb f g = f refl
either_carries d cs n false a b sa sb f g = g refl

-- forms that take no cell
module _ (d : Design) (cs : Cells) (n : ℕ) (nets : ℕ → Net) where
  pub slice_laid : (l w : ℕ) (a : Expr) (na : ℕ → Net) → l + w ≤ width d a → CarriesWord d cs n na a → ((k : ℕ) → k < w → nets k ≡ na (l + k)) → Laid d cs n cs n nets (slice l w a)
  unfolding width eval
  slice_laid l w a na room ca is = record { grows = grows_refl d cs n; carries = λ k h. carries_as d cs n (na (l + k)) (nets k) _ (is k h) (ca (l + k) (omega arith)) }

  pub concat_laid : (a b : Expr) (na nb : ℕ → Net) → CarriesWord d cs n na a → CarriesWord d cs n nb b →
      ((k : ℕ) → k < width d a + width d b → nets k ≡ cond (ltb k (width d b)) (nb k) (na (k - width d b))) → Laid d cs n cs n nets (concat a b)
  unfolding width eval
  concat_laid a b na nb ca cb is = record {
    grows = grows_refl d cs n;
    carries = λ k h. carries_as d cs n _ (nets k) _ (is k h) (either_carries d cs n (ltb k (width d b)) (nb k) (na (k - width d b)) (signal_of d b k) (signal_of d a (k - width d b))
        (λ t. cb k (ltb-true k (width d b) t)) (λ t. ca (k - width d b) (omega (arith, ltb-false k (width d b) t))));
  }

  pub input_laid : (i : ℕ) → i < d.inputs → ((k : ℕ) → k < d.input_width i → nets k ≡ Input (total i d.input_width + k)) → Laid d cs n cs n nets (input i)
  unfolding width eval input_bits net_level
  input_laid i there is = record {
    grows = grows_refl d cs n;
    carries = λ k h. carries_as d cs n (Input (total i d.input_width + k)) (nets k) _ (is k h) (record {
      there = record {
        input = λ j q. let s : total i d.input_width + k ≡ j = cc in omega (arith, total_within d.input_width i d.inputs k there h);
        cell = λ j q. absurd (let z : ◌≡◌ {A = ℕ} 0 1 = cc in omega arith);
      };
      level = λ ins regs x h' v bits f. bits.inputs i k there h;
    });
  }

  pub register_laid : register_bits d ≤ n → (r : ℕ) → r < d.registers → ((k : ℕ) → k < d.register_width r → nets k ≡ Cell (total r d.register_width + k)) → Laid d cs n cs n nets (register r)
  unfolding width eval register_bits net_level
  register_laid low r there is = record {
    grows = grows_refl d cs n;
    carries = λ k h.
        let w = total_within d.register_width r d.registers k there h in
        carries_as d cs n (Cell (total r d.register_width + k)) (nets k) _ (is k h) (record {
          there = cell_there d n (total r d.register_width + k) (omega arith);
          level = λ ins regs x h' v bits f. f.held (total r d.register_width + k) w ∙ bits.registers r k there h;
        });
  }
