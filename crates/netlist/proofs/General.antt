-- Every sound design is lowered, of any size: the steps of lowering, by recursion over expressions.
use Rattle.std.proofs.Common.{◌≡◌, ℕ, zero, suc, ◌+◌, ◌-◌, ◌<◌, ◌≤◌, true, cond, ◌&&◌, eqb, ltb, refl, add-one, arith}
use Rattle.std.proofs.lemmas.Bool.{ltb-true, lt-ltb, le-ltb, and_parts, eqb-true}
use Rattle.design.specs.Designs.{Word, Design, Expr, Sound, width, well_formed, cells, total, output_width, output_cells, width_ok, register_sound, output_sound}
use Rattle.design.specs.Designs.{input, register, constant, and, or, xor, not, add, less, equal, mux, slice, concat}
use Rattle.netlist.proofs.Totals.{total_more}
use Rattle.netlist.specs.declared.parts.Net.{Net}
use Rattle.netlist.specs.declared.parts.Net.TheVariants.{Zero, Input, Cell}
use Rattle.netlist.specs.declared.parts.Cell.{Cell as CellT}
use Rattle.netlist.specs.Building.{Cells, blank, register_bits, netlist_in, CarriesWord, Grows, Appended, Written, Laid, gate_row, chain_row, constant_row, register_row, RegistersAt, OutputsAt, registers_most, outputs_most, DesignsLower}
use Rattle.netlist.proofs.Growing.{grows_refl, grows_trans, grows_word}
use Rattle.netlist.proofs.Steps.{same_width, choice_width, slice_width, concat_width, constant_laid, not_laid, and_laid, or_laid, xor_laid, mux_laid, less_laid, equal_laid, add_laid, slice_laid, concat_laid, input_laid, register_laid}
use Rattle.netlist.proofs.Widths.{width_range}
use Rattle.netlist.proofs.Roots.{registers_begin, registers_step, outputs_begin, outputs_step}
use Rattle.netlist.proofs.Finished.{lowering}

-- cells with a row after the first n
unfoldable pub with_row : Cells → (n : ℕ) → (ℕ → CellT) → Cells
with_row cs n new c = cond (ltb c n) (cs c) (new (c - n))

pub row_appended : (cs : Cells) (n m : ℕ) (new : ℕ → CellT) → Appended cs n (with_row cs n new) m new
unfolding with_row
row_appended cs n m new = record {
  same = λ c h. rw (lt-ltb c n h) refl;
  added = λ k h. let e : n + k - n ≡ k = omega arith in let l : n ≤ n + k = omega arith in rw (le-ltb (n + k) n l, e) refl;
}

-- an expression that is laid out, with no more cells than the plain layout takes for it
pub record Lain (d : Design) (cs : Cells) (n : ℕ) (e : Expr) : Type 0 where
  pub cells₁ : Cells
  pub count : ℕ
  pub nets : ℕ → Net
  pub laid : Laid d cs n cells₁ count nets e
  pub few : count ≤ n + cells d e

-- two expressions, one after the other
pub record Two (d : Design) (cs : Cells) (n : ℕ) (a b : Expr) : Type 0 where
  pub cells₁ : Cells
  pub count : ℕ
  pub nets_a : ℕ → Net
  pub nets_b : ℕ → Net
  pub grows : Grows d cs n cells₁ count
  pub carries_a : CarriesWord d cells₁ count nets_a a
  pub carries_b : CarriesWord d cells₁ count nets_b b
  pub few : count ≤ n + (cells d a + cells d b)

-- further cells on top of those that are there
pub on_top : (d : Design) (cs cs₁ cs₂ : Cells) (n n₁ n₂ : ℕ) (nets : ℕ → Net) (e : Expr) → Grows d cs n cs₁ n₁ → Laid d cs₁ n₁ cs₂ n₂ nets e → Laid d cs n cs₂ n₂ nets e
on_top d cs cs₁ cs₂ n n₁ n₂ nets e g l = record { grows = grows_trans d cs cs₁ cs₂ n n₁ n₂ g l.grows; carries = l.carries }

abbrev zeros : ℕ → Net
zeros k = Zero

abbrev row_of : ℕ → ℕ → Net
row_of n k = Cell (n + k)

-- what a sum's gates are handed
unfoldable into : (n k : ℕ) → Net
into n zero = Zero
into n (suc k) = Cell (n + k)

abbrev Lay : Design → Expr → Type 0
Lay d e = (cs : Cells) (n : ℕ) → register_bits d ≤ n → Lain d cs n e

module _ (d : Design) (s : Sound d) where
  two : (a b : Expr) → Lay d a → Lay d b → (cs : Cells) (n : ℕ) → register_bits d ≤ n → Two d cs n a b
  two a b lay_a lay_b cs n low =
      let x = lay_a cs n low in
      let y = lay_b x.cells₁ x.count (omega (arith, x.laid.grows.extends.more)) in
      record {
        cells₁ = y.cells₁;
        count = y.count;
        nets_a = x.nets;
        nets_b = y.nets;
        grows = grows_trans d cs x.cells₁ y.cells₁ n x.count y.count x.laid.grows y.laid.grows;
        carries_a = grows_word d x.cells₁ y.cells₁ x.count y.count x.nets a y.laid.grows x.laid.carries;
        carries_b = y.laid.carries;
        few = omega (arith, x.few, y.few);
      }

  -- a row of cells on top of the operands'
  rowed : (cs : Cells) (n : ℕ) (cs₁ : Cells) (n₁ : ℕ) → Grows d cs n cs₁ n₁ → (m : ℕ) (new : ℕ → CellT) (nets : ℕ → Net) (e : Expr) →
      Laid d cs₁ n₁ (with_row cs₁ n₁ new) (n₁ + m) nets e → n₁ + m ≤ n + cells d e → Lain d cs n e
  rowed cs n cs₁ n₁ g m new nets e l few = record {
    cells₁ = with_row cs₁ n₁ new;
    count = n₁ + m;
    nets = nets;
    few = few;
    laid = on_top d cs cs₁ (with_row cs₁ n₁ new) n n₁ (n₁ + m) nets e g l;
  }

  -- on two operands of one width
  module _ (a b : Expr) (same : width d a ≡ width d b) (some : 1 ≤ width d a) (cs : Cells) (n : ℕ) (low : register_bits d ≤ n) (t : Two d cs n a b) where
    above : register_bits d ≤ t.count
    above = omega (arith, t.grows.extends.more)

    gates : (table : ℕ) → Appended t.cells₁ t.count (with_row t.cells₁ t.count (gate_row table t.nets_a t.nets_b zeros)) (width d a) (gate_row table t.nets_a t.nets_b zeros)
    gates table = row_appended t.cells₁ t.count (width d a) (gate_row table t.nets_a t.nets_b zeros)

    chain : (f o : ℕ) → Appended t.cells₁ t.count (with_row t.cells₁ t.count (chain_row f o t.nets_a t.nets_b t.count)) (width d a) (chain_row f o t.nets_a t.nets_b t.count)
    chain f o = row_appended t.cells₁ t.count (width d a) (chain_row f o t.nets_a t.nets_b t.count)

    lay_and : Lain d cs n (and a b)
    unfolding cells
    lay_and = rowed cs n t.cells₁ t.count t.grows (width d a) _ (row_of t.count) (and a b)
        (and_laid d t.cells₁ _ t.count above (row_of t.count) a t.nets_a t.nets_b zeros t.carries_a b same t.carries_b (λ k h. refl) (λ k h. refl) (gates 8)) (omega (arith, t.few))

    lay_or : Lain d cs n (or a b)
    unfolding cells
    lay_or = rowed cs n t.cells₁ t.count t.grows (width d a) _ (row_of t.count) (or a b)
        (or_laid d t.cells₁ _ t.count above (row_of t.count) a t.nets_a t.nets_b zeros t.carries_a b same t.carries_b (λ k h. refl) (λ k h. refl) (gates 14)) (omega (arith, t.few))

    lay_xor : Lain d cs n (xor a b)
    unfolding cells
    lay_xor = rowed cs n t.cells₁ t.count t.grows (width d a) _ (row_of t.count) (xor a b)
        (xor_laid d t.cells₁ _ t.count above (row_of t.count) a t.nets_a t.nets_b zeros t.carries_a b same t.carries_b (λ k h. refl) (λ k h. refl) (gates 6)) (omega (arith, t.few))

    lay_less : Lain d cs n (less a b)
    unfolding cells
    lay_less = rowed cs n t.cells₁ t.count t.grows (width d a) _ (λ k. Cell (t.count + (width d a - 1))) (less a b)
        (less_laid d t.cells₁ _ t.count above a b t.nets_a t.nets_b _ same some t.carries_a t.carries_b (chain 212 212) refl) (omega (arith, t.few))

    lay_equal : Lain d cs n (equal a b)
    unfolding cells
    lay_equal = rowed cs n t.cells₁ t.count t.grows (width d a) _ (λ k. Cell (t.count + (width d a - 1))) (equal a b)
        (equal_laid d t.cells₁ _ t.count above a b t.nets_a t.nets_b _ same some t.carries_a t.carries_b (chain 9 144) refl) (omega (arith, t.few))

    lay_add : Lain d cs n (add a b)
    unfolding cells into
    lay_add =
        let cs₁ = with_row t.cells₁ t.count (chain_row 232 232 t.nets_a t.nets_b t.count) in
        let row = gate_row 150 t.nets_a t.nets_b (into t.count) in
        let l = add_laid d t.cells₁ cs₁ (with_row cs₁ (t.count + width d a) row) t.count above a b t.nets_a t.nets_b (row_of t.count) (into t.count) (row_of (t.count + width d a)) same t.carries_a t.carries_b
        (chain 232 232) (λ k h. refl) refl (λ k h. refl) (row_appended cs₁ (t.count + width d a) (width d a) row) (λ k h. refl) in
        record {
          cells₁ = with_row cs₁ (t.count + width d a) row;
          count = t.count + width d a + width d a;
          nets = row_of (t.count + width d a);
          few = omega (arith, t.few);
          laid = on_top d cs t.cells₁ (with_row cs₁ (t.count + width d a) row) n t.count (t.count + width d a + width d a) (row_of (t.count + width d a)) (add a b) t.grows l;
        }

  -- of two operands, by the way in which they are combined
  binary : (a b e : Expr) → Lay d a → Lay d b →
      (width d a ≡ width d b → 1 ≤ width d a → (cs : Cells) (n : ℕ) → register_bits d ≤ n → Two d cs n a b → Lain d cs n e) →
      (well_formed d a && (well_formed d b && eqb (width d a) (width d b))) ≡ true → Lay d e
  binary a b e lay_a lay_b combine w cs n low =
      let p = same_width d a b w in
      combine p.2 (width_range d s a p.0).low cs n low (two a b lay_a lay_b cs n low)

  lay_not : (a : Expr) → Lay d a → Lay d (not a)
  unfolding cells
  lay_not a lay_a cs n low =
      let x = lay_a cs n low in
      rowed cs n x.cells₁ x.count x.laid.grows (width d a) _ (row_of x.count) (not a)
      (not_laid d x.cells₁ _ x.count (omega (arith, x.laid.grows.extends.more)) (row_of x.count) a x.nets zeros zeros x.laid.carries (λ k h. refl) (λ k h. refl)
      (row_appended x.cells₁ x.count (width d a) (gate_row 1 x.nets zeros zeros)) (λ k h. refl)) (omega (arith, x.few))

  lay_mux : (c a b : Expr) → Lay d c → Lay d a → Lay d b → width d c ≡ 1 → width d a ≡ width d b → Lay d (mux c a b)
  unfolding cells
  lay_mux c a b lay_c lay_a lay_b one same cs n low =
      let x = lay_c cs n low in
      let t = two a b lay_a lay_b x.cells₁ x.count (omega (arith, x.laid.grows.extends.more)) in
      let g = grows_trans d cs x.cells₁ t.cells₁ n x.count t.count x.laid.grows t.grows in
      let cx = grows_word d x.cells₁ t.cells₁ x.count t.count x.nets c t.grows x.laid.carries in
      rowed cs n t.cells₁ t.count g (width d a) _ (row_of t.count) (mux c a b)
      (mux_laid d t.cells₁ _ t.count (omega (arith, g.extends.more)) (row_of t.count) a t.nets_a t.nets_b (λ k. x.nets 0) t.carries_a b same t.carries_b c x.nets one cx
      (λ k h. refl) (λ k h. refl) (row_appended t.cells₁ t.count (width d a) (gate_row 172 t.nets_a t.nets_b (λ k. x.nets 0)))) (omega (arith, x.few, t.few))

  lay_constant : (w : ℕ) (a : Word) → Lay d (constant w a)
  unfolding cells
  lay_constant w a cs n low = rowed cs n cs n (grows_refl d cs n) w _ (row_of n) (constant w a)
      (constant_laid d cs _ n low (row_of n) w a (row_appended cs n w (constant_row a)) (λ k h. refl)) (omega arith)

  -- no cell more
  same_cells : (cs : Cells) (n : ℕ) (nets : ℕ → Net) (e : Expr) → Laid d cs n cs n nets e → Lain d cs n e
  same_cells cs n nets e l = record { cells₁ = cs; count = n; nets = nets; laid = l; few = omega arith }

  lay_slice : (l w : ℕ) (a : Expr) → l + w ≤ width d a → Lay d a → Lay d (slice l w a)
  unfolding cells
  lay_slice l w a room lay_a cs n low =
      let x = lay_a cs n low in
      record {
        cells₁ = x.cells₁;
        count = x.count;
        nets = λ k. x.nets (l + k);
        few = x.few;
        laid = on_top d cs x.cells₁ x.cells₁ n x.count x.count _ (slice l w a) x.laid.grows (slice_laid d x.cells₁ x.count _ l w a x.nets room x.laid.carries (λ k h. refl));
      }

  lay_concat : (a b : Expr) → Lay d a → Lay d b → Lay d (concat a b)
  unfolding cells
  lay_concat a b lay_a lay_b cs n low =
      let t = two a b lay_a lay_b cs n low in
      record {
        cells₁ = t.cells₁;
        count = t.count;
        nets = λ k. cond (ltb k (width d b)) (t.nets_b k) (t.nets_a (k - width d b));
        few = t.few;
        laid = on_top d cs t.cells₁ t.cells₁ n t.count t.count _ (concat a b) t.grows (concat_laid d t.cells₁ t.count _ a b t.nets_a t.nets_b t.carries_a t.carries_b (λ k h. refl));
      }

  pub lay_expr : (e : Expr) → well_formed d e ≡ true → Lay d e
  unfolding well_formed
  lay_expr (input i) w = λ cs n low. same_cells cs n (λ k. Input (total i d.input_width + k)) (input i) (input_laid d cs n _ i (ltb-true i d.inputs w) (λ k h. refl))
  lay_expr (register r) w = λ cs n low. same_cells cs n (λ k. Cell (total r d.register_width + k)) (register r) (register_laid d cs n _ low r (ltb-true r d.registers w) (λ k h. refl))
  lay_expr (constant v a) w = lay_constant v a
  lay_expr (and a b) w = let p = same_width d a b w in binary a b (and a b) (lay_expr a p.0) (lay_expr b p.1) (lay_and a b) w
  lay_expr (or a b) w = let p = same_width d a b w in binary a b (or a b) (lay_expr a p.0) (lay_expr b p.1) (lay_or a b) w
  lay_expr (xor a b) w = let p = same_width d a b w in binary a b (xor a b) (lay_expr a p.0) (lay_expr b p.1) (lay_xor a b) w
  lay_expr (not a) w = lay_not a (lay_expr a w)
  lay_expr (add a b) w = let p = same_width d a b w in binary a b (add a b) (lay_expr a p.0) (lay_expr b p.1) (lay_add a b) w
  lay_expr (less a b) w = let p = same_width d a b w in binary a b (less a b) (lay_expr a p.0) (lay_expr b p.1) (lay_less a b) w
  lay_expr (equal a b) w = let p = same_width d a b w in binary a b (equal a b) (lay_expr a p.0) (lay_expr b p.1) (lay_equal a b) w
  lay_expr (mux c a b) w =
      let q = choice_width d c _ w in
      let p = same_width d a b q.2 in
      lay_mux c a b (lay_expr c q.0) (lay_expr a p.0) (lay_expr b p.1) q.1 p.2
  lay_expr (slice l v a) w = let p = slice_width d l v a w in lay_slice l v a p.2 (lay_expr a p.0)
  lay_expr (concat a b) w = let p = concat_width d a b w in lay_concat a b (lay_expr a p.0) (lay_expr b p.1)

-- what holds of 0, and of one more while below n, holds of n
counted : (P : ℕ → Type 0) (n : ℕ) → P 0 → ((k : ℕ) → k < n → P k → P (k + 1)) → (m : ℕ) → m ≤ n → P m
counted P n none more zero h = none
counted P n none more (suc m) h = rw (← (add-one m)) (more m (omega arith) (counted P n none more m (omega arith)))

count_up : (P : ℕ → Type 0) (n : ℕ) → P 0 → ((k : ℕ) → k < n → P k → P (k + 1)) → P n
count_up P n none more = counted P n none more n (omega arith)

-- the registers, and then the outputs
unfoldable with_cells : Cells → (at m : ℕ) → (ℕ → CellT) → Cells
with_cells cs at m new c = cond (ltb c at) (cs c) (cond (ltb c (at + m)) (new (c - at)) (cs c))

cells_written : (cs : Cells) (at m : ℕ) (new : ℕ → CellT) → Written cs (with_cells cs at m new) at m new
unfolding with_cells
cells_written cs at m new = record {
  below = λ c h. rw (lt-ltb c at h) refl;
  above = λ c h. let l : at ≤ c = omega arith in rw (le-ltb c at l, le-ltb c (at + m) h) refl;
  written = λ k h.
      let l : at ≤ at + k = omega arith in
      let u : at + k < at + m = omega arith in
      let e : at + k - at ≡ k = omega arith in
      rw (le-ltb (at + k) at l, lt-ltb (at + k) (at + m) u, e) refl;
}

module _ (d : Design) (s : Sound d) where
  pub record RegistersLain (r : ℕ) : Type 0 where
    pub cells₁ : Cells
    pub count : ℕ
    pub at : RegistersAt d cells₁ count r
    pub few : count ≤ registers_most d r

  register_formed : (r : ℕ) → r < d.registers → (well_formed d (d.next r) ≡ true) × (width d (d.next r) ≡ d.register_width r)
  unfolding register_sound
  register_formed r h =
      let p = and_parts (width_ok (d.register_width r)) _ (s.registers r h) in
      let q = and_parts (well_formed d (d.next r)) _ p.1 in
      (q.0, eqb-true _ _ q.1)

  register_more : (r : ℕ) → r < d.registers → RegistersLain r → RegistersLain (r + 1)
  register_more r h before =
      let f = register_formed r h in
      let x = lay_expr d s (d.next r) f.0 before.cells₁ before.count before.at.low in
      let row = register_row x.nets (d.initial r) in
      record {
        cells₁ = with_cells x.cells₁ (total r d.register_width) (d.register_width r) row;
        count = x.count;
        at = registers_step d before.cells₁ x.cells₁ (with_cells x.cells₁ (total r d.register_width) (d.register_width r) row) before.count x.count r x.nets h before.at x.laid f.1
            (cells_written x.cells₁ (total r d.register_width) (d.register_width r) row);
        few = omega (arith, before.few, x.few, total_more r (λ i. cells d (d.next i)));
      }

  registers_none : RegistersLain 0
  registers_none = record { cells₁ = λ c. blank; count = register_bits d; at = registers_begin d (λ c. blank); few = omega arith }

  lay_registers : RegistersLain d.registers
  lay_registers = count_up RegistersLain d.registers registers_none register_more

  pub record OutputsLain (o : ℕ) : Type 0 where
    pub cells₁ : Cells
    pub count : ℕ
    pub outs : ℕ → ℕ
    pub at : OutputsAt d cells₁ count outs o
    pub few : count ≤ outputs_most d o

  -- the cells of the output bits, those of the last output from n on
  numbers : (ℕ → ℕ) → (before n : ℕ) → ℕ → ℕ
  numbers outs before n m = cond (ltb m before) (outs m) (n + (m - before))

  numbers_old : (outs : ℕ → ℕ) (before n m : ℕ) → m < before → numbers outs before n m ≡ outs m
  unfolding numbers
  numbers_old outs before n m h = rw (lt-ltb m before h) refl

  numbers_new : (outs : ℕ → ℕ) (before n k : ℕ) → numbers outs before n (before + k) ≡ n + k
  unfolding numbers
  numbers_new outs before n k = let l : before ≤ before + k = omega arith in let e : before + k - before ≡ k = omega arith in rw (le-ltb (before + k) before l, e) refl

  output_more : (o : ℕ) → o < d.outputs → OutputsLain o → OutputsLain (o + 1)
  unfolding output_sound output_cells
  output_more o h before =
      let x = lay_expr d s (d.output o) (s.outputs o h) before.cells₁ before.count before.at.registers.low in
      let outs = numbers before.outs (total o (output_width d)) x.count in
      let row = gate_row 2 x.nets zeros zeros in
      record {
        cells₁ = with_row x.cells₁ x.count row;
        count = x.count + output_width d o;
        outs = outs;
        at = outputs_step d before.cells₁ x.cells₁ (with_row x.cells₁ x.count row) before.count x.count o before.outs outs x.nets zeros zeros before.at x.laid
            (row_appended x.cells₁ x.count (output_width d o) row) (λ k l. refl) (λ k l. refl)
            (numbers_old before.outs (total o (output_width d)) x.count) (λ k l. numbers_new before.outs (total o (output_width d)) x.count k);
        few = omega (arith, before.few, x.few, total_more o (output_cells d));
      }

  outputs_none : RegistersLain d.registers → OutputsLain 0
  outputs_none r = record { cells₁ = r.cells₁; count = r.count; outs = λ m. 0; at = outputs_begin d r.cells₁ r.count (λ m. 0) r.at; few = omega (arith, r.few) }

  lay_outputs : OutputsLain d.outputs
  lay_outputs = count_up OutputsLain d.outputs (outputs_none lay_registers) output_more

pub designs_lower : DesignsLower
designs_lower d s =
    let l = lay_outputs d s in
    (netlist_in l.cells₁ l.count l.outs, lowering d l.cells₁ l.count l.outs l.at l.few)
