-- The registers and outputs of a design in numbers, and the whole netlist.
use Rattle.std.proofs.Common.{◌≡◌, ℕ, ◌+◌, ◌<◌, ◌≤◌, min, true, false, List, get_or, is_some, Some, None, sym, refl, ap, ◌∙◌, arith}
use Rattle.std.proofs.lemmas.Bool.{and_parts, eqb-true, both_ways}
use Rattle.design.specs.Designs.{word, width, width_ok, well_formed, register_sound, output_sound, cells, total, input_bits, output_width, output_cells, plain_cells, plain_tracks}
use Rattle.design.specs.Numbers.{nodes_of, registers_of, outputs_of, register_node, output_node, design_in, reading_refusal, soundness_refusal}
use Rattle.design.proofs.Reading.{Readable, readable}
use Rattle.design.proofs.Sound.{sound_from_none}
use Rattle.netlist.proofs.Totals.{total_zero, total_more, total_one, total_below}
use Rattle.arrayvec.specs.ArrayVec.{ArrayVec, array_vec_len}
use Rattle.netlist.specs.declared.parts.Cell.{Cell as CellT}
use Rattle.netlist.specs.declared.bus.Bus.{Bus}
use Rattle.netlist.specs.declared.work.Work.{Work}
use Rattle.netlist.specs.declared.netlists.Netlist.{Netlist as NetlistT}
use Rattle.netlist.specs.Building.{cell_at, register_bits, CarriesWord, Extends, Grows, Laid, gate_row, register_row, RegistersAt, OutputsAt, registers_most, outputs_most, Lowering}
use Rattle.netlist.specs.Rows.{net_of}
use Rattle.netlist.specs.Works.{count_of, cells_of, bus_at, nets_at, is_laid, outs_of, zeros, Wrote, RowLaid, RowAsks}
use Rattle.netlist.specs.Lowerings.{expr_in, Lowerable, Built, LayAsks, LayGives, RegistersIn, OutputsIn, netlist_of, small_refusal, words_refusal}
use Rattle.netlist.proofs.Growing.{carries_more}
use Rattle.netlist.proofs.Roots.{registers_begin, registers_step, outputs_begin, outputs_grow, outputs_step}
use Rattle.netlist.proofs.Finished.{plain_is_most, lowering}
use Rattle.netlist.proofs.Widths.{Range, width_range}
use Rattle.netlist.proofs.Refusing.{small_none, small_says, words_none}

-- nodes that are laid out stay so while cells are added or registers written, and nothing is noted
built_more : (xs : List ℕ) (w w₁ : Work) → Extends (register_bits (design_in xs)) (cells_of w) (count_of w) (cells_of w₁) (count_of w₁) →
    w₁.buses ≡ w.buses → Built xs w → Built xs w₁
built_more xs w w₁ ext eb b = record {
  low = omega (arith, b.low, ext.more);
  buses = λ m h l.
      let was : is_laid w m ≡ true = ap (λ bs. is_some (get_or bs m None)) (sym eb) ∙ l in
      let c = b.buses m h was in
      λ k u. rw eb (carries_more (design_in xs) (cells_of w) (cells_of w₁) (count_of w) (count_of w₁) (nets_at w m k) _ ext (c k u));
}

-- a node that is laid out
laid_node : (xs : List ℕ) (w w₁ : Work) (n : ℕ) → n < nodes_of xs → LayGives xs w w₁ (Some n) →
    Laid (design_in xs) (cells_of w) (count_of w) (cells_of w₁) (count_of w₁) (nets_at w₁ n) (expr_in xs n)
laid_node xs w w₁ n h g = record { grows = g.grows; carries = g.built.buses n h g.laid }

module _ (xs : List ℕ) (ok : Lowerable xs) where
  read : Readable xs
  read = readable xs ok.readable

  small : outputs_most (design_in xs) (design_in xs).outputs ≤ 1024
  small = omega (arith, plain_is_most (design_in xs), ok.few_cells)

  -- 1. Registers.

  register_formed : (r : ℕ) → r < (design_in xs).registers → (well_formed (design_in xs) ((design_in xs).next r) ≡ true) × (width (design_in xs) ((design_in xs).next r) ≡ (design_in xs).register_width r)
  unfolding register_sound
  register_formed r h =
      let p = and_parts (width_ok ((design_in xs).register_width r)) _ (ok.sound.registers r h) in
      let q = and_parts (well_formed (design_in xs) ((design_in xs).next r)) _ p.1 in
      (q.0, eqb-true _ _ q.1)

  next_fits : (r : ℕ) → r < (design_in xs).registers → registers_most (design_in xs) r + cells (design_in xs) ((design_in xs).next r) ≤ 1024
  next_fits r h = omega (arith, small, total_one (λ i. cells (design_in xs) ((design_in xs).next i)) r (design_in xs).registers h)

  pub register_asks : (w : Work) (r n : ℕ) → r < registers_of xs → n ≡ register_node xs r → RegistersIn xs w r → LayAsks xs w (Some n)
  unfolding design_in
  register_asks w r n h e a = rw e (record {
    lowerable = ok;
    built = a.built;
    there = (read.registers r h, (register_formed r h).0);
    room = omega (arith, a.few, next_fits r h);
  })

  register_bits_small : register_bits (design_in xs) ≤ 1024
  register_bits_small = omega (arith, small)

  pub register_place : (r start m : ℕ) → r < registers_of xs → start ≡ total r (design_in xs).register_width → m ≡ (design_in xs).register_width r → start + m ≤ 1024
  unfolding design_in register_bits
  register_place r start m h es em = omega (arith, register_bits_small, total_one (design_in xs).register_width r (design_in xs).registers h)

  pub register_room : (w : Work) (r start m : ℕ) → Built xs w → r < registers_of xs → start ≡ total r (design_in xs).register_width → m ≡ (design_in xs).register_width r → start + m ≤ count_of w
  unfolding design_in register_bits
  register_room w r start m b h es em = omega (arith, b.low, total_one (design_in xs).register_width r (design_in xs).registers h)

  -- a register's next word is laid out, and its cells are written
  module _ (w w₁ w₂ : Work) (r m v : ℕ) (x : Bus) (there : r < registers_of xs) (a : RegistersIn xs w r) (g : LayGives xs w w₁ (Some (register_node xs r)))
      (em : m ≡ (design_in xs).register_width r) (ex : x ≡ bus_at w₁ (register_node xs r)) (ev : word v ≡ (design_in xs).initial r)
      (wr : Wrote w₁ w₂ (total r (design_in xs).register_width) m (register_row (net_of x) (word v))) where
    next_laid : Laid (design_in xs) (cells_of w) (count_of w) (cells_of w₁) (count_of w₁) (net_of x) ((design_in xs).next r)
    unfolding design_in
    next_laid = rw ex (laid_node xs w w₁ (register_node xs r) (read.registers r there) g)

    gates_stay : Extends (register_bits (design_in xs)) (cells_of w₁) (count_of w₁) (cells_of w₂) (count_of w₂)
    unfolding register_bits design_in
    gates_stay = record {
      more = omega (arith, wr.count);
      same = λ c low high. wr.cells.above c (omega (arith, total_one (design_in xs).register_width r (design_in xs).registers there));
    }

    at_step : RegistersAt (design_in xs) (cells_of w₂) (count_of w₁) (r + 1)
    unfolding design_in
    at_step = registers_step (design_in xs) (cells_of w) (cells_of w₁) (cells_of w₂) (count_of w) (count_of w₁) r (net_of x) there a.at next_laid (register_formed r there).1 (rw (em, ev) at wr.cells)

    register_done : RegistersIn xs w₂ (r + 1)
    unfolding design_in
    register_done = record {
      built = built_more xs w₁ w₂ gates_stay wr.notes.buses g.built;
      at = rw wr.count at_step;
      few = omega (arith, a.few, g.few, wr.count, total_more r (λ i. cells (design_in xs) ((design_in xs).next i)));
    }

  pub register_step : (w w₁ w₂ : Work) (r n start m v : ℕ) (x : Bus) → r < registers_of xs → n ≡ register_node xs r → RegistersIn xs w r → LayGives xs w w₁ (Some n) →
      start ≡ total r (design_in xs).register_width → m ≡ (design_in xs).register_width r → x ≡ bus_at w₁ n → word v ≡ (design_in xs).initial r →
      Wrote w₁ w₂ start m (register_row (net_of x) (word v)) → RegistersIn xs w₂ (r + 1)
  register_step w w₁ w₂ r n start m v x h e a g es em ex ev wr =
      register_done w w₁ w₂ r m v x h a (rw e at g) em (ex ∙ ap (λ k. bus_at w₁ k) e) ev (rw es at wr)

  -- 2. Outputs.

  pub outputs_none : (w : Work) → RegistersIn xs w (design_in xs).registers → OutputsIn xs w 0
  outputs_none w a = record {
    built = a.built;
    at = outputs_begin (design_in xs) (cells_of w) (count_of w) (outs_of w) a.at;
    few = omega (arith, a.few);
  }

  output_formed : (o : ℕ) → o < (design_in xs).outputs → well_formed (design_in xs) ((design_in xs).output o) ≡ true
  unfolding output_sound
  output_formed o h = ok.sound.outputs o h

  output_fits : (o : ℕ) → o < (design_in xs).outputs → outputs_most (design_in xs) o + (cells (design_in xs) ((design_in xs).output o) + output_width (design_in xs) o) ≤ 1024
  unfolding output_cells
  output_fits o h = omega (arith, small, total_one (output_cells (design_in xs)) o (design_in xs).outputs h)

  pub output_asks : (w : Work) (o n : ℕ) → o < outputs_of xs → n ≡ output_node xs o → OutputsIn xs w o → LayAsks xs w (Some n)
  unfolding design_in
  output_asks w o n h e a = rw e (record {
    lowerable = ok;
    built = a.built;
    there = (read.outputs o h, output_formed o h);
    room = omega (arith, a.few, output_fits o h);
  })

  -- the width of an output's node
  pub output_wide : (o n m : ℕ) → o < outputs_of xs → n ≡ output_node xs o →
      (n < nodes_of xs → well_formed (design_in xs) (expr_in xs n) ≡ true → m ≡ width (design_in xs) (expr_in xs n)) → m ≡ output_width (design_in xs) o
  unfolding design_in output_width
  output_wide o n m h e is = (rw e at is) (read.outputs o h) (output_formed o h)

  module _ (w w₁ : Work) (o n m : ℕ) (there : o < outputs_of xs) (e : n ≡ output_node xs o) (a : OutputsIn xs w o) (g : LayGives xs w w₁ (Some n)) (em : m ≡ output_width (design_in xs) o) where
    row_fits : count_of w₁ + m ≤ 1024
    unfolding design_in
    row_fits = let f : count_of w₁ ≤ count_of w + cells (design_in xs) ((design_in xs).output o) = rw e at g.few in omega (arith, a.few, output_fits o there)

    output_range : Range (output_width (design_in xs) o)
    unfolding output_width design_in
    output_range = width_range (design_in xs) ok.sound ((design_in xs).output o) (output_formed o there)

    pub output_row : RowAsks w₁ m
    output_row = record { narrow = omega (arith, output_range.high); room = row_fits }

    pub output_places : (start : ℕ) → start ≡ total o (output_width (design_in xs)) → start + m ≤ 1024
    unfolding design_in output_cells
    output_places start es =
        omega (
          arith,
          small,
          total_one (output_width (design_in xs)) o (design_in xs).outputs there,
          total_below (output_width (design_in xs)) (output_cells (design_in xs)) (design_in xs).outputs (λ i h. omega arith),
        )

    -- it is passed on to cells of its own, which are noted
    module _ (w₂ w₃ : Work) (bus : Bus) (start first : ℕ) (es : start ≡ total o (output_width (design_in xs))) (r : RowLaid w₁ w₂ m (gate_row 2 (nets_at w₁ n) zeros zeros) bus)
        (ef : first ≡ count_of w₁) (ec : w₃.cells ≡ w₂.cells) (eb : w₃.buses ≡ w₂.buses)
        (old : (k : ℕ) → k < start → outs_of w₃ k ≡ outs_of w₂ k) (new : (k : ℕ) → k < m → outs_of w₃ (start + k) ≡ first + k) where
      output_laid : Laid (design_in xs) (cells_of w) (count_of w) (cells_of w₁) (count_of w₁) (nets_at w₁ n) ((design_in xs).output o)
      unfolding design_in
      output_laid =
          let h : n < nodes_of xs = omega (arith, read.outputs o there) in
          let l = laid_node xs w w₁ n h g in
          record { grows = l.grows; carries = carried }
        where
          carried : CarriesWord (design_in xs) (cells_of w₁) (count_of w₁) (nets_at w₁ n) ((design_in xs).output o)
          carried = as_output (output_node xs o) e (g.built.buses n (omega (arith, read.outputs o there)) g.laid)
            where
              as_output : (k : ℕ) → n ≡ k → CarriesWord (design_in xs) (cells_of w₁) (count_of w₁) (nets_at w₁ n) (expr_in xs n) → CarriesWord (design_in xs) (cells_of w₁) (count_of w₁) (nets_at w₁ n) (expr_in xs k)
              as_output k q c = rw (← q) c

      outs_old : (k : ℕ) → k < total o (output_width (design_in xs)) → outs_of w₃ k ≡ outs_of w k
      outs_old k h = old k (omega arith) ∙ ap (λ l. get_or l k 0) (r.notes.outputs ∙ g.outputs)

      at_output : OutputsAt (design_in xs) (cells_of w₂) (count_of w₁ + output_width (design_in xs) o) (outs_of w₃) (o + 1)
      at_output = outputs_step (design_in xs) (cells_of w) (cells_of w₁) (cells_of w₂) (count_of w) (count_of w₁) o (outs_of w) (outs_of w₃) (nets_at w₁ n) zeros zeros a.at output_laid
          (rw em at r.cells) (λ k h. refl) (λ k h. refl) outs_old (rw (es, em, ef) at new)

      en : count_of w₃ ≡ count_of w₂
      en = ap (λ (v : ArrayVec CellT). array_vec_len v) ec

      grown : Extends (register_bits (design_in xs)) (cells_of w₁) (count_of w₁) (cells_of w₃) (count_of w₃)
      grown = record { more = omega (arith, en, r.count); same = λ c low high. ap (λ (v : ArrayVec CellT). cell_at v.items c) ec ∙ r.cells.same c high }

      pub output_step : OutputsIn xs w₃ (o + 1)
      unfolding output_cells design_in
      output_step = record {
        built = built_more xs w₁ w₃ grown (eb ∙ r.notes.buses) g.built;
        at = rw (ec, r.count, em) at_output;
        few = let f : count_of w₁ ≤ count_of w + cells (design_in xs) ((design_in xs).output o) = rw e at g.few in
            omega (arith, a.few, en, r.count, em, total_more o (output_cells (design_in xs)));
      }

-- 3. The whole.

pub registers_fit : (xs : List ℕ) (r k : ℕ) → Lowerable xs → r ≡ registers_of xs → (r ≤ (design_in xs).registers → k ≡ min 65535 (total r (design_in xs).register_width)) → k ≤ 1024
unfolding design_in register_bits
registers_fit xs r k ok er begin = let e = begin (omega arith) in omega (arith, rw er at e, register_bits_small xs ok)

pub registers_none : (xs : List ℕ) (w : Work) (r k : ℕ) → Lowerable xs → r ≡ registers_of xs → (r ≤ (design_in xs).registers → k ≡ min 65535 (total r (design_in xs).register_width)) →
    count_of w ≡ k → ((m : ℕ) → is_laid w m ≡ false) → RegistersIn xs w 0
unfolding design_in register_bits
registers_none xs w r k ok er begin e none =
    let d = design_in xs in
    let s : register_bits d ≤ 1024 = register_bits_small xs ok in
    let ek : k ≡ min 65535 (total (registers_of xs) d.register_width) = rw er at begin (omega arith) in
    let c : count_of w ≡ register_bits d = omega arith in
    record {
      built = record { low = omega arith; buses = λ m h l. absurd (both_ways (is_laid w m) (none m) l) };
      at = rw c (registers_begin d (cells_of w));
      few = omega (arith, total_zero (λ i. cells d (d.next i)));
    }

pub whole_small : (xs : List ℕ) (w : Work) → Lowerable xs → OutputsIn xs w (design_in xs).outputs → count_of w ≤ 1024
whole_small xs w ok a = omega (arith, a.few, small xs ok)

pub finished : (xs : List ℕ) (w : Work) (n : NetlistT) → OutputsIn xs w (design_in xs).outputs → n.count ≡ count_of w →
    ((c : ℕ) → cell_at n.cells c ≡ cells_of w c) → n.outputs ≡ w.outputs → Lowering (design_in xs) (netlist_of n)
finished xs w n a ek ec eo =
    let d = design_in xs in
    let same : Grows d (cells_of w) (count_of w) (cell_at n.cells) (count_of w) =
    record { extends = record { more = omega arith; same = λ c low high. ec c }; gates = λ c low high. absurd (omega arith) } in
    let at = outputs_grow d (cells_of w) (cell_at n.cells) (count_of w) (count_of w) d.outputs (outs_of w) same a.at in
    rw (ek, eo) (lowering d (cell_at n.cells) (count_of w) (outs_of w) at a.few)

-- 4. Refusals.

pub refuses_none : (xs : List ℕ) (n t : ℕ) → soundness_refusal (design_in xs) ≡ None → n ≡ min 65536 (plain_cells (design_in xs)) → n ≤ 1024 →
    t ≡ min 65536 (plain_tracks (design_in xs)) → t ≤ 65535 → words_refusal xs ≡ None
refuses_none xs n t s e h et ht = words_none xs t (small_none (design_in xs) n s e h) et ht

pub lowerable : (xs : List ℕ) (t : ℕ) → reading_refusal xs ≡ None → small_refusal (design_in xs) ≡ None → t ≡ min 65536 (plain_tracks (design_in xs)) → t ≤ 65535 → Lowerable xs
unfolding plain_tracks input_bits
lowerable xs t r s et ht =
    let p = small_says (design_in xs) s in
    record {
      readable = r;
      sound = sound_from_none (design_in xs) p.0;
      few_cells = p.1;
      few_inputs = λ i small there. omega (arith, total_one (design_in xs).input_width i (design_in xs).inputs there);
    }
