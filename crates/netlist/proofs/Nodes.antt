-- A node of a design in numbers is built from the nodes that it names.
use Rattle.std.proofs.Common.{◌≡◌, ℕ, ◌+◌, ◌-◌, ◌<◌, ◌≤◌, min, true, cond, ◌&&◌, eqb, ltb, List, refl, ap, ◌∙◌, add-one, arith}
use Rattle.std.proofs.lemmas.Bool.{ltb-true, and_parts}
use Rattle.design.specs.declared.node.Node.{Node}
use Rattle.design.specs.declared.node.Node.TheVariants.{Input, Register, Constant, And, Or, Xor, Not, Add, Less, Equal, Mux, Slice, Concat}
use Rattle.design.specs.Designs.{word, width, well_formed, total}
use Rattle.design.specs.Numbers.{nodes_of, names_below, expr_of, design_in}
use Rattle.design.proofs.Exprs.{operands_below, expr_at_node}
use Rattle.netlist.proofs.Totals.{total_one}
use Rattle.netlist.specs.declared.parts.Net.TheVariants.{Cell}
use Rattle.netlist.specs.declared.parts.Net.TheVariants.{Input as InputNet}
use Rattle.netlist.specs.declared.bus.Bus.{Bus}
use Rattle.netlist.specs.declared.work.Work.{Work}
use Rattle.netlist.specs.Building.{register_bits, CarriesWord, Laid, gate_row, chain_row, constant_row}
use Rattle.netlist.specs.Rows.{net_of}
use Rattle.netlist.specs.Works.{count_of, cells_of, bus_at, nets_at, is_laid, zeros, SameNotes, RowLaid, RowAsks, Compared, Summed}
use Rattle.netlist.specs.Lowerings.{expr_in, own_cells, BuildAsks, BuildGives}
use Rattle.netlist.proofs.Steps.{RowNets, same_width, choice_width, slice_width, concat_width, constant_laid, not_laid, and_laid, or_laid, xor_laid, mux_laid, less_laid, equal_laid, add_laid, slice_laid, concat_laid, input_laid, register_laid}
use Rattle.netlist.proofs.Widths.{Range, range_from, input_range, register_range, width_range}
use Rattle.netlist.proofs.Working.{same_notes}

-- an operand that is there, well-formed and laid out
pub record Operand (xs : List ℕ) (w : Work) (a : ℕ) : Type 0 where
  pub there : a < nodes_of xs
  pub formed : well_formed (design_in xs) (expr_in xs a) ≡ true
  pub carries : CarriesWord (design_in xs) (cells_of w) (count_of w) (nets_at w a) (expr_in xs a)
  pub range : Range (width (design_in xs) (expr_in xs a))

module _ (xs : List ℕ) (w : Work) (n : ℕ) (node : Node) (k : BuildAsks xs w n node) where
  expr : expr_in xs n ≡ expr_of (expr_in xs) node
  expr = expr_at_node xs k.lowerable.readable n k.there node k.is

  pub names : names_below n node ≡ true
  names = operands_below xs k.lowerable.readable n k.there node k.is

  pub formed : well_formed (design_in xs) (expr_of (expr_in xs) node) ≡ true
  formed = rw expr at k.formed

  operand : (a : ℕ) → a < n → well_formed (design_in xs) (expr_in xs a) ≡ true → is_laid w a ≡ true → Operand xs w a
  operand a h f l =
      let there : a < nodes_of xs = omega (arith, k.there) in
      record { there = there; formed = f; carries = k.built.buses a there l; range = width_range (design_in xs) k.lowerable.sound (expr_in xs a) f }

  -- what is laid out as the node's expression is the node's
  gives : (w₁ : Work) (c : ℕ) (bus : Bus) → Laid (design_in xs) (cells_of w) (count_of w) (cells_of w₁) c (net_of bus) (expr_of (expr_in xs) node) → count_of w₁ ≡ c →
      c ≤ count_of w + own_cells (design_in xs) (expr_in xs) node → SameNotes w w₁ → BuildGives xs w w₁ n node bus
  gives w₁ c bus l e few notes = record { laid = rw expr (rw e l); few = omega arith; notes = notes }

-- two operands of one width
pub record Pair (xs : List ℕ) (w : Work) (a b : ℕ) : Type 0 where
  pub a_ok : Operand xs w a
  pub b_ok : Operand xs w b
  pub same : width (design_in xs) (expr_in xs a) ≡ width (design_in xs) (expr_in xs b)

pair : (xs : List ℕ) (w : Work) (n : ℕ) (node : Node) (k : BuildAsks xs w n node) (a b : ℕ) → (ltb a n && ltb b n) ≡ true →
    (well_formed (design_in xs) (expr_in xs a) && (well_formed (design_in xs) (expr_in xs b) && eqb (width (design_in xs) (expr_in xs a)) (width (design_in xs) (expr_in xs b)))) ≡ true →
    is_laid w a ≡ true → is_laid w b ≡ true → Pair xs w a b
pair xs w n node k a b l f la lb =
    let p = and_parts (ltb a n) (ltb b n) l in
    let q = same_width (design_in xs) (expr_in xs a) (expr_in xs b) f in
    record { a_ok = operand xs w n node k a (ltb-true a n p.0) q.0 la; b_ok = operand xs w n node k b (ltb-true b n p.1) q.1 lb; same = q.2 }

-- the row of an operation on two operands
pub pair_asks : (xs : List ℕ) (w : Work) (a b m : ℕ) → Pair xs w a b → m ≡ width (design_in xs) (expr_in xs a) → count_of w + width (design_in xs) (expr_in xs a) ≤ 1024 → RowAsks w m
pair_asks xs w a b m p e room = record { narrow = omega (arith, p.a_ok.range.high); room = omega arith }

row_nets : (w : Work) (m : ℕ) (bus : Bus) → m ≤ 64 → ((k : ℕ) → k < 64 → net_of bus k ≡ Cell (count_of w + k)) → RowNets (count_of w) m (net_of bus)
row_nets w m bus narrow nets k h = nets k (omega arith)

-- the node by another name
pub asks_as : (xs : List ℕ) (w : Work) (n : ℕ) (node node₁ : Node) → node ≡ node₁ → BuildAsks xs w n node → BuildAsks xs w n node₁
asks_as xs w n node node₁ e k = rw e at k

pub gives_as : (xs : List ℕ) (w w₁ : Work) (n : ℕ) (node node₁ : Node) (bus : Bus) → node ≡ node₁ → BuildGives xs w w₁ n node₁ bus → BuildGives xs w w₁ n node bus
gives_as xs w w₁ n node node₁ bus e g = rw e g

module _ (xs : List ℕ) (w : Work) (n : ℕ) where
  pub and_pair : (a b : ℕ) → BuildAsks xs w n (And a b) → Pair xs w a b
  unfolding names_below well_formed expr_of
  and_pair a b k = pair xs w n (And a b) k a b (names xs w n (And a b) k) (formed xs w n (And a b) k) k.first k.second

  pub or_pair : (a b : ℕ) → BuildAsks xs w n (Or a b) → Pair xs w a b
  unfolding names_below well_formed expr_of
  or_pair a b k = pair xs w n (Or a b) k a b (names xs w n (Or a b) k) (formed xs w n (Or a b) k) k.first k.second

  pub xor_pair : (a b : ℕ) → BuildAsks xs w n (Xor a b) → Pair xs w a b
  unfolding names_below well_formed expr_of
  xor_pair a b k = pair xs w n (Xor a b) k a b (names xs w n (Xor a b) k) (formed xs w n (Xor a b) k) k.first k.second

  pub add_pair : (a b : ℕ) → BuildAsks xs w n (Add a b) → Pair xs w a b
  unfolding names_below well_formed expr_of
  add_pair a b k = pair xs w n (Add a b) k a b (names xs w n (Add a b) k) (formed xs w n (Add a b) k) k.first k.second

  pub less_pair : (a b : ℕ) → BuildAsks xs w n (Less a b) → Pair xs w a b
  unfolding names_below well_formed expr_of
  less_pair a b k = pair xs w n (Less a b) k a b (names xs w n (Less a b) k) (formed xs w n (Less a b) k) k.first k.second

  pub equal_pair : (a b : ℕ) → BuildAsks xs w n (Equal a b) → Pair xs w a b
  unfolding names_below well_formed expr_of
  equal_pair a b k = pair xs w n (Equal a b) k a b (names xs w n (Equal a b) k) (formed xs w n (Equal a b) k) k.first k.second

  pub and_asks : (a b m : ℕ) (k : BuildAsks xs w n (And a b)) → m ≡ width (design_in xs) (expr_in xs a) → RowAsks w m
  unfolding own_cells
  and_asks a b m k e = pair_asks xs w a b m (and_pair a b k) e k.room

  pub or_asks : (a b m : ℕ) (k : BuildAsks xs w n (Or a b)) → m ≡ width (design_in xs) (expr_in xs a) → RowAsks w m
  unfolding own_cells
  or_asks a b m k e = pair_asks xs w a b m (or_pair a b k) e k.room

  pub xor_asks : (a b m : ℕ) (k : BuildAsks xs w n (Xor a b)) → m ≡ width (design_in xs) (expr_in xs a) → RowAsks w m
  unfolding own_cells
  xor_asks a b m k e = pair_asks xs w a b m (xor_pair a b k) e k.room

  pub add_asks : (a b m : ℕ) (k : BuildAsks xs w n (Add a b)) → m ≡ width (design_in xs) (expr_in xs a) → RowAsks w m
  unfolding own_cells
  add_asks a b m k e = pair_asks xs w a b m (add_pair a b k) e (omega (arith, k.room))

  pub less_asks : (a b m : ℕ) (k : BuildAsks xs w n (Less a b)) → m ≡ width (design_in xs) (expr_in xs a) → RowAsks w m
  unfolding own_cells
  less_asks a b m k e = pair_asks xs w a b m (less_pair a b k) e k.room

  pub equal_asks : (a b m : ℕ) (k : BuildAsks xs w n (Equal a b)) → m ≡ width (design_in xs) (expr_in xs a) → RowAsks w m
  unfolding own_cells
  equal_asks a b m k e = pair_asks xs w a b m (equal_pair a b k) e k.room

  pub add_room : (a b m : ℕ) (k : BuildAsks xs w n (Add a b)) → m ≡ width (design_in xs) (expr_in xs a) → count_of w + m + m ≤ 1024
  unfolding own_cells
  add_room a b m k e = omega (arith, k.room)

  pub not_operand : (a : ℕ) → BuildAsks xs w n (Not a) → Operand xs w a
  unfolding names_below well_formed expr_of
  not_operand a k = operand xs w n (Not a) k a (ltb-true a n (names xs w n (Not a) k)) (formed xs w n (Not a) k) k.first

  pub not_asks : (a m : ℕ) (k : BuildAsks xs w n (Not a)) → m ≡ width (design_in xs) (expr_in xs a) → RowAsks w m
  unfolding own_cells
  not_asks a m k e = let o = not_operand a k in record { narrow = omega (arith, o.range.high); room = omega (arith, k.room) }

  -- a choice, and a pair
  pub record Choice (c a b : ℕ) : Type 0 where
    pub c_ok : Operand xs w c
    pub single : width (design_in xs) (expr_in xs c) ≡ 1
    pub both : Pair xs w a b

  pub mux_choice : (c a b : ℕ) → BuildAsks xs w n (Mux c a b) → Choice c a b
  unfolding names_below well_formed expr_of
  mux_choice c a b k =
      let p = and_parts (ltb c n) _ (names xs w n (Mux c a b) k) in
      let q = choice_width (design_in xs) (expr_in xs c) _ (formed xs w n (Mux c a b) k) in
      record { c_ok = operand xs w n (Mux c a b) k c (ltb-true c n p.0) q.0 k.first; single = q.1; both = pair xs w n (Mux c a b) k a b p.1 q.2 k.second k.third }

  pub mux_asks : (c a b m : ℕ) (k : BuildAsks xs w n (Mux c a b)) → m ≡ width (design_in xs) (expr_in xs a) → RowAsks w m
  unfolding own_cells
  mux_asks c a b m k e = pair_asks xs w a b m (mux_choice c a b k).both e k.room

  pub record PartOf (l v a : ℕ) : Type 0 where
    pub a_ok : Operand xs w a
    pub within : l + v ≤ width (design_in xs) (expr_in xs a)

  pub slice_part : (l v a : ℕ) → BuildAsks xs w n (Slice l v a) → PartOf l v a
  unfolding names_below well_formed expr_of
  slice_part l v a k =
      let q = slice_width (design_in xs) l v (expr_in xs a) (formed xs w n (Slice l v a) k) in
      record { a_ok = operand xs w n (Slice l v a) k a (ltb-true a n (names xs w n (Slice l v a) k)) q.0 k.first; within = q.2 }

  pub record Joined (a b : ℕ) : Type 0 where
    pub a_ok : Operand xs w a
    pub b_ok : Operand xs w b
    pub within : width (design_in xs) (expr_in xs a) + width (design_in xs) (expr_in xs b) ≤ 64

  pub concat_joined : (a b : ℕ) → BuildAsks xs w n (Concat a b) → Joined a b
  unfolding names_below well_formed expr_of
  concat_joined a b k =
      let p = and_parts (ltb a n) (ltb b n) (names xs w n (Concat a b) k) in
      let q = concat_width (design_in xs) (expr_in xs a) (expr_in xs b) (formed xs w n (Concat a b) k) in
      record { a_ok = operand xs w n (Concat a b) k a (ltb-true a n p.0) q.0 k.first; b_ok = operand xs w n (Concat a b) k b (ltb-true b n p.1) q.1 k.second; within = q.2 }

  pub constant_room : (v x : ℕ) → BuildAsks xs w n (Constant v x) → count_of w + v ≤ 1024
  unfolding own_cells
  constant_room v x k = k.room

  module _ (w₁ : Work) (bus : Bus) where
    pub constant_built : (v x : ℕ) (k : BuildAsks xs w n (Constant v x)) → RowLaid w w₁ v (constant_row (word x)) bus → BuildGives xs w w₁ n (Constant v x) bus
    unfolding expr_of own_cells well_formed
    constant_built v x k r =
        let v_range = range_from v (formed xs w n (Constant v x) k) in
        gives xs w n (Constant v x) k w₁ (count_of w + v) bus
        (constant_laid (design_in xs) (cells_of w) (cells_of w₁) (count_of w) k.built.low (net_of bus) v (word x) r.cells (λ j h. r.nets j (omega (arith, v_range.high))))
        r.count (omega arith) r.notes

    pub not_built : (a m : ℕ) (k : BuildAsks xs w n (Not a)) → m ≡ width (design_in xs) (expr_in xs a) → RowLaid w w₁ m (gate_row 1 (nets_at w a) zeros zeros) bus → BuildGives xs w w₁ n (Not a) bus
    unfolding expr_of own_cells
    not_built a m k is r =
        let o = not_operand a k in
        gives xs w n (Not a) k w₁ (count_of w + width (design_in xs) (expr_in xs a)) bus
        (not_laid (design_in xs) (cells_of w) (cells_of w₁) (count_of w) k.built.low (net_of bus) (expr_in xs a) (nets_at w a) zeros zeros o.carries
        (λ j h. refl) (λ j h. refl) (rw is at r.cells) (λ j h. r.nets j (omega (arith, o.range.high))))
        (r.count ∙ ap (λ c. count_of w + c) is) (omega arith) r.notes

    pub mux_built : (c a b m : ℕ) (k : BuildAsks xs w n (Mux c a b)) → m ≡ width (design_in xs) (expr_in xs a) →
        RowLaid w w₁ m (gate_row 172 (nets_at w a) (nets_at w b) (λ j. nets_at w c 0)) bus → BuildGives xs w w₁ n (Mux c a b) bus
    unfolding expr_of own_cells
    mux_built c a b m k is r =
        let t = mux_choice c a b k in
        let p = t.both in
        gives xs w n (Mux c a b) k w₁ (count_of w + width (design_in xs) (expr_in xs a)) bus
        (mux_laid (design_in xs) (cells_of w) (cells_of w₁) (count_of w) k.built.low (net_of bus) (expr_in xs a) (nets_at w a) (nets_at w b) (λ j. nets_at w c 0) p.a_ok.carries (expr_in xs b) p.same p.b_ok.carries
        (expr_in xs c) (nets_at w c) t.single t.c_ok.carries (λ j h. refl) (λ j h. r.nets j (omega (arith, p.a_ok.range.high))) (rw is at r.cells))
        (r.count ∙ ap (λ c. count_of w + c) is) (omega arith) r.notes

    module _ (a b m : ℕ) (is : m ≡ width (design_in xs) (expr_in xs a)) where
      pub and_built : (k : BuildAsks xs w n (And a b)) → RowLaid w w₁ m (gate_row 8 (nets_at w a) (nets_at w b) zeros) bus → BuildGives xs w w₁ n (And a b) bus
      unfolding expr_of own_cells
      and_built k r =
          let p = and_pair a b k in
          gives xs w n (And a b) k w₁ (count_of w + width (design_in xs) (expr_in xs a)) bus
          (and_laid (design_in xs) (cells_of w) (cells_of w₁) (count_of w) k.built.low (net_of bus) (expr_in xs a) (nets_at w a) (nets_at w b) zeros p.a_ok.carries (expr_in xs b) p.same p.b_ok.carries
          (λ j h. refl) (λ j h. r.nets j (omega (arith, p.a_ok.range.high))) (rw is at r.cells))
          (r.count ∙ ap (λ c. count_of w + c) is) (omega arith) r.notes

      pub or_built : (k : BuildAsks xs w n (Or a b)) → RowLaid w w₁ m (gate_row 14 (nets_at w a) (nets_at w b) zeros) bus → BuildGives xs w w₁ n (Or a b) bus
      unfolding expr_of own_cells
      or_built k r =
          let p = or_pair a b k in
          gives xs w n (Or a b) k w₁ (count_of w + width (design_in xs) (expr_in xs a)) bus
          (or_laid (design_in xs) (cells_of w) (cells_of w₁) (count_of w) k.built.low (net_of bus) (expr_in xs a) (nets_at w a) (nets_at w b) zeros p.a_ok.carries (expr_in xs b) p.same p.b_ok.carries
          (λ j h. refl) (λ j h. r.nets j (omega (arith, p.a_ok.range.high))) (rw is at r.cells))
          (r.count ∙ ap (λ c. count_of w + c) is) (omega arith) r.notes

      pub xor_built : (k : BuildAsks xs w n (Xor a b)) → RowLaid w w₁ m (gate_row 6 (nets_at w a) (nets_at w b) zeros) bus → BuildGives xs w w₁ n (Xor a b) bus
      unfolding expr_of own_cells
      xor_built k r =
          let p = xor_pair a b k in
          gives xs w n (Xor a b) k w₁ (count_of w + width (design_in xs) (expr_in xs a)) bus
          (xor_laid (design_in xs) (cells_of w) (cells_of w₁) (count_of w) k.built.low (net_of bus) (expr_in xs a) (nets_at w a) (nets_at w b) zeros p.a_ok.carries (expr_in xs b) p.same p.b_ok.carries
          (λ j h. refl) (λ j h. r.nets j (omega (arith, p.a_ok.range.high))) (rw is at r.cells))
          (r.count ∙ ap (λ c. count_of w + c) is) (omega arith) r.notes

      pub less_built : (k : BuildAsks xs w n (Less a b)) → Compared w w₁ m (chain_row 212 212 (nets_at w a) (nets_at w b) (count_of w)) bus → BuildGives xs w w₁ n (Less a b) bus
      unfolding expr_of own_cells
      less_built k r =
          let p = less_pair a b k in
          gives xs w n (Less a b) k w₁ (count_of w + width (design_in xs) (expr_in xs a)) bus
          (less_laid (design_in xs) (cells_of w) (cells_of w₁) (count_of w) k.built.low (expr_in xs a) (expr_in xs b) (nets_at w a) (nets_at w b) (net_of bus) p.same p.a_ok.range.low p.a_ok.carries p.b_ok.carries
          (rw is at r.cells) (rw is at r.last))
          (r.count ∙ ap (λ c. count_of w + c) is) (omega arith) r.notes

      pub equal_built : (k : BuildAsks xs w n (Equal a b)) → Compared w w₁ m (chain_row 9 144 (nets_at w a) (nets_at w b) (count_of w)) bus → BuildGives xs w w₁ n (Equal a b) bus
      unfolding expr_of own_cells
      equal_built k r =
          let p = equal_pair a b k in
          gives xs w n (Equal a b) k w₁ (count_of w + width (design_in xs) (expr_in xs a)) bus
          (equal_laid (design_in xs) (cells_of w) (cells_of w₁) (count_of w) k.built.low (expr_in xs a) (expr_in xs b) (nets_at w a) (nets_at w b) (net_of bus) p.same p.a_ok.range.low p.a_ok.carries p.b_ok.carries
          (rw is at r.cells) (rw is at r.last))
          (r.count ∙ ap (λ c. count_of w + c) is) (omega arith) r.notes

      pub add_built : (k : BuildAsks xs w n (Add a b)) → Summed w w₁ a b m bus → BuildGives xs w w₁ n (Add a b) bus
      unfolding expr_of own_cells
      add_built k r =
          let p = add_pair a b k in
          gives xs w n (Add a b) k w₁ (count_of w + width (design_in xs) (expr_in xs a) + width (design_in xs) (expr_in xs a)) bus
          (add_laid (design_in xs) (cells_of w) r.between (cells_of w₁) (count_of w) k.built.low (expr_in xs a) (expr_in xs b) (nets_at w a) (nets_at w b) (λ j. Cell (count_of w + j)) r.into (net_of bus) p.same p.a_ok.carries p.b_ok.carries
          (rw is at r.chain) (λ j h. refl) r.into_low (λ j h. rw (← (add-one j)) (r.into_high j (omega arith))) (rw is at r.sums) (λ j h. r.nets j (omega (arith, p.a_ok.range.high)) ∙ ap (λ c. Cell (count_of w + c + j)) is))
          (r.count ∙ ap (λ c. count_of w + c + c) is) (omega arith) r.notes

  -- forms that take no cell
  module _ (bus : Bus) where
    pub slice_built : (l v a : ℕ) (x : Bus) (k : BuildAsks xs w n (Slice l v a)) → x ≡ bus_at w a → ((j : ℕ) → j < 64 → net_of bus j ≡ net_of x (l + j)) → BuildGives xs w w n (Slice l v a) bus
    unfolding expr_of own_cells
    slice_built l v a x k ex nets =
        let o = slice_part l v a k in
        gives xs w n (Slice l v a) k w (count_of w) bus
        (slice_laid (design_in xs) (cells_of w) (count_of w) (net_of bus) l v (expr_in xs a) (nets_at w a) o.within o.a_ok.carries
        (λ j h. nets j (omega (arith, o.within, o.a_ok.range.high)) ∙ ap (λ (b : Bus). net_of b (l + j)) ex))
        refl (omega arith) (same_notes w)

    pub concat_built : (a b m : ℕ) (x y : Bus) (k : BuildAsks xs w n (Concat a b)) → m ≡ width (design_in xs) (expr_in xs b) → x ≡ bus_at w a → y ≡ bus_at w b →
        ((j : ℕ) → j < 64 → net_of bus j ≡ cond (ltb j m) (net_of y j) (net_of x (j - m))) → BuildGives xs w w n (Concat a b) bus
    unfolding expr_of own_cells
    concat_built a b m x y k is ex ey nets =
        let o = concat_joined a b k in
        gives xs w n (Concat a b) k w (count_of w) bus
        (concat_laid (design_in xs) (cells_of w) (count_of w) (net_of bus) (expr_in xs a) (expr_in xs b) (nets_at w a) (nets_at w b) o.a_ok.carries o.b_ok.carries
        (λ j h. rw (← is, ← ex, ← ey) (nets j (omega (arith, o.within)))))
        refl (omega arith) (same_notes w)

    pub input_built : (i start : ℕ) (k : BuildAsks xs w n (Input i)) → i < 65536 → (i ≤ (design_in xs).inputs → start ≡ min 65535 (total i (design_in xs).input_width)) →
        ((j : ℕ) → j < 64 → net_of bus j ≡ InputNet (min 65535 (start + j))) → BuildGives xs w w n (Input i) bus
    unfolding expr_of own_cells well_formed
    input_built i start k small begin nets =
        let d = design_in xs in
        let there : i < d.inputs = ltb-true i d.inputs (formed xs w n (Input i) k) in
        let r = input_range d k.lowerable.sound i there in
        let few = k.lowerable.few_inputs i small there in
        let e = begin (omega arith) in
        gives xs w n (Input i) k w (count_of w) bus
        (input_laid d (cells_of w) (count_of w) (net_of bus) i there
        (λ j h. nets j (omega (arith, r.high)) ∙ ap InputNet (let q : min 65535 (start + j) ≡ total i d.input_width + j = omega arith in q)))
        refl (omega arith) (same_notes w)

    pub register_built : (i start : ℕ) (k : BuildAsks xs w n (Register i)) → (i ≤ (design_in xs).registers → start ≡ min 65535 (total i (design_in xs).register_width)) → count_of w ≤ 1024 →
        ((j : ℕ) → j < 64 → net_of bus j ≡ Cell (min 65535 (start + j))) → BuildGives xs w w n (Register i) bus
    unfolding expr_of own_cells well_formed register_bits
    register_built i start k begin small nets =
        let d = design_in xs in
        let there : i < d.registers = ltb-true i d.registers (formed xs w n (Register i) k) in
        let r = register_range d k.lowerable.sound i there in
        let t = total_one d.register_width i d.registers there in
        let low : total d.registers d.register_width ≤ count_of w = k.built.low in
        let e = begin (omega arith) in
        gives xs w n (Register i) k w (count_of w) bus
        (register_laid d (cells_of w) (count_of w) (net_of bus) low i there
        (λ j h. nets j (omega (arith, r.high)) ∙ ap Cell (let q : min 65535 (start + j) ≡ total i d.register_width + j = omega arith in q)))
        refl (omega arith) (same_notes w)
