-- The steps of laying out a node: the nodes that it names, then its own cells.
use Rattle.std.proofs.Common.{◌≡◌, ℕ, ◌+◌, ◌<◌, Bool, true, ◌&&◌, ltb, ◌⊎◌, List, length, get_or, set, is_some, IfSome, Some, None, Option, sym, refl, ap, ◌∙◌, inl, inr, ⊎_elim, arith, get_or-set_other, get_or-set_same}
use Rattle.std.specs.Option.{unwrap_or}
use Rattle.std.proofs.lemmas.Bool.{ltb-true, and_parts, cases_eq}
use Rattle.design.specs.declared.node.Node.{Node}
use Rattle.design.specs.declared.node.Node.TheVariants.{Input, Register, Constant, And, Or, Xor, Not, Add, Less, Equal, Mux, Slice, Concat}
use Rattle.design.specs.Designs.{Expr, Design, well_formed, cells}
use Rattle.design.specs.Numbers.{nodes_of, node_in, names_below, expr_of, design_in}
use Rattle.design.proofs.Exprs.{operands_below, expr_at_node}
use Rattle.design.proofs.Reading.{readable}
use Rattle.netlist.specs.declared.parts.Net.{Net}
use Rattle.netlist.specs.declared.bus.Bus.{Bus}
use Rattle.netlist.specs.declared.work.Work.{Work}
use Rattle.netlist.specs.Building.{Cells, CarriesWord}
use Rattle.netlist.specs.Rows.{no_bus, net_of}
use Rattle.netlist.specs.Works.{count_of, cells_of, nets_at, is_laid}
use Rattle.netlist.specs.Lowerings.{expr_in, operands_of, operand_list, own_cells, Lowerable, NodeOk, cells_for, NodeLaid, height, LayAsks, LayGives, BuildAsks, BuildGives}
use Rattle.netlist.proofs.Growing.{grows_refl, grows_trans, grows_word}
use Rattle.netlist.proofs.Steps.{choice_width, slice_width}

-- nothing to do
pub gives_same : (xs : List ℕ) (w : Work) (o : Option ℕ) → LayAsks xs w o → NodeLaid w o → LayGives xs w w o
gives_same xs w o a l = record {
  built = a.built;
  grows = grows_refl (design_in xs) (cells_of w) (count_of w);
  kept = λ m h. h;
  laid = l;
  few = omega arith;
  outputs = refl;
}

pub node_small : (xs : List ℕ) (n : ℕ) → Lowerable xs → n < nodes_of xs → n < 1024
node_small xs n l h = let r = readable xs l.readable in omega (arith, r.few)

-- an operand is an earlier node, and well-formed
abbrev Below : Design → (ℕ → Expr) → (n : ℕ) → Option ℕ → Type 0
Below d e n o = IfSome o (λ a. (a < n) × (well_formed d (e a) ≡ true))

pub record OperandsOk (d : Design) (e : ℕ → Expr) (n : ℕ) (node : Node) : Type 0 where
  pub first : Below d e n (operands_of node).first
  pub second : Below d e n (operands_of node).second
  pub third : Below d e n (operands_of node).third

two : (d : Design) (e : ℕ → Expr) (n a b : ℕ) (t : Bool) → (ltb a n && ltb b n) ≡ true → (well_formed d (e a) && (well_formed d (e b) && t)) ≡ true →
    ((a < n) × (well_formed d (e a) ≡ true)) × ((b < n) × (well_formed d (e b) ≡ true))
two d e n a b t l f =
    let p = and_parts (ltb a n) (ltb b n) l in
    let q = and_parts (well_formed d (e a)) _ f in
    let r = and_parts (well_formed d (e b)) t q.1 in
    ((ltb-true a n p.0, q.0), (ltb-true b n p.1, r.0))

pub operands_ok : (d : Design) (e : ℕ → Expr) (n : ℕ) (node : Node) → names_below n node ≡ true → well_formed d (expr_of e node) ≡ true → OperandsOk d e n node
unfolding names_below expr_of well_formed
operands_ok d e n (Input i) l f = record { first = tt; second = tt; third = tt }
operands_ok d e n (Register i) l f = record { first = tt; second = tt; third = tt }
operands_ok d e n (Constant v x) l f = record { first = tt; second = tt; third = tt }
operands_ok d e n (And a b) l f = let t = two d e n a b _ l f in record { first = t.0; second = t.1; third = tt }
operands_ok d e n (Or a b) l f = let t = two d e n a b _ l f in record { first = t.0; second = t.1; third = tt }
operands_ok d e n (Xor a b) l f = let t = two d e n a b _ l f in record { first = t.0; second = t.1; third = tt }
operands_ok d e n (Not a) l f = record { first = (ltb-true a n l, f); second = tt; third = tt }
operands_ok d e n (Add a b) l f = let t = two d e n a b _ l f in record { first = t.0; second = t.1; third = tt }
operands_ok d e n (Less a b) l f = let t = two d e n a b _ l f in record { first = t.0; second = t.1; third = tt }
operands_ok d e n (Equal a b) l f = let t = two d e n a b _ l f in record { first = t.0; second = t.1; third = tt }
operands_ok d e n (Mux c a b) l f =
    let p = and_parts (ltb c n) _ l in
    let q = choice_width d (e c) _ f in
    let t = two d e n a b _ p.1 q.2 in
    record { first = (ltb-true c n p.0, q.0); second = t.0; third = t.1 }
operands_ok d e n (Slice o v a) l f = record { first = (ltb-true a n l, (slice_width d o v (e a) f).0); second = tt; third = tt }
operands_ok d e n (Concat a b) l f = let t = two d e n a b _ l f in record { first = t.0; second = t.1; third = tt }

-- the cells of a node are those of the nodes that it names, and its own
split : (xs : List ℕ) (node : Node) → cells (design_in xs) (expr_of (expr_in xs) node)
    ≡ cells_for xs (operands_of node).first + cells_for xs (operands_of node).second + cells_for xs (operands_of node).third + own_cells (design_in xs) (expr_in xs) node
unfolding cells expr_of own_cells
split xs (Input i) = refl
split xs (Register i) = refl
split xs (Constant v x) = omega arith
split xs (And a b) = omega arith
split xs (Or a b) = omega arith
split xs (Xor a b) = omega arith
split xs (Not a) = omega arith
split xs (Add a b) = omega arith
split xs (Less a b) = omega arith
split xs (Equal a b) = omega arith
split xs (Mux c a b) = omega arith
split xs (Slice l v a) = omega arith
split xs (Concat a b) = omega arith

below_height : (d : Design) (e : ℕ → Expr) (n : ℕ) (o : Option ℕ) → Below d e n o → height o < n + 1
below_height d e n None b = omega arith
below_height d e n (Some a) b = omega (arith, b.0)

below_ok : (xs : List ℕ) (n : ℕ) (o : Option ℕ) → n < nodes_of xs → Below (design_in xs) (expr_in xs) n o → NodeOk xs o
below_ok xs n None h b = tt
below_ok xs n (Some a) h b = (omega (arith, b.0), b.1)

word_as : (d : Design) (cs : Cells) (n : ℕ) (nets nets₁ : ℕ → Net) (e : Expr) → nets₁ ≡ nets → CarriesWord d cs n nets e → CarriesWord d cs n nets₁ e
word_as d cs n nets nets₁ e q c = rw q c

laid_still : (w w₁ : Work) (o : Option ℕ) → ((m : ℕ) → is_laid w m ≡ true → is_laid w₁ m ≡ true) → NodeLaid w o → NodeLaid w₁ o
laid_still w w₁ None k l = tt
laid_still w w₁ (Some n) k l = k n l

module _ (xs : List ℕ) (w : Work) (n : ℕ) (node : Node) (a : LayAsks xs w (Some n)) (is : node_in xs n ≡ Some node) where
  expr : expr_in xs n ≡ expr_of (expr_in xs) node
  expr = expr_at_node xs a.lowerable.readable n a.there.0 node is

  ok : OperandsOk (design_in xs) (expr_in xs) n node
  ok = operands_ok (design_in xs) (expr_in xs) n node (operands_below xs a.lowerable.readable n a.there.0 node is) (rw expr at a.there.1)

  all : cells (design_in xs) (expr_in xs n)
      ≡ cells_for xs (operands_of node).first + cells_for xs (operands_of node).second + cells_for xs (operands_of node).third + own_cells (design_in xs) (expr_in xs) node
  all = ap (cells (design_in xs)) expr ∙ split xs node

  pub first_lower : height (operands_of node).first < n + 1
  first_lower = below_height (design_in xs) (expr_in xs) n (operands_of node).first ok.first

  pub second_lower : height (operands_of node).second < n + 1
  second_lower = below_height (design_in xs) (expr_in xs) n (operands_of node).second ok.second

  pub third_lower : height (operands_of node).third < n + 1
  third_lower = below_height (design_in xs) (expr_in xs) n (operands_of node).third ok.third

  pub first_asks : LayAsks xs w (operands_of node).first
  first_asks = record { lowerable = a.lowerable; built = a.built; there = below_ok xs n _ a.there.0 ok.first; room = omega (arith, a.room, all) }

  module _ (w₁ : Work) (g₁ : LayGives xs w w₁ (operands_of node).first) where
    pub second_asks : LayAsks xs w₁ (operands_of node).second
    second_asks = record { lowerable = a.lowerable; built = g₁.built; there = below_ok xs n _ a.there.0 ok.second; room = omega (arith, a.room, all, g₁.few) }

    module _ (w₂ : Work) (g₂ : LayGives xs w₁ w₂ (operands_of node).second) where
      pub third_asks : LayAsks xs w₂ (operands_of node).third
      third_asks = record { lowerable = a.lowerable; built = g₂.built; there = below_ok xs n _ a.there.0 ok.third; room = omega (arith, a.room, all, g₁.few, g₂.few) }

      module _ (w₃ : Work) (g₃ : LayGives xs w₂ w₃ (operands_of node).third) where
        pub build_asks : BuildAsks xs w₃ n node
        build_asks = record {
          lowerable = a.lowerable;
          built = g₃.built;
          there = a.there.0;
          is = is;
          formed = a.there.1;
          first = laid_still w₂ w₃ _ g₃.kept (laid_still w₁ w₂ _ g₂.kept g₁.laid);
          second = laid_still w₂ w₃ _ g₃.kept g₂.laid;
          third = g₃.laid;
          room = omega (arith, a.room, all, g₁.few, g₂.few, g₃.few);
        }

        -- the node's cells are added, and its nets are noted
        module _ (w₄ : Work) (bus : Bus) (b : BuildGives xs w₃ w₄ n node bus) (many : n < length w₄.buses) where
          after : Work
          after = record { cells = w₄.cells; buses = set w₄.buses n (Some bus); outputs = w₄.outputs }

          still_laid : (m : ℕ) → is_laid w₃ m ≡ true → is_laid after m ≡ true
          unfolding after
          still_laid m h = ⊎_elim
              (λ (q : m ≡ n). rw q (ap (λ (o : Option Bus). is_some o) (get_or-set_same w₄.buses n (Some bus) None many)))
              (λ (q : m ≡ n → ⊥). ap (λ (o : Option Bus). is_some o) (get_or-set_other w₄.buses n m (Some bus) None q ∙ ap (λ l. get_or l m None) b.notes.buses) ∙ h)
              (cases_eq m n)

          was_laid : (m : ℕ) → (m ≡ n → ⊥) → is_laid after m ≡ true → is_laid w₃ m ≡ true
          unfolding after
          was_laid m q h = sym (ap (λ (o : Option Bus). is_some o) (get_or-set_other w₄.buses n m (Some bus) None q ∙ ap (λ l. get_or l m None) b.notes.buses)) ∙ h

          nets_now : (m : ℕ) → (m ≡ n → ⊥) → nets_at after m ≡ nets_at w₃ m
          unfolding after
          nets_now m q = ap (λ (o : Option Bus). net_of (unwrap_or o no_bus)) (get_or-set_other w₄.buses n m (Some bus) None q ∙ ap (λ l. get_or l m None) b.notes.buses)

          nets_new : nets_at after n ≡ net_of bus
          unfolding after
          nets_new = ap (λ (o : Option Bus). net_of (unwrap_or o no_bus)) (get_or-set_same w₄.buses n (Some bus) None many)

          carried : (m : ℕ) → m < nodes_of xs → is_laid after m ≡ true → (m ≡ n) ⊎ (m ≡ n → ⊥) → CarriesWord (design_in xs) (cells_of after) (count_of after) (nets_at after m) (expr_in xs m)
          unfolding after
          carried m h l (inl q) =
              let here : CarriesWord (design_in xs) (cells_of w₄) (count_of w₄) (nets_at after n) (expr_in xs n) = word_as (design_in xs) (cells_of w₄) (count_of w₄) (net_of bus) (nets_at after n) (expr_in xs n) nets_new b.laid.carries in
              rw q here
          carried m h l (inr q) = word_as (design_in xs) (cells_of w₄) (count_of w₄) (nets_at w₃ m) (nets_at after m) (expr_in xs m) (nets_now m q) (grows_word (design_in xs) (cells_of w₃) (cells_of w₄) (count_of w₃) (count_of w₄) (nets_at w₃ m) (expr_in xs m) b.laid.grows (g₃.built.buses m h (was_laid m q l)))

          pub noted : LayGives xs w (record { cells = w₄.cells; buses = set w₄.buses n (Some bus); outputs = w₄.outputs }) (Some n)
          unfolding after
          noted = record {
            built = record { low = omega (arith, g₃.built.low, b.laid.grows.extends.more); buses = λ m h l. carried m h l (cases_eq m n) };
            grows = grows_trans (design_in xs) (cells_of w) (cells_of w₁) (cells_of w₄) (count_of w) (count_of w₁) (count_of w₄) g₁.grows
                (grows_trans (design_in xs) (cells_of w₁) (cells_of w₂) (cells_of w₄) (count_of w₁) (count_of w₂) (count_of w₄) g₂.grows
                (grows_trans (design_in xs) (cells_of w₂) (cells_of w₃) (cells_of w₄) (count_of w₂) (count_of w₃) (count_of w₄) g₃.grows b.laid.grows));
            kept = λ m h. still_laid m (g₃.kept m (g₂.kept m (g₁.kept m h)));
            laid = ap (λ (o : Option Bus). is_some o) (get_or-set_same w₄.buses n (Some bus) None many);
            few = omega (arith, all, g₁.few, g₂.few, g₃.few, b.few);
            outputs = b.notes.outputs ∙ g₃.outputs ∙ g₂.outputs ∙ g₁.outputs;
          }

-- the same, of the values that the code has: the nodes that a node names are a list there
module _ (xs : List ℕ) (w : Work) (o : Option ℕ) (n : ℕ) (node : Node) (ops : List (Option ℕ)) (a : LayAsks xs w o) (some : o ≡ Some n) (found : n < nodes_of xs → node_in xs n ≡ Some node) (e : ops ≡ operand_list (operands_of node)) where
  asked : LayAsks xs w (Some n)
  asked = rw some at a

  is_node : node_in xs n ≡ Some node
  is_node = found asked.there.0

  pub within : n < 1024
  within = node_small xs n a.lowerable asked.there.0

  pub first_call : (height (get_or ops 0 None) < height o) × LayAsks xs w (get_or ops 0 None)
  first_call = rw (e, some) (first_lower xs w n node asked is_node, first_asks xs w n node asked is_node)

  module _ (w₁ : Work) (g₁ : LayGives xs w w₁ (get_or ops 0 None)) where
    laid₁ : LayGives xs w w₁ (operands_of node).first
    laid₁ = rw e at g₁

    pub second_call : (height (get_or ops 1 None) < height o) × LayAsks xs w₁ (get_or ops 1 None)
    second_call = rw (e, some) (second_lower xs w n node asked is_node, second_asks xs w n node asked is_node w₁ laid₁)

    module _ (w₂ : Work) (g₂ : LayGives xs w₁ w₂ (get_or ops 1 None)) where
      laid₂ : LayGives xs w₁ w₂ (operands_of node).second
      laid₂ = rw e at g₂

      pub third_call : (height (get_or ops 2 None) < height o) × LayAsks xs w₂ (get_or ops 2 None)
      third_call = rw (e, some) (third_lower xs w n node asked is_node, third_asks xs w n node asked is_node w₁ laid₁ w₂ laid₂)

      module _ (w₃ : Work) (g₃ : LayGives xs w₂ w₃ (get_or ops 2 None)) where
        laid₃ : LayGives xs w₂ w₃ (operands_of node).third
        laid₃ = rw e at g₃

        pub build_call : BuildAsks xs w₃ n node
        build_call = build_asks xs w n node asked is_node w₁ laid₁ w₂ laid₂ w₃ laid₃

        pub done : (w₄ w₅ : Work) (bus : Bus) → BuildGives xs w₃ w₄ n node bus → length w₄.buses ≡ 1024 →
            w₅ ≡ record { cells = w₄.cells; buses = set w₄.buses n (Some bus); outputs = w₄.outputs } → LayGives xs w w₅ o
        done w₄ w₅ bus b long e₅ = rw (e₅, some) (noted xs w n node asked is_node w₁ laid₁ w₂ laid₂ w₃ laid₃ w₄ bus b (omega (arith, within, long)))

pub known_call : (xs : List ℕ) (w : Work) (o : Option ℕ) (n : ℕ) → LayAsks xs w o → o ≡ Some n → is_laid w n ≡ true → LayGives xs w w o
known_call xs w o n a some l = gives_same xs w o a (rw some l)

pub none_call : (xs : List ℕ) (w : Work) (o : Option ℕ) → LayAsks xs w o → o ≡ None → LayGives xs w w o
none_call xs w o a none = gives_same xs w o a (rw none tt)

pub asked_small : (xs : List ℕ) (w : Work) (o : Option ℕ) (n : ℕ) → LayAsks xs w o → o ≡ Some n → n < 1024
asked_small xs w o n a some = let b : LayAsks xs w (Some n) = rw some at a in node_small xs n a.lowerable b.there.0
