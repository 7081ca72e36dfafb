-- What laying out a node asks and gives, and which designs are lowered.
-- Only proofs use these definitions: no promise to a user names them, but for the refusals.
use Rattle.std.specs.Prelude.{◌≡◌, ℕ, ◌+◌, ◌*◌, ◌<◌, ◌≤◌, min, true, List, [], ◌∷◌, IfSome, Some, None, Option, nat_lt, slice_index}
use Rattle.std.specs.Option.{option_or}
use Rattle.std.specs.Bool.{then_some}
use Rattle.design.specs.declared.refusal.Refusal.{Refusal}
use Rattle.design.specs.declared.refusal.Refusal.TheVariants.{Cells, NetTracks}
use Rattle.design.specs.declared.node.Node.{Node}
use Rattle.design.specs.declared.node.Node.TheVariants.{Input, Register, Constant, And, Or, Xor, Not, Add, Less, Equal, Mux, Slice, Concat}
use Rattle.design.specs.Designs.{Expr, Design, Sound, width, well_formed, cells, total, plain_cells, plain_tracks}
use Rattle.design.specs.Numbers.{nodes_of, node_in, expr_at, design_in, reading_refusal, soundness_refusal}
use Rattle.netlist.specs.declared.bus.Bus.{Bus}
use Rattle.netlist.specs.declared.work.Work.{Work}
use Rattle.netlist.specs.declared.netlists.Netlist.{Netlist as NetlistT}
use Rattle.netlist.specs.Netlists.{Netlist}
use Rattle.netlist.specs.NotYet.{lowering_refusal}
use Rattle.netlist.specs.Building.{cell_at, register_bits, netlist_in, CarriesWord, Grows, Laid, RegistersAt, OutputsAt, registers_most, outputs_most, Lowering}
use Rattle.netlist.specs.Rows.{net_of}
use Rattle.netlist.specs.Works.{count_of, cells_of, nets_at, is_laid, outs_of, SameNotes}

-- the expressions of the nodes
abbrev pub expr_in : List ℕ → ℕ → Expr
expr_in xs n = expr_at xs (nodes_of xs) n

-- the nodes that a node names: at most three, in the order in which they are laid out
pub record Operands : Type 0 where
  pub first : Option ℕ
  pub second : Option ℕ
  pub third : Option ℕ

abbrev pub operand_list : Operands → List (Option ℕ)
operand_list o = o.first ∷ o.second ∷ o.third ∷ []

abbrev pub operands_of : Node → Operands
operands_of (Input i) = record { first = None; second = None; third = None }
operands_of (Register r) = record { first = None; second = None; third = None }
operands_of (Constant w v) = record { first = None; second = None; third = None }
operands_of (And a b) = record { first = Some a; second = Some b; third = None }
operands_of (Or a b) = record { first = Some a; second = Some b; third = None }
operands_of (Xor a b) = record { first = Some a; second = Some b; third = None }
operands_of (Not a) = record { first = Some a; second = None; third = None }
operands_of (Add a b) = record { first = Some a; second = Some b; third = None }
operands_of (Less a b) = record { first = Some a; second = Some b; third = None }
operands_of (Equal a b) = record { first = Some a; second = Some b; third = None }
operands_of (Mux c a b) = record { first = Some c; second = Some a; third = Some b }
operands_of (Slice l w a) = record { first = Some a; second = None; third = None }
operands_of (Concat a b) = record { first = Some a; second = Some b; third = None }

-- the cells that a node takes besides those of the nodes that it names
unfoldable pub own_cells : Design → (ℕ → Expr) → Node → ℕ
own_cells d e (Input i) = 0
own_cells d e (Register r) = 0
own_cells d e (Constant w v) = w
own_cells d e (And a b) = width d (e a)
own_cells d e (Or a b) = width d (e a)
own_cells d e (Xor a b) = width d (e a)
own_cells d e (Not a) = width d (e a)
own_cells d e (Add a b) = 2 * width d (e a)
own_cells d e (Less a b) = width d (e a)
own_cells d e (Equal a b) = width d (e a)
own_cells d e (Mux c a b) = width d (e a)
own_cells d e (Slice l w a) = 0
own_cells d e (Concat a b) = 0

-- a design that is lowered: sound, and of no more cells, and bits of the inputs that nodes name, than numbers of cells and nets can say
pub record Lowerable (xs : List ℕ) : Type 0 where
  pub readable : reading_refusal xs ≡ None
  pub sound : Sound (design_in xs)
  pub few_cells : plain_cells (design_in xs) ≤ 1024
  pub few_inputs : (i : ℕ) → i < 65536 → i < (design_in xs).inputs → total i (design_in xs).input_width + (design_in xs).input_width i ≤ 65536

-- nodes that are laid out have nets that carry their words
pub record Built (xs : List ℕ) (w : Work) : Type 0 where
  pub low : register_bits (design_in xs) ≤ count_of w
  pub buses : (m : ℕ) → m < nodes_of xs → is_laid w m ≡ true → CarriesWord (design_in xs) (cells_of w) (count_of w) (nets_at w m) (expr_in xs m)

-- a node that is there and well-formed; none is fine too
abbrev pub NodeOk : List ℕ → Option ℕ → Type 0
NodeOk xs o = IfSome o (λ n. (n < nodes_of xs) × (well_formed (design_in xs) (expr_in xs n) ≡ true))

abbrev pub cells_for : List ℕ → Option ℕ → ℕ
cells_for xs None = 0
cells_for xs (Some n) = cells (design_in xs) (expr_in xs n)

abbrev pub NodeLaid : Work → Option ℕ → Type 0
NodeLaid w o = IfSome o (λ n. is_laid w n ≡ true)

-- how far up a node stands; what it names stands lower
abbrev pub height : Option ℕ → ℕ
height None = 0
height (Some n) = n + 1

pub record LayAsks (xs : List ℕ) (w : Work) (o : Option ℕ) : Type 0 where
  pub lowerable : Lowerable xs
  pub built : Built xs w
  pub there : NodeOk xs o
  pub room : count_of w + cells_for xs o ≤ 1024

pub record LayGives (xs : List ℕ) (w w₁ : Work) (o : Option ℕ) : Type 0 where
  pub built : Built xs w₁
  pub grows : Grows (design_in xs) (cells_of w) (count_of w) (cells_of w₁) (count_of w₁)
  pub kept : (m : ℕ) → is_laid w m ≡ true → is_laid w₁ m ≡ true
  pub laid : NodeLaid w₁ o
  pub few : count_of w₁ ≤ count_of w + cells_for xs o
  pub outputs : w₁.outputs ≡ w.outputs

-- what building a node asks, the nodes that it names being laid out, and what it gives
pub record BuildAsks (xs : List ℕ) (w : Work) (n : ℕ) (node : Node) : Type 0 where
  pub lowerable : Lowerable xs
  pub built : Built xs w
  pub there : n < nodes_of xs
  pub is : node_in xs n ≡ Some node
  pub formed : well_formed (design_in xs) (expr_in xs n) ≡ true
  pub first : NodeLaid w (operands_of node).first
  pub second : NodeLaid w (operands_of node).second
  pub third : NodeLaid w (operands_of node).third
  pub room : count_of w + own_cells (design_in xs) (expr_in xs) node ≤ 1024

pub record BuildGives (xs : List ℕ) (w w₁ : Work) (n : ℕ) (node : Node) (bus : Bus) : Type 0 where
  pub laid : Laid (design_in xs) (cells_of w) (count_of w) (cells_of w₁) (count_of w₁) (net_of bus) (expr_in xs n)
  pub few : count_of w₁ ≤ count_of w + own_cells (design_in xs) (expr_in xs) node
  pub notes : SameNotes w w₁

-- the registers below r are laid out, with no more cells than the plain layout takes for them; so are all registers and the outputs below o
pub record RegistersIn (xs : List ℕ) (w : Work) (r : ℕ) : Type 0 where
  pub built : Built xs w
  pub at : RegistersAt (design_in xs) (cells_of w) (count_of w) r
  pub few : count_of w ≤ registers_most (design_in xs) r

pub record OutputsIn (xs : List ℕ) (w : Work) (o : ℕ) : Type 0 where
  pub built : Built xs w
  pub at : OutputsAt (design_in xs) (cells_of w) (count_of w) (outs_of w) o
  pub few : count_of w ≤ outputs_most (design_in xs) o

-- the netlist that the code's stands for
abbrev pub netlist_of : NetlistT → Netlist
netlist_of n = netlist_in (cell_at n.cells) n.count (λ m. slice_index n.outputs m)

-- what a lowered design's netlist is: it computes what the design computes, and takes no more cells than the plain layout
abbrev pub Lowered : Design → NetlistT → Type 0
Lowered d n = Lowering d (netlist_of n)

-- why a design is not lowered, whatever its words: it isn't sound, or takes more cells than any fabric has
unfoldable pub small_refusal : Design → Option Refusal
small_refusal d = option_or (soundness_refusal d) (then_some (nat_lt 1024 (plain_cells d)) (Cells (min 65536 (plain_cells d))))

-- why a readable design is not lowered: it isn't sound; it takes more cells than any fabric has; it can't be lowered yet
unfoldable pub lower_refusal : List ℕ → Option Refusal
lower_refusal xs =
    option_or (soundness_refusal (design_in xs))
    (option_or (then_some (nat_lt 1024 (plain_cells (design_in xs))) (Cells (min 65536 (plain_cells (design_in xs)))))
    (lowering_refusal xs))

-- the same of a design of words: it isn't sound; it takes more cells than any fabric has, or more tracks than numbers of 16 bits say
unfoldable pub words_refusal : List ℕ → Option Refusal
words_refusal xs =
    option_or (soundness_refusal (design_in xs))
    (option_or (then_some (nat_lt 1024 (plain_cells (design_in xs))) (Cells (min 65536 (plain_cells (design_in xs)))))
    (then_some (nat_lt 65535 (plain_tracks (design_in xs))) (NetTracks (min 65536 (plain_tracks (design_in xs))))))
