-- What can't be lowered yet: the refusal 9 of a design. It is there till the program takes every design.
-- A reader has to believe these definitions. They assume nothing.
use Rattle.std.specs.Prelude.{ℕ, Bool, true, false, ◌||◌, List, is_some, Some, None, Option, ◌==◌, slice_index}
use Rattle.std.specs.Option.{option_or, option_map}
use Rattle.std.specs.Bool.{then_some}
use Rattle.design.specs.declared.node.Node.{Node}
use Rattle.design.specs.declared.node.Node.TheVariants.{Input, Register, Constant, And, Or, Xor, Not, Add, Less, Equal, Mux, Slice, Concat}
use Rattle.design.specs.declared.refusal.Refusal.{Refusal}
use Rattle.design.specs.declared.refusal.Refusal.TheVariants.{NotYet}
use Rattle.design.specs.Numbers.{inputs_of, registers_of, nodes_of, input_place, register_place, node_in, first_failing}

-- inputs, registers, and, xor
abbrev pub kind_landed : Node → Bool
kind_landed (Input i) = true
kind_landed (Register r) = true
kind_landed (Constant w v) = false
kind_landed (And a b) = true
kind_landed (Or a b) = false
kind_landed (Xor a b) = true
kind_landed (Not a) = false
kind_landed (Add a b) = false
kind_landed (Less a b) = false
kind_landed (Equal a b) = false
kind_landed (Mux c a b) = false
kind_landed (Slice l w a) = false
kind_landed (Concat a b) = false

unfoldable pub node_landed : List ℕ → ℕ → Bool
node_landed xs n = elim (node_in xs n) [ None ↦ false | Some node ↦ kind_landed node ]

-- every input and register has width 1
unfoldable pub input_single : List ℕ → ℕ → Bool
input_single xs i = slice_index xs (input_place i) == 1

unfoldable pub register_single : List ℕ → ℕ → Bool
register_single xs r = slice_index xs (register_place xs r) == 1

abbrev pub wide : List ℕ → Bool
wide xs = is_some (first_failing (input_single xs) (inputs_of xs)) || is_some (first_failing (register_single xs) (registers_of xs))

-- the first node of a kind that can't be lowered; else, where some word is wider than a bit, how many nodes there are
unfoldable pub lowering_refusal : List ℕ → Option Refusal
lowering_refusal xs =
    option_or (option_map (λ n. NotYet n) (first_failing (node_landed xs) (nodes_of xs)))
    (then_some (wide xs) (NotYet (nodes_of xs)))
