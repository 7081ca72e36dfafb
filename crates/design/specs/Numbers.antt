-- A design in numbers, and the refusals of one.
-- A reader has to believe these definitions. They assume nothing.
--
-- The list holds: how many inputs, registers, outputs and nodes there are; the width of each input; for each register its width,
-- the number that it begins with and its node; for each output its node; then the nodes, four numbers each: the kind and up to three
-- operands. Kinds: 0 input i, 1 register r, 2 constant of a width and a value, 3 and, 4 or, 5 xor, 6 not, 7 add, 8 less, 9 equal,
-- 10 mux (choice, one, zero), 11 slice (low bit, width, node), 12 concat (high, low). A node names earlier nodes only.
use Rattle.std.specs.Prelude.{ℕ, zero, suc, ◌+◌, ◌*◌, Bool, true, false, cond, not, ◌&&◌, ltb, List, length, Some, None, Option, ◌==◌, nat_le, nat_lt, slice_index}
use Rattle.std.specs.Option.{option_or, option_map}
use Rattle.std.specs.Bool.{then_some}
use Rattle.design.specs.declared.node.Node.{Node}
use Rattle.design.specs.declared.node.Node.TheVariants.{Input, Register, Constant, And, Or, Xor, Not, Add, Less, Equal, Mux, Slice, Concat}
use Rattle.design.specs.declared.refusal.Refusal.{Refusal}
use Rattle.design.specs.declared.refusal.Refusal.TheVariants.{DesignLength, NumberTooLarge, TooManyNodes, BadNode, NoSuchNode, UnsoundRegister, UnsoundOutput, UnsoundInput}
use Rattle.design.specs.Designs.{word, Expr, Design, input, register, constant, register_sound, output_sound, input_sound}
use Rattle.design.specs.Designs.{and as and_expr, or as or_expr, xor as xor_expr, not as not_expr, add, less, equal, mux, slice, concat}

-- 1. The list.

unfoldable pub inputs_of : List ℕ → ℕ
inputs_of xs = slice_index xs 0

unfoldable pub registers_of : List ℕ → ℕ
registers_of xs = slice_index xs 1

unfoldable pub outputs_of : List ℕ → ℕ
outputs_of xs = slice_index xs 2

unfoldable pub nodes_of : List ℕ → ℕ
nodes_of xs = slice_index xs 3

-- where the numbers of an input, a register, an output and a node begin
unfoldable pub input_place : ℕ → ℕ
input_place i = 4 + i

unfoldable pub register_place : List ℕ → ℕ → ℕ
register_place xs r = 4 + inputs_of xs + 3 * r

unfoldable pub output_place : List ℕ → ℕ → ℕ
output_place xs o = 4 + inputs_of xs + 3 * registers_of xs + o

unfoldable pub node_place : List ℕ → ℕ → ℕ
node_place xs n = 4 + inputs_of xs + 3 * registers_of xs + outputs_of xs + 4 * n

-- the nodes that a register and an output name
unfoldable pub register_node : List ℕ → ℕ → ℕ
register_node xs r = slice_index xs (register_place xs r + 2)

unfoldable pub output_node : List ℕ → ℕ → ℕ
output_node xs o = slice_index xs (output_place xs o)

-- how long the list should be; a count that is missing counts as 0
unfoldable pub expected_length : List ℕ → ℕ
expected_length xs = node_place xs (nodes_of xs)

-- 2. Nodes.

-- a node's kind and operands; above 12 there is no kind
unfoldable pub decode : (kind a b c : ℕ) → Option Node
decode k a b c =
    cond (k == 0) (Some (Input a)) (cond (k == 1) (Some (Register a)) (cond (k == 2) (Some (Constant a b))
    (cond (k == 3) (Some (And a b)) (cond (k == 4) (Some (Or a b)) (cond (k == 5) (Some (Xor a b)) (cond (k == 6) (Some (Not a))
    (cond (k == 7) (Some (Add a b)) (cond (k == 8) (Some (Less a b)) (cond (k == 9) (Some (Equal a b))
    (cond (k == 10) (Some (Mux a b c)) (cond (k == 11) (Some (Slice a b c)) (cond (k == 12) (Some (Concat a b)) None))))))))))))

unfoldable pub node_in : List ℕ → ℕ → Option Node
node_in xs n = decode (slice_index xs (node_place xs n)) (slice_index xs (node_place xs n + 1)) (slice_index xs (node_place xs n + 2)) (slice_index xs (node_place xs n + 3))

-- a node that names only nodes below n
unfoldable pub names_below : ℕ → Node → Bool
names_below n (Input i) = true
names_below n (Register r) = true
names_below n (Constant w v) = true
names_below n (And a b) = nat_lt a n && nat_lt b n
names_below n (Or a b) = nat_lt a n && nat_lt b n
names_below n (Xor a b) = nat_lt a n && nat_lt b n
names_below n (Not a) = nat_lt a n
names_below n (Add a b) = nat_lt a n && nat_lt b n
names_below n (Less a b) = nat_lt a n && nat_lt b n
names_below n (Equal a b) = nat_lt a n && nat_lt b n
names_below n (Mux c a b) = nat_lt c n && (nat_lt a n && nat_lt b n)
names_below n (Slice l w a) = nat_lt a n
names_below n (Concat a b) = nat_lt a n && nat_lt b n

-- node n is of some kind and names earlier nodes only
unfoldable pub node_ok : List ℕ → ℕ → Bool
node_ok xs n = elim (node_in xs n) [ None ↦ false | Some node ↦ names_below n node ]

-- the expression of a node, given those of the nodes that it names
unfoldable pub expr_of : (ℕ → Expr) → Node → Expr
expr_of e (Input i) = input i
expr_of e (Register r) = register r
expr_of e (Constant w v) = constant w (word v)
expr_of e (And a b) = and_expr (e a) (e b)
expr_of e (Or a b) = or_expr (e a) (e b)
expr_of e (Xor a b) = xor_expr (e a) (e b)
expr_of e (Not a) = not_expr (e a)
expr_of e (Add a b) = add (e a) (e b)
expr_of e (Less a b) = less (e a) (e b)
expr_of e (Equal a b) = equal (e a) (e b)
expr_of e (Mux c a b) = mux (e c) (e a) (e b)
expr_of e (Slice l w a) = slice l w (e a)
expr_of e (Concat a b) = concat (e a) (e b)

-- the expression that node n stands for, its names followed through so many levels
unfoldable pub expr_at : List ℕ → (levels : ℕ) → ℕ → Expr
expr_at xs zero n = input 0
expr_at xs (suc l) n = elim (node_in xs n) [ None ↦ input 0 | Some node ↦ expr_of (expr_at xs l) node ]

-- the expression that node n stands for, its names followed to their ends
abbrev pub node_expr : List ℕ → ℕ → Expr
node_expr xs = expr_at xs (nodes_of xs)

-- 3. The design that the list stands for. Names go to earlier nodes, so as many levels as there are nodes follow each to its end.

unfoldable pub design_in : List ℕ → Design
design_in xs = record {
  inputs = inputs_of xs;
  input_width = λ i. slice_index xs (input_place i);
  registers = registers_of xs;
  register_width = λ r. slice_index xs (register_place xs r);
  initial = λ r. word (slice_index xs (register_place xs r + 1));
  next = λ r. expr_at xs (nodes_of xs) (register_node xs r);
  outputs = outputs_of xs;
  output = λ o. expr_at xs (nodes_of xs) (output_node xs o);
}

-- 4. Refusals.

-- the first k below n at which the test fails
unfoldable pub first_failing : (ℕ → Bool) → (n : ℕ) → Option ℕ
first_failing test zero = None
first_failing test (suc n) = option_or (first_failing test n) (then_some (not (test n)) n)

unfoldable pub length_refusal : List ℕ → Option Refusal
length_refusal xs = then_some (not (length xs == expected_length xs)) (DesignLength (expected_length xs))

-- in order: a number above 65,535; more than 1,024 nodes; a bad node; a register, then an output, that names no node
unfoldable pub content_refusal : List ℕ → Option Refusal
content_refusal xs =
    option_or (option_map (λ k. NumberTooLarge k) (first_failing (λ k. nat_le (slice_index xs k) 65535) (length xs)))
    (option_or (then_some (nat_lt 1024 (nodes_of xs)) TooManyNodes)
    (option_or (option_map (λ n. BadNode n) (first_failing (node_ok xs) (nodes_of xs)))
    (option_or (option_map (λ r. NoSuchNode (register_place xs r + 2)) (first_failing (λ r. ltb (register_node xs r) (nodes_of xs)) (registers_of xs)))
    (option_map (λ o. NoSuchNode (output_place xs o)) (first_failing (λ o. ltb (output_node xs o) (nodes_of xs)) (outputs_of xs))))))

-- what reading the list answers: refusals 2 and 3
unfoldable pub reading_refusal : List ℕ → Option Refusal
reading_refusal xs = option_or (length_refusal xs) (content_refusal xs)

-- refusal 5: the first register that isn't sound, else the first output, counted after the registers, else the first input, after those
unfoldable pub soundness_refusal : Design → Option Refusal
soundness_refusal d =
    option_or (option_map (λ r. UnsoundRegister r) (first_failing (register_sound d) d.registers))
    (option_or (option_map (λ o. UnsoundOutput (d.registers + o)) (first_failing (output_sound d) d.outputs))
    (option_map (λ i. UnsoundInput (d.registers + d.outputs + i)) (first_failing (input_sound d) d.inputs)))
