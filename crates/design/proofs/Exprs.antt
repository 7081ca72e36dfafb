-- The expression of a node, from those of the nodes that it names.
use Rattle.std.proofs.Common.{◌≡◌, ℕ, zero, suc, ◌<◌, Bool, true, false, ◌&&◌, ltb, List, Some, None, Option, unwrap_or, refl, ◌∙◌, arith}
use Rattle.std.proofs.lemmas.Bool.{ltb-true, and_parts, false≢true}
use Rattle.design.specs.declared.node.Node.{Node}
use Rattle.design.specs.declared.node.Node.TheVariants.{Input, Register, Constant, And, Or, Xor, Not, Add, Less, Equal, Mux, Slice, Concat}
use Rattle.design.specs.Designs.{Expr, input}
use Rattle.design.specs.Numbers.{nodes_of, node_in, names_below, node_ok, expr_of, expr_at, reading_refusal}
use Rattle.design.proofs.Reading.{Readable, readable}

both : (n : ℕ) (e f : ℕ → Expr) (a b : ℕ) → (ltb a n && ltb b n) ≡ true → ((k : ℕ) → k < n → e k ≡ f k) → (e a ≡ f a) × (e b ≡ f b)
both n e f a b h same = let p = and_parts (ltb a n) (ltb b n) h in (same a (ltb-true a n p.0), same b (ltb-true b n p.1))

-- a node that names only nodes below n takes nothing else from the expressions
pub expr_of_agree : (n : ℕ) (e f : ℕ → Expr) (node : Node) → names_below n node ≡ true → ((k : ℕ) → k < n → e k ≡ f k) → expr_of e node ≡ expr_of f node
unfolding names_below expr_of
expr_of_agree n e f (Input i) h same = refl
expr_of_agree n e f (Register r) h same = refl
expr_of_agree n e f (Constant w v) h same = refl
expr_of_agree n e f (And a b) h same = let p = both n e f a b h same in cc
expr_of_agree n e f (Or a b) h same = let p = both n e f a b h same in cc
expr_of_agree n e f (Xor a b) h same = let p = both n e f a b h same in cc
expr_of_agree n e f (Not a) h same = cc (same a (ltb-true a n h))
expr_of_agree n e f (Add a b) h same = let p = both n e f a b h same in cc
expr_of_agree n e f (Less a b) h same = let p = both n e f a b h same in cc
expr_of_agree n e f (Equal a b) h same = let p = both n e f a b h same in cc
expr_of_agree n e f (Mux c a b) h same =
    let p = and_parts (ltb c n) (ltb a n && ltb b n) h in
    let q = both n e f a b p.1 same in
    cc (same c (ltb-true c n p.0))
expr_of_agree n e f (Slice l w a) h same = cc (same a (ltb-true a n h))
expr_of_agree n e f (Concat a b) h same = let p = both n e f a b h same in cc

-- node n, whatever it is, under two numbers of levels
abbrev ok_at : ℕ → Option Node → Bool
ok_at n o = elim o [ None ↦ false | Some node ↦ names_below n node ]

abbrev expr_from : (ℕ → Expr) → Option Node → Expr
expr_from e o = elim o [ None ↦ input 0 | Some node ↦ expr_of e node ]

from_agree : (n : ℕ) (e f : ℕ → Expr) (o : Option Node) → ok_at n o ≡ true → ((k : ℕ) → k < n → e k ≡ f k) → expr_from e o ≡ expr_from f o
from_agree n e f None h same = refl
from_agree n e f (Some node) h same = expr_of_agree n e f node h same

-- above its number, the levels don't matter
pub expr_at_levels : (xs : List ℕ) → Readable xs → (l m n : ℕ) → n < l → n < m → n < nodes_of xs → expr_at xs l n ≡ expr_at xs m n
unfolding expr_at node_ok
expr_at_levels xs ok zero m n a b c = absurd (omega arith)
expr_at_levels xs ok (suc l) zero n a b c = absurd (omega arith)
expr_at_levels xs ok (suc l) (suc m) n a b c =
    from_agree n (expr_at xs l) (expr_at xs m) (node_in xs n) (ok.nodes n c)
    (λ k h. expr_at_levels xs ok l m k (omega arith) (omega arith) (omega arith))

below_at : (n : ℕ) (o : Option Node) (node : Node) → ok_at n o ≡ true → o ≡ Some node → names_below n node ≡ true
below_at n o node h e = rw e at h

from_at : (e : ℕ → Expr) (o : Option Node) (node : Node) → o ≡ Some node → expr_from e o ≡ expr_of e node
from_at e o node h = rw h

-- a node names earlier nodes only
pub operands_below : (xs : List ℕ) → reading_refusal xs ≡ None → (n : ℕ) → n < nodes_of xs → (node : Node) → node_in xs n ≡ Some node → names_below n node ≡ true
unfolding node_ok
operands_below xs ok n l node h = below_at n (node_in xs n) node ((readable xs ok).nodes n l) h

one_level : (xs : List ℕ) (l n : ℕ) (node : Node) → node_in xs n ≡ Some node → expr_at xs (suc l) n ≡ expr_of (expr_at xs l) node
unfolding expr_at
one_level xs l n node h = from_at (expr_at xs l) (node_in xs n) node h

at_levels : (xs : List ℕ) → Readable xs → (l n : ℕ) → l ≡ nodes_of xs → n < l → (node : Node) → node_in xs n ≡ Some node → names_below n node ≡ true →
    expr_at xs l n ≡ expr_of (expr_at xs l) node
at_levels xs ok zero n e h node is below = absurd (omega arith)
at_levels xs ok (suc l) n e h node is below =
    one_level xs l n node is
    ∙ expr_of_agree n (expr_at xs l) (expr_at xs (suc l)) node below
    (λ k b. expr_at_levels xs ok l (suc l) k (omega arith) (omega arith) (omega arith))

-- the expression of a node is its operation on the expressions of the nodes that it names
pub expr_at_node : (xs : List ℕ) → reading_refusal xs ≡ None → (n : ℕ) → n < nodes_of xs → (node : Node) → node_in xs n ≡ Some node →
    expr_at xs (nodes_of xs) n ≡ expr_of (expr_at xs (nodes_of xs)) node
expr_at_node xs ok n l node h = at_levels xs (readable xs ok) (nodes_of xs) n refl l node h (operands_below xs ok n l node h)

-- whether a node is in order, by what it is
some_at : (n : ℕ) (o : Option Node) (node : Node) → o ≡ Some node → names_below n node ≡ ok_at n o
some_at n o node h = rw h

none_at : (n : ℕ) (o : Option Node) → o ≡ None → false ≡ ok_at n o
none_at n o h = rw h

pub node_ok_some : (xs : List ℕ) (n : ℕ) (node : Node) → node_in xs n ≡ Some node → names_below n node ≡ node_ok xs n
unfolding node_ok
node_ok_some xs n node h = some_at n (node_in xs n) node h

pub node_ok_none : (xs : List ℕ) (n : ℕ) → node_in xs n ≡ None → false ≡ node_ok xs n
unfolding node_ok
node_ok_none xs n h = none_at n (node_in xs n) h

pub node_there : (xs : List ℕ) → reading_refusal xs ≡ None → (n : ℕ) → n < nodes_of xs → node_in xs n ≡ None → ⊥
node_there xs ok n l h = false≢true (node_ok_none xs n h ∙ (readable xs ok).nodes n l)

-- what a node is, or another where there is none
pub some_or : (o : Option Node) (other : Node) → (o ≡ None → ⊥) → o ≡ Some (unwrap_or o other)
some_or None other h = absurd (h refl)
some_or (Some node) other h = refl
