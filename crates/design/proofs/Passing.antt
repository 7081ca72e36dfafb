-- The summary of a node from those of the nodes that it names, and one more summary in the list of them.
use Rattle.std.proofs.Common.{◌≡◌, ℕ, ◌+◌, ◌<◌, ◌≤◌, true, ◌&&◌, ltb, ◌≢◌, List, length, get_or, set, sym, subst, inl, inr, arith}
use Rattle.std.proofs.lemmas.Bool.{and_parts, ltb-true, cases_eq}
use Rattle.std.proofs.lemmas.List.{get_or-set_same, get_or-set_other}
use Rattle.design.specs.declared.node.Node.{Node}
use Rattle.design.specs.declared.summary.Summary.{Summary}
use Rattle.design.specs.Designs.{Design, Expr}
use Rattle.design.specs.Numbers.{names_below, expr_of}
use Rattle.design.specs.Summaries.{Summarizes, Known}

-- s is what the list holds at a
abbrev pub Read : List Summary → ℕ → Summary → Type 0
Read known a s = (z : Summary) → a < length known → s ≡ get_or known a z

pub operand : (d : Design) (e : ℕ → Expr) (n : ℕ) (known : List Summary) (a : ℕ) (s : Summary) →
    n ≤ length known → Known d e n known → Read known a s → ltb a n ≡ true → Summarizes d (e a) s
operand d e n known a s le all read below =
    let l = ltb-true a n below in
    let is = read s (omega arith) in
    let P : Summary → Type 0 = λ x. Summarizes d (e a) x in
    subst P (sym is) (all a s l)

pub operands : (d : Design) (e : ℕ → Expr) (n : ℕ) (known : List Summary) (a b : ℕ) (s t : Summary) →
    n ≤ length known → Known d e n known → Read known a s → Read known b t → (ltb a n && ltb b n) ≡ true → Summarizes d (e a) s × Summarizes d (e b) t
operands d e n known a b s t le all ra rb below =
    let p = and_parts (ltb a n) (ltb b n) below in
    (operand d e n known a s le all ra p.0, operand d e n known b t le all rb p.1)

pub at_node : (d : Design) (e : ℕ → Expr) (n : ℕ) (node is : Node) (r : Summary) → node ≡ is →
    (names_below n is ≡ true → Summarizes d (expr_of e is) r) → names_below n node ≡ true → Summarizes d (expr_of e node) r
at_node d e n node is r h f =
    let P : Node → Type 0 = λ x. names_below n x ≡ true → Summarizes d (expr_of e x) r in
    subst P (sym h) f

pub known_more : (d : Design) (e : ℕ → Expr) (n : ℕ) (known : List Summary) (s : Summary) →
    n < length known → Known d e n known → Summarizes d (e n) s → Known d e (n + 1) (set known n s)
known_more d e n known s l all here k z lt = elim (cases_eq k n) [
  | inl is ↦
      let P : ℕ → Type 0 = λ i. Summarizes d (e i) (get_or (set known n s) i z) in
      let Q : Summary → Type 0 = λ x. Summarizes d (e n) x in
      subst P (sym is) (subst Q (sym (get_or-set_same known n s z l)) here)
  | inr other ↦
      let Q : Summary → Type 0 = λ x. Summarizes d (e k) x in
      let ne : k ≢ n = other in
      subst Q (sym (get_or-set_other known n k s z ne)) (all k z (omega arith))
]

pub summary_read : (d : Design) (e : ℕ → Expr) (n : ℕ) (known : List Summary) (k : ℕ) (s : Summary) →
    Known d e n known → n ≤ length known → Read known k s → k < n → Summarizes d (e k) s
summary_read d e n known k s all le read l =
    let P : Summary → Type 0 = λ x. Summarizes d (e k) x in
    subst P (sym (read s (omega arith))) (all k s l)
