use Rattle.std.proofs.Common.{inl, inr}
use Rattle.std.proofs.lemmas.Bool.{lt-ltb, le-ltb}
use Rattle.design.specs.Numbers.{names_below}
use Rattle.design.proofs.faults.names_below.Goals as goal

pub returns-in-Input : goal.returns-in-Input
unfolding names_below
returns-in-Input c = elim c.in-Input.is [ inl p ↦ simp p.1 | inr s ↦ elim s [ inl p ↦ simp p.1 | inr p ↦ simp p.2 ] ]

pub returns-in-And : goal.returns-in-And
unfolding names_below
returns-in-And c =
    let e = c.both_below-in-And.ensures in
    elim c.in-And.is [ inl p ↦ simp p e | inr s ↦ elim s [ inl p ↦ simp p e | inr p ↦ simp p e ] ]

pub returns-in-Not : goal.returns-in-Not
unfolding names_below
returns-in-Not c = simp c.in-Not.is

pub returns-in-Add : goal.returns-in-Add
unfolding names_below
returns-in-Add c =
    let e = c.both_below-in-Add.ensures in
    elim c.in-Add.is [ inl p ↦ simp p e | inr s ↦ elim s [ inl p ↦ simp p e | inr p ↦ simp p e ] ]

pub returns-then-choice-n : goal.returns-then-choice-n
unfolding names_below
returns-then-choice-n c = let e = c.both_below.ensures in simp (c.in-Mux.is, lt-ltb c.in-Mux.choice c.args.n c.if-choice-n.true) e

pub returns-else-choice-n : goal.returns-else-choice-n
unfolding names_below
returns-else-choice-n c = simp (c.in-Mux.is, le-ltb c.in-Mux.choice c.args.n c.if-choice-n.false)

pub returns-in-Slice : goal.returns-in-Slice
unfolding names_below
returns-in-Slice c = simp c.in-Slice.is

pub returns-in-Concat : goal.returns-in-Concat
unfolding names_below
returns-in-Concat c = simp c.in-Concat.is c.both_below-in-Concat.ensures
