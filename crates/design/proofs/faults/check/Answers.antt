use Rattle.std.proofs.Common.{sym, ◌∙◌, arith}
use Rattle.design.proofs.Reading.{Long, refuses_length, refuses_count, refuses_node, refuses_register, refuses_output, refuses_nothing}
use Rattle.design.proofs.faults.check.Goals as goal

pub returns-then-numbers-expected : goal.returns-then-numbers-expected
returns-then-numbers-expected c = refuses_length c.args.numbers.now c.expected_length-expected.result c.expected_length-expected.ensures c.if-numbers-expected.true

pub returns-then-nodes-gt-MOST_NODES : goal.returns-then-nodes-gt-MOST_NODES
returns-then-nodes-gt-MOST_NODES c =
    let h : Long c.args.numbers.now = record { long = c.if-numbers-expected.false ∙ c.expected_length-expected.ensures; small = λ k. omega (arith, c.type_inv.numbers k) } in
    refuses_count c.args.numbers.now h (omega arith)

pub returns-in-Some : goal.returns-in-Some
returns-in-Some c =
    let h : Long c.args.numbers.now = record { long = c.if-numbers-expected.false ∙ c.expected_length-expected.ensures; small = λ k. omega (arith, c.type_inv.numbers k) } in
    refuses_node c.args.numbers.now c.in-Some.n h (omega arith) (sym c.bad_node.ensures ∙ c.in-Some.is)

pub returns-in-Some-dangling_register : goal.returns-in-Some-dangling_register
returns-in-Some-dangling_register c =
    let h : Long c.args.numbers.now = record { long = c.if-numbers-expected.false ∙ c.expected_length-expected.ensures; small = λ k. omega (arith, c.type_inv.numbers k) } in
    simp c.register_place.ensures.place (refuses_register c.args.numbers.now c.in-Some-dangling_register.register h (omega arith)
    (sym c.bad_node.ensures ∙ c.in_default.is)
    (sym c.dangling_register.ensures ∙ c.in-Some-dangling_register.is))

pub returns-in-Some-dangling_output : goal.returns-in-Some-dangling_output
returns-in-Some-dangling_output c =
    let h : Long c.args.numbers.now = record { long = c.if-numbers-expected.false ∙ c.expected_length-expected.ensures; small = λ k. omega (arith, c.type_inv.numbers k) } in
    simp c.output_place.ensures.place (refuses_output c.args.numbers.now c.in-Some-dangling_output.output h (omega arith)
    (sym c.bad_node.ensures ∙ c.in_default.is)
    (sym c.dangling_register.ensures ∙ c.in_default-dangling_register.is)
    (sym c.dangling_output.ensures ∙ c.in-Some-dangling_output.is))

pub returns : goal.returns
returns c =
    let h : Long c.args.numbers.now = record { long = c.if-numbers-expected.false ∙ c.expected_length-expected.ensures; small = λ k. omega (arith, c.type_inv.numbers k) } in
    refuses_nothing c.args.numbers.now h (omega arith)
    (sym c.bad_node.ensures ∙ c.in_default.is)
    (sym c.dangling_register.ensures ∙ c.in_default-dangling_register.is)
    (sym c.dangling_output.ensures ∙ c.in_default-dangling_output.is)
