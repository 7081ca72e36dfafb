use Rattle.std.proofs.Common.{◌≡◌, true, ◌&&◌, ltb, refl, ap, inl, inr}
use Rattle.std.proofs.lemmas.Bool.{and_parts}
use Rattle.design.specs.declared.node.Node.TheVariants.{Input, Register, Constant, And, Or, Xor, Not, Add, Less, Equal, Mux, Slice, Concat}
use Rattle.design.specs.Designs.{word}
use Rattle.design.specs.Numbers.{names_below, expr_of, design_in}
use Rattle.design.proofs.Summing.{and_right, add_right, compare_right, not_right, mux_right, slice_right, concat_right, constant_right, input_right, register_right}
use Rattle.design.proofs.Passing.{operand, operands, at_node}
use Rattle.design.proofs.pass.summarize.Goals as goal

pub returns-in-Input : goal.returns-in-Input
unfolding names_below expr_of design_in
returns-in-Input c = λ e n le below all.
    let i = c.in-Input.i in
    at_node (design_in c.args.design.numbers.now) e n c.args.node (Input i) _ c.in-Input.is
    (λ _. input_right (design_in c.args.design.numbers.now) i _ c.input_width.ensures (ap (λ m. ltb i m) c.inputs.ensures) refl) below

pub returns-in-Register : goal.returns-in-Register
unfolding names_below expr_of design_in
returns-in-Register c = λ e n le below all.
    let r = c.in-Register.r in
    at_node (design_in c.args.design.numbers.now) e n c.args.node (Register r) _ c.in-Register.is
    (λ _. register_right (design_in c.args.design.numbers.now) r _ c.register.ensures.width (ap (λ m. ltb r m) c.registers.ensures) refl) below

pub returns-in-Constant : goal.returns-in-Constant
unfolding names_below expr_of
returns-in-Constant c = λ e n le below all.
    let w = c.in-Constant.width in
    at_node (design_in c.args.design.numbers.now) e n c.args.node (Constant w c.in-Constant.value) c.constant.result c.in-Constant.is
    (λ _. constant_right (design_in c.args.design.numbers.now) w (word c.in-Constant.value) c.constant.result c.constant.ensures.width c.constant.ensures.formed c.constant.ensures.cells) below

pub returns-in-Not : goal.returns-in-Not
unfolding names_below expr_of
returns-in-Not c = λ e n le below all.
    let a = c.in-Not.a in
    at_node (design_in c.args.design.numbers.now) e n c.args.node (Not a) c.not.result c.in-Not.is
    (λ b. not_right (design_in c.args.design.numbers.now) (e a) c.at.result c.not.result (operand (design_in c.args.design.numbers.now) e n c.args.known.now a c.at.result le all c.at.ensures.inside b) c.not.ensures.width c.not.ensures.formed c.not.ensures.cells) below

pub returns-in-And : goal.returns-in-And
unfolding names_below expr_of
returns-in-And c = λ e n le below all.
    let a = c.in-And.a in
    let b = c.in-And.b in
    let right = λ (h : (ltb a n && ltb b n) ≡ true).
    let p = operands (design_in c.args.design.numbers.now) e n c.args.known.now a b c.at-in-And.result c.at-in-And-2.result le all c.at-in-And.ensures.inside c.at-in-And-2.ensures.inside h in
    and_right (design_in c.args.design.numbers.now) (e a) (e b) c.at-in-And.result c.at-in-And-2.result c.bitwise.result p.0 p.1 c.bitwise.ensures.width c.bitwise.ensures.formed c.bitwise.ensures.cells in
    elim c.in-And.is [
      | inl is ↦ at_node (design_in c.args.design.numbers.now) e n c.args.node (And a b) c.bitwise.result is (λ h. (right h).0) below
      | inr o ↦ elim o [
        | inl is ↦ at_node (design_in c.args.design.numbers.now) e n c.args.node (Or a b) c.bitwise.result is (λ h. (right h).1) below
        | inr is ↦ at_node (design_in c.args.design.numbers.now) e n c.args.node (Xor a b) c.bitwise.result is (λ h. (right h).2) below
      ]
    ]

pub returns-in-Add : goal.returns-in-Add
unfolding names_below expr_of
returns-in-Add c = λ e n le below all.
    let a = c.in-Add.a in
    let b = c.in-Add.b in
    let right = λ (h : (ltb a n && ltb b n) ≡ true).
    let p = operands (design_in c.args.design.numbers.now) e n c.args.known.now a b c.at-in-Add.result c.at-in-Add-2.result le all c.at-in-Add.ensures.inside c.at-in-Add-2.ensures.inside h in
    add_right (design_in c.args.design.numbers.now) (e a) (e b) c.at-in-Add.result c.at-in-Add-2.result c.add.result p.0 p.1 c.add.ensures.width c.add.ensures.formed c.add.ensures.cells in
    at_node (design_in c.args.design.numbers.now) e n c.args.node (Add a b) c.add.result c.in-Add.is right below

pub returns-in-Less : goal.returns-in-Less
unfolding names_below expr_of
returns-in-Less c = λ e n le below all.
    let a = c.in-Less.a in
    let b = c.in-Less.b in
    let right = λ (h : (ltb a n && ltb b n) ≡ true).
    let p = operands (design_in c.args.design.numbers.now) e n c.args.known.now a b c.at-in-Less.result c.at-in-Less-2.result le all c.at-in-Less.ensures.inside c.at-in-Less-2.ensures.inside h in
    compare_right (design_in c.args.design.numbers.now) (e a) (e b) c.at-in-Less.result c.at-in-Less-2.result c.comparison.result p.0 p.1 c.comparison.ensures.width c.comparison.ensures.formed c.comparison.ensures.cells in
    elim c.in-Less.is [
      | inl is ↦ at_node (design_in c.args.design.numbers.now) e n c.args.node (Less a b) c.comparison.result is (λ h. (right h).0) below
      | inr is ↦ at_node (design_in c.args.design.numbers.now) e n c.args.node (Equal a b) c.comparison.result is (λ h. (right h).1) below
    ]

pub returns-in-Mux : goal.returns-in-Mux
unfolding names_below expr_of
returns-in-Mux c = λ e n le below all.
    let x = c.in-Mux.choice in
    let a = c.in-Mux.one in
    let b = c.in-Mux.zero in
    at_node (design_in c.args.design.numbers.now) e n c.args.node (Mux x a b) c.mux.result c.in-Mux.is
    (λ h.
    let q = and_parts (ltb x n) _ h in
    let o = operand (design_in c.args.design.numbers.now) e n c.args.known.now x c.at-in-Mux.result le all c.at-in-Mux.ensures.inside q.0 in
    let p = operands (design_in c.args.design.numbers.now) e n c.args.known.now a b c.at-in-Mux-2.result c.at-in-Mux-3.result le all c.at-in-Mux-2.ensures.inside c.at-in-Mux-3.ensures.inside q.1 in
    mux_right (design_in c.args.design.numbers.now) (e x) (e a) (e b) c.at-in-Mux.result c.at-in-Mux-2.result c.at-in-Mux-3.result c.mux.result o p.0 p.1 c.mux.ensures.width c.mux.ensures.formed c.mux.ensures.cells) below

pub returns-in-Slice : goal.returns-in-Slice
unfolding names_below expr_of
returns-in-Slice c = λ e n le below all.
    let l = c.in-Slice.low in
    let w = c.in-Slice.width in
    let a = c.in-Slice.of in
    at_node (design_in c.args.design.numbers.now) e n c.args.node (Slice l w a) c.slice.result c.in-Slice.is
    (λ b. slice_right (design_in c.args.design.numbers.now) l w (e a) c.at-in-Slice.result c.slice.result (operand (design_in c.args.design.numbers.now) e n c.args.known.now a c.at-in-Slice.result le all c.at-in-Slice.ensures.inside b) c.slice.ensures.width c.slice.ensures.formed c.slice.ensures.cells) below

pub returns-in-Concat : goal.returns-in-Concat
unfolding names_below expr_of
returns-in-Concat c = λ e n le below all.
    let a = c.in-Concat.high in
    let b = c.in-Concat.low in
    at_node (design_in c.args.design.numbers.now) e n c.args.node (Concat a b) c.concat.result c.in-Concat.is
    (λ h.
    let p = operands (design_in c.args.design.numbers.now) e n c.args.known.now a b c.at-in-Concat.result c.at-in-Concat-2.result le all c.at-in-Concat.ensures.inside c.at-in-Concat-2.ensures.inside h in
    concat_right (design_in c.args.design.numbers.now) (e a) (e b) c.at-in-Concat.result c.at-in-Concat-2.result c.concat.result p.0 p.1 c.concat.ensures.width c.concat.ensures.formed c.concat.ensures.cells) below
