use Rattle.design.specs.declared.node.Node.TheVariants.{Input, Register, Constant, And, Or, Xor, Not, Add, Less, Equal, Mux, Slice, Concat}
use Rattle.design.specs.Designs.{word}
use Rattle.design.specs.Encodings.{list_of}
use Rattle.design.proofs.Reading.{not_refused}
use Rattle.player.specs.Operations.{and_word, or_word, xor_word, not_word, sum_word, less_word, equal_word, mux_word, slice_word, concat_word}
use Rattle.player.proofs.Fetching.{input_node, register_node, constant_node, and_node, or_node, xor_node, not_node, add_node, less_node, equal_node, mux_node, slice_node, concat_node}
use Rattle.player.proofs.Passing.{node_word}
use Rattle.player.proofs.nodes.Tick.evaluate.Goals as goal

pub returns-in-Input : goal.returns-in-Input
returns-in-Input c =
    let e = c.args.self.analysis.now.design in
    node_word (list_of e) _ _ _ c.args.n _ _ c.node.result (Input c.in-Input.i) (word c.at.result) (not_refused (list_of e) e.readable) c.node.ensures.is c.node.ensures.below c.width-width.ensures
    c.in-Input.is (input_node _ _ _ _ _ _ (c.at.ensures.only 0 (λ y d. d))) c.low_bits.ensures

pub returns-in-Register : goal.returns-in-Register
returns-in-Register c =
    let e = c.args.self.analysis.now.design in
    node_word (list_of e) _ _ _ c.args.n _ _ c.node.result (Register c.in-Register.r) (word c.at-in-Register.result) (not_refused (list_of e) e.readable) c.node.ensures.is c.node.ensures.below c.width-width.ensures
    c.in-Register.is (register_node _ _ _ _ _ _ (c.at-in-Register.ensures.only 0 (λ y d. d))) c.low_bits-in-Register.ensures

pub returns-in-Constant : goal.returns-in-Constant
returns-in-Constant c =
    let e = c.args.self.analysis.now.design in
    node_word (list_of e) _ _ _ c.args.n _ _ c.node.result (Constant c.in-Constant.width c.in-Constant.value) (word c.in-Constant.value) (not_refused (list_of e) e.readable) c.node.ensures.is c.node.ensures.below c.width-width.ensures
    c.in-Constant.is (constant_node _ _ _ _ _ _) c.low_bits-in-Constant.ensures

pub returns-in-And : goal.returns-in-And
returns-in-And c =
    let e = c.args.self.analysis.now.design in
    node_word (list_of e) _ _ _ c.args.n _ _ c.node.result (And c.in-And.a c.in-And.b) (and_word (word c.at-in-And.result) (word c.at-in-And-2.result)) (not_refused (list_of e) e.readable) c.node.ensures.is c.node.ensures.below c.width-width.ensures
    c.in-And.is (and_node _ _ _ _ _ _ _ _ (c.at-in-And.ensures.only 0 (λ y d. d)) (c.at-in-And-2.ensures.only 0 (λ y d. d))) c.and.ensures

pub returns-in-Or : goal.returns-in-Or
returns-in-Or c =
    let e = c.args.self.analysis.now.design in
    node_word (list_of e) _ _ _ c.args.n _ _ c.node.result (Or c.in-Or.a c.in-Or.b) (or_word (word c.at-in-Or.result) (word c.at-in-Or-2.result)) (not_refused (list_of e) e.readable) c.node.ensures.is c.node.ensures.below c.width-width.ensures
    c.in-Or.is (or_node _ _ _ _ _ _ _ _ (c.at-in-Or.ensures.only 0 (λ y d. d)) (c.at-in-Or-2.ensures.only 0 (λ y d. d))) c.or.ensures

pub returns-in-Xor : goal.returns-in-Xor
returns-in-Xor c =
    let e = c.args.self.analysis.now.design in
    node_word (list_of e) _ _ _ c.args.n _ _ c.node.result (Xor c.in-Xor.a c.in-Xor.b) (xor_word (word c.at-in-Xor.result) (word c.at-in-Xor-2.result)) (not_refused (list_of e) e.readable) c.node.ensures.is c.node.ensures.below c.width-width.ensures
    c.in-Xor.is (xor_node _ _ _ _ _ _ _ _ (c.at-in-Xor.ensures.only 0 (λ y d. d)) (c.at-in-Xor-2.ensures.only 0 (λ y d. d))) c.xor.ensures

pub returns-in-Add : goal.returns-in-Add
returns-in-Add c =
    let e = c.args.self.analysis.now.design in
    node_word (list_of e) _ _ _ c.args.n _ _ c.node.result (Add c.in-Add.a c.in-Add.b) (sum_word (word c.at-in-Add.result) (word c.at-in-Add-2.result)) (not_refused (list_of e) e.readable) c.node.ensures.is c.node.ensures.below c.width-width.ensures
    c.in-Add.is (add_node _ _ _ _ _ _ _ _ (c.at-in-Add.ensures.only 0 (λ y d. d)) (c.at-in-Add-2.ensures.only 0 (λ y d. d))) c.sum.ensures

pub returns-in-Not : goal.returns-in-Not
returns-in-Not c =
    let e = c.args.self.analysis.now.design in
    node_word (list_of e) _ _ _ c.args.n _ _ c.node.result (Not c.in-Not.a) (not_word (word c.at-in-Not.result)) (not_refused (list_of e) e.readable) c.node.ensures.is c.node.ensures.below c.width-width.ensures
    c.in-Not.is (not_node _ _ _ _ _ _ (c.at-in-Not.ensures.only 0 (λ y d. d))) c.not.ensures

pub returns-in-Less : goal.returns-in-Less
returns-in-Less c =
    let e = c.args.self.analysis.now.design in
    node_word (list_of e) _ _ _ c.args.n _ _ c.node.result (Less c.in-Less.a c.in-Less.b) (less_word (word c.at-in-Less.result) (word c.at-in-Less-2.result) c.width.result.bits) (not_refused (list_of e) e.readable) c.node.ensures.is c.node.ensures.below c.width-width.ensures
    c.in-Less.is (less_node _ _ _ _ _ _ _ _ _ (c.at-in-Less.ensures.only 0 (λ y d. d)) (c.at-in-Less-2.ensures.only 0 (λ y d. d)) c.width.ensures) c.less.ensures

pub returns-in-Equal : goal.returns-in-Equal
returns-in-Equal c =
    let e = c.args.self.analysis.now.design in
    node_word (list_of e) _ _ _ c.args.n _ _ c.node.result (Equal c.in-Equal.a c.in-Equal.b) (equal_word (word c.at-in-Equal.result) (word c.at-in-Equal-2.result) c.width-in-Equal.result.bits) (not_refused (list_of e) e.readable) c.node.ensures.is c.node.ensures.below c.width-width.ensures
    c.in-Equal.is (equal_node _ _ _ _ _ _ _ _ _ (c.at-in-Equal.ensures.only 0 (λ y d. d)) (c.at-in-Equal-2.ensures.only 0 (λ y d. d)) c.width-in-Equal.ensures) c.equal.ensures

pub returns-in-Mux : goal.returns-in-Mux
returns-in-Mux c =
    let e = c.args.self.analysis.now.design in
    node_word (list_of e) _ _ _ c.args.n _ _ c.node.result (Mux c.in-Mux.choice c.in-Mux.one c.in-Mux.zero) (mux_word (word c.at-in-Mux.result) (word c.at-in-Mux-2.result) (word c.at-in-Mux-3.result)) (not_refused (list_of e) e.readable) c.node.ensures.is c.node.ensures.below c.width-width.ensures
    c.in-Mux.is (mux_node _ _ _ _ _ _ _ _ _ _ (c.at-in-Mux.ensures.only 0 (λ y d. d)) (c.at-in-Mux-2.ensures.only 0 (λ y d. d)) (c.at-in-Mux-3.ensures.only 0 (λ y d. d))) c.mux.ensures

pub returns-in-Slice : goal.returns-in-Slice
returns-in-Slice c =
    let e = c.args.self.analysis.now.design in
    node_word (list_of e) _ _ _ c.args.n _ _ c.node.result (Slice c.in-Slice.low c.in-Slice.width c.in-Slice.of) (slice_word c.in-Slice.low (word c.at-in-Slice.result)) (not_refused (list_of e) e.readable) c.node.ensures.is c.node.ensures.below c.width-width.ensures
    c.in-Slice.is (slice_node _ _ _ _ _ _ _ _ (c.at-in-Slice.ensures.only 0 (λ y d. d))) c.slice.ensures

pub returns-in-Concat : goal.returns-in-Concat
returns-in-Concat c =
    let e = c.args.self.analysis.now.design in
    node_word (list_of e) _ _ _ c.args.n _ _ c.node.result (Concat c.in-Concat.high c.in-Concat.low) (concat_word (word c.at-in-Concat.result) (word c.at-in-Concat-2.result) c.width-in-Concat.result.bits) (not_refused (list_of e) e.readable) c.node.ensures.is c.node.ensures.below c.width-width.ensures
    c.in-Concat.is (concat_node _ _ _ _ _ _ _ _ _ (c.at-in-Concat.ensures.only 0 (λ y d. d)) (c.at-in-Concat-2.ensures.only 0 (λ y d. d)) c.width-in-Concat.ensures) c.concat.ensures
