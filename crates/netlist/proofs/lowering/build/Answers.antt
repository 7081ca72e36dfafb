use Rattle.std.proofs.Common.{arith, rules}
use Rattle.netlist.proofs.Nodes.{asks_as, gives_as, and_pair, and_asks, and_built, or_pair, or_asks, or_built, xor_pair, xor_asks, xor_built, add_pair, add_asks, add_built, less_pair, less_asks, less_built, equal_pair, equal_asks, equal_built, add_room, not_operand, not_asks, not_built, mux_choice, mux_asks, mux_built, constant_room, constant_built, slice_built, concat_joined, concat_built, input_built, register_built}
use Rattle.netlist.proofs.lowering.build.Goals as goal

pub binary-requires : goal.binary-requires
binary-requires c =
    let k = asks_as _ _ _ _ _ c.in-And.is c.requires in
    let p = and_pair _ _ _ _ _ k in
    and_asks _ _ _ _ _ _ k (c.width.ensures p.a_ok.there p.a_ok.formed)

pub returns-in-And : goal.returns-in-And
returns-in-And c =
    let k = asks_as _ _ _ _ _ c.in-And.is c.requires in
    let p = and_pair _ _ _ _ _ k in
    gives_as _ _ _ _ _ _ _ c.in-And.is (and_built _ _ _ _ _ _ _ _ (c.width.ensures p.a_ok.there p.a_ok.formed) k c.binary.ensures)

pub binary-requires-in-Or : goal.binary-requires-in-Or
binary-requires-in-Or c =
    let k = asks_as _ _ _ _ _ c.in-Or.is c.requires in
    let p = or_pair _ _ _ _ _ k in
    or_asks _ _ _ _ _ _ k (c.width-in-Or.ensures p.a_ok.there p.a_ok.formed)

pub returns-in-Or : goal.returns-in-Or
returns-in-Or c =
    let k = asks_as _ _ _ _ _ c.in-Or.is c.requires in
    let p = or_pair _ _ _ _ _ k in
    gives_as _ _ _ _ _ _ _ c.in-Or.is (or_built _ _ _ _ _ _ _ _ (c.width-in-Or.ensures p.a_ok.there p.a_ok.formed) k c.binary-in-Or.ensures)

pub binary-requires-in-Xor : goal.binary-requires-in-Xor
binary-requires-in-Xor c =
    let k = asks_as _ _ _ _ _ c.in-Xor.is c.requires in
    let p = xor_pair _ _ _ _ _ k in
    xor_asks _ _ _ _ _ _ k (c.width-in-Xor.ensures p.a_ok.there p.a_ok.formed)

pub returns-in-Xor : goal.returns-in-Xor
returns-in-Xor c =
    let k = asks_as _ _ _ _ _ c.in-Xor.is c.requires in
    let p = xor_pair _ _ _ _ _ k in
    gives_as _ _ _ _ _ _ _ c.in-Xor.is (xor_built _ _ _ _ _ _ _ _ (c.width-in-Xor.ensures p.a_ok.there p.a_ok.formed) k c.binary-in-Xor.ensures)

pub add-requires : goal.add-requires
add-requires c =
    let k = asks_as _ _ _ _ _ c.in-Add.is c.requires in
    let p = add_pair _ _ _ _ _ k in
    record { row = add_asks _ _ _ _ _ _ k (c.width-in-Add.ensures p.a_ok.there p.a_ok.formed); room = add_room _ _ _ _ _ _ k (c.width-in-Add.ensures p.a_ok.there p.a_ok.formed) }

pub returns-in-Add : goal.returns-in-Add
returns-in-Add c =
    let k = asks_as _ _ _ _ _ c.in-Add.is c.requires in
    let p = add_pair _ _ _ _ _ k in
    gives_as _ _ _ _ _ _ _ c.in-Add.is (add_built _ _ _ _ _ _ _ _ (c.width-in-Add.ensures p.a_ok.there p.a_ok.formed) k c.add.ensures)

pub compare-requires : goal.compare-requires
compare-requires c =
    let k = asks_as _ _ _ _ _ c.in-Less.is c.requires in
    let p = less_pair _ _ _ _ _ k in
    record { row = less_asks _ _ _ _ _ _ k (c.width-in-Less.ensures p.a_ok.there p.a_ok.formed); some = omega (arith, c.width-in-Less.ensures p.a_ok.there p.a_ok.formed, p.a_ok.range.low) }

pub returns-in-Less : goal.returns-in-Less
returns-in-Less c =
    let k = asks_as _ _ _ _ _ c.in-Less.is c.requires in
    let p = less_pair _ _ _ _ _ k in
    gives_as _ _ _ _ _ _ _ c.in-Less.is (less_built _ _ _ _ _ _ _ _ (c.width-in-Less.ensures p.a_ok.there p.a_ok.formed) k c.compare.ensures)

pub compare-requires-in-Equal : goal.compare-requires-in-Equal
compare-requires-in-Equal c =
    let k = asks_as _ _ _ _ _ c.in-Equal.is c.requires in
    let p = equal_pair _ _ _ _ _ k in
    record { row = equal_asks _ _ _ _ _ _ k (c.width-in-Equal.ensures p.a_ok.there p.a_ok.formed); some = omega (arith, c.width-in-Equal.ensures p.a_ok.there p.a_ok.formed, p.a_ok.range.low) }

pub returns-in-Equal : goal.returns-in-Equal
returns-in-Equal c =
    let k = asks_as _ _ _ _ _ c.in-Equal.is c.requires in
    let p = equal_pair _ _ _ _ _ k in
    gives_as _ _ _ _ _ _ _ c.in-Equal.is (equal_built _ _ _ _ _ _ _ _ (c.width-in-Equal.ensures p.a_ok.there p.a_ok.formed) k c.compare-in-Equal.ensures)

pub unary-requires : goal.unary-requires
unary-requires c =
    let k = asks_as _ _ _ _ _ c.in-Not.is c.requires in
    let p = not_operand _ _ _ _ k in
    not_asks _ _ _ _ _ k (c.width-in-Not.ensures p.there p.formed)

pub returns-in-Not : goal.returns-in-Not
returns-in-Not c =
    let k = asks_as _ _ _ _ _ c.in-Not.is c.requires in
    let p = not_operand _ _ _ _ k in
    gives_as _ _ _ _ _ _ _ c.in-Not.is (not_built _ _ _ _ _ _ _ k (c.width-in-Not.ensures p.there p.formed) c.unary.ensures)

pub choose-requires : goal.choose-requires
choose-requires c =
    let k = asks_as _ _ _ _ _ c.in-Mux.is c.requires in
    let p = mux_choice _ _ _ _ _ _ k in
    mux_asks _ _ _ _ _ _ _ k (c.width-in-Mux.ensures p.both.a_ok.there p.both.a_ok.formed)

pub returns-in-Mux : goal.returns-in-Mux
returns-in-Mux c =
    let k = asks_as _ _ _ _ _ c.in-Mux.is c.requires in
    let p = mux_choice _ _ _ _ _ _ k in
    gives_as _ _ _ _ _ _ _ c.in-Mux.is (mux_built _ _ _ _ _ _ _ _ _ k (c.width-in-Mux.ensures p.both.a_ok.there p.both.a_ok.formed) c.choose.ensures)

pub push-requires : goal.push-requires
push-requires c =
    let k = asks_as _ _ _ _ _ c.in-Constant.is c.requires in
    record { callable = search rules; room = constant_room _ _ _ _ _ k }

pub returns-in-Constant : goal.returns-in-Constant
returns-in-Constant c =
    let k = asks_as _ _ _ _ _ c.in-Constant.is c.requires in
    gives_as _ _ _ _ _ _ _ c.in-Constant.is (constant_built _ _ _ _ _ _ _ k (c.push.ensures _ (λ j x h p. search (rules, p))))

pub returns-in-Slice : goal.returns-in-Slice
returns-in-Slice c =
    let k = asks_as _ _ _ _ _ c.in-Slice.is c.requires in
    gives_as _ _ _ _ _ _ _ c.in-Slice.is (slice_built _ _ _ _ _ _ _ _ k c.bus.ensures c.slice.ensures)

pub returns-in-Concat : goal.returns-in-Concat
returns-in-Concat c =
    let k = asks_as _ _ _ _ _ c.in-Concat.is c.requires in
    let p = concat_joined _ _ _ _ _ k in
    gives_as _ _ _ _ _ _ _ c.in-Concat.is (concat_built _ _ _ _ _ _ _ _ _ k (c.width-in-Concat.ensures p.b_ok.there p.b_ok.formed) c.bus-in-Concat.ensures c.bus-in-Concat-2.ensures c.above.ensures)

pub returns-in-Input : goal.returns-in-Input
returns-in-Input c =
    let k = asks_as _ _ _ _ _ c.in-Input.is c.requires in
    gives_as _ _ _ _ _ _ _ c.in-Input.is (input_built _ _ _ _ _ _ k (omega arith) c.input_start.ensures c.inputs.ensures)

pub returns-in-Register : goal.returns-in-Register
returns-in-Register c =
    let k = asks_as _ _ _ _ _ c.in-Register.is c.requires in
    gives_as _ _ _ _ _ _ _ c.in-Register.is (register_built _ _ _ _ _ _ k c.register_start.ensures (omega (arith, c.requires.room)) c.cells.ensures)
