use Rattle.std.proofs.Common.{arith}
use Rattle.netlist.proofs.Laying.{asked_small, first_call, second_call, third_call, build_call, done}
use Rattle.netlist.proofs.lowering.+lay.Goals as goal

pub lay-requires : goal.lay-requires
lay-requires t c =
    let p = first_call _ _ _ _ _ _ c.requires c.in-Some.is c.node-found.ensures.is c.operands_of.ensures in
    (omega (arith, p.0, c.decreases), p.1)

pub lay-requires-2 : goal.lay-requires-2
lay-requires-2 t c =
    let p = second_call _ _ _ _ _ _ c.requires c.in-Some.is c.node-found.ensures.is c.operands_of.ensures _ c.lay.ensures in
    (omega (arith, p.0, c.decreases), p.1)

pub lay-requires-3 : goal.lay-requires-3
lay-requires-3 t c =
    let p = third_call _ _ _ _ _ _ c.requires c.in-Some.is c.node-found.ensures.is c.operands_of.ensures _ c.lay.ensures _ c.lay-2.ensures in
    (omega (arith, p.0, c.decreases), p.1)

pub build-bus-requires : goal.build-bus-requires
build-bus-requires t c =
    build_call _ _ _ _ _ _ c.requires c.in-Some.is c.node-found.ensures.is c.operands_of.ensures _ c.lay.ensures _ c.lay-2.ensures _ c.lay-3.ensures

pub note-requires : goal.note-requires
note-requires t c = asked_small _ _ _ _ c.requires c.in-Some.is

pub returns : goal.returns
returns t c =
    done _ _ _ _ _ _ c.requires c.in-Some.is c.node-found.ensures.is c.operands_of.ensures _ c.lay.ensures _ c.lay-2.ensures _ c.lay-3.ensures
    _ _ _ c.build-bus.ensures c.note.ensures.room c.note.ensures.after
