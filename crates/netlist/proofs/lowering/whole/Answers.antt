use Rattle.netlist.proofs.Whole.{registers_fit, registers_none, outputs_none, finished}
use Rattle.netlist.proofs.lowering.whole.Goals as goal

pub new-work-requires : goal.new-work-requires
new-work-requires c = registers_fit _ _ _ c.args.task.now.lowerable c.registers.ensures c.register_start-register_bits.ensures

pub lay_registers-requires : goal.lay_registers-requires
lay_registers-requires c =
    registers_none _ _ _ _ c.args.task.now.lowerable c.registers.ensures c.register_start-register_bits.ensures c.new-work.ensures.count c.new-work.ensures.none

pub lay_outputs-requires : goal.lay_outputs-requires
lay_outputs-requires c = outputs_none _ c.args.task.now.lowerable _ c.lay_registers.ensures

pub returns : goal.returns
returns c = finished _ _ c.new.result c.lay_outputs.ensures c.new.ensures.count c.new.ensures.cells c.new.ensures.outputs
