use Rattle.std.proofs.Common.{arith}
use Rattle.design.proofs.Reading.{readable, not_refused}
use Rattle.design.proofs.encoded.Encoded.output.Goals as goal

pub returns : goal.returns
returns c =
    let h = readable _ (not_refused c.args.self.numbers.now c.args.self.readable) in
    record { node = c.output_node.ensures; named = λ l. omega (arith, h.outputs c.args.output l) }
