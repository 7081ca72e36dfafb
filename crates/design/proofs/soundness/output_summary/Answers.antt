use Rattle.std.proofs.Common.{arith}
use Rattle.design.specs.Encodings.{list_of}
use Rattle.design.proofs.Sound.{output_summary, outputs_in}
use Rattle.design.proofs.soundness.output_summary.Goals as goal

pub returns : goal.returns
returns c = λ l.
    let xs = list_of c.args.analysis.now.design in
    output_summary xs c.args.k c.output.result c.summary.result c.output.ensures.node
    (c.summary.ensures (c.output.ensures.named (omega (arith, l, outputs_in xs))))
