use Rattle.std.proofs.Common.{arith}
use Rattle.design.specs.Numbers.{nodes_of, node_expr}
use Rattle.design.specs.Encodings.{list_of, design_of}
use Rattle.design.proofs.Reading.{readable, not_refused}
use Rattle.design.proofs.Passing.{summary_read}
use Rattle.design.proofs.analysis.Analysis.summary.Goals as goal

pub returns : goal.returns
returns c = λ l.
    let self = c.args.self.now in
    let xs = list_of self.design in
    let h = readable xs (not_refused xs self.design.readable) in
    summary_read (design_of self.design) (node_expr xs) (nodes_of xs) self.known c.args.n c.at.result self.summarized (omega (arith, h.few, self.long)) c.at.ensures.inside l
