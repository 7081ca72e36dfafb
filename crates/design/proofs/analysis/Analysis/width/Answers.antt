use Rattle.design.proofs.analysis.Analysis.width.Goals as goal

pub returns : goal.returns
returns c = λ l f. (c.summary.ensures l).1 f
