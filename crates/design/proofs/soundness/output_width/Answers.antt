use Rattle.design.proofs.Sound.{output_wide}
use Rattle.design.proofs.soundness.output_width.Goals as goal

pub returns : goal.returns
returns c = λ l s. output_wide _ _ _ (c.output_summary.ensures l) s
