use Rattle.std.proofs.Common.{IfOk, vec_items, rules}
use Rattle.words.proofs.Ends.{Ended, lines_in}
use Rattle.words.proofs.cutting.lines.Goals as goal

pub returns : goal.returns
returns c =
    let ended : IfOk c.collect.result (λ v. Ended 10 c.args.text.now (vec_items v)) = search rules in
    lines_in vec_items c.args.text.now c.collect.result ended
