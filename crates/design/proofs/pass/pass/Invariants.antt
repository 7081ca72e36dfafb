use Rattle.std.proofs.Common.{◌≡◌, length}
use Rattle.design.specs.Numbers.{nodes_of, expr_at, design_in}
use Rattle.design.specs.Summaries.{Known}
use Rattle.design.proofs.pass.pass.Given as goal

abbrev pub invariant-loop-n : goal.invariant-loop-n
invariant-loop-n l = (length l.known ≡ 1024)
    × Known (design_in l.design.numbers.now) (expr_at l.design.numbers.now (nodes_of l.design.numbers.now)) l.n l.known
