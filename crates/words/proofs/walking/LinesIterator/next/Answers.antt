use Rattle.std.proofs.Common.{refl, arith}
use Rattle.std.proofs.lemmas.Bool.Decides.{nat_tests}
use Rattle.words.proofs.Walks.{next_line}
use Rattle.words.proofs.walking.LinesIterator.next.Goals as goal

pub returns-clause-steps : goal.returns-clause-steps
returns-clause-steps c = next_line c.args.self.now.rest _ c.split_once.result c.unwrap_or.result c.unwrap_or.ensures refl (grind (arith, nat_tests)) c.split_once.ensures.cases
