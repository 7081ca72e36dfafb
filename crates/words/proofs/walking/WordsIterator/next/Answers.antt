use Rattle.std.proofs.Common.{refl, ◌≡◌, length, arith}
use Rattle.std.proofs.lemmas.Bool.Decides.{nat_tests}
use Rattle.words.proofs.Walks.{next_word, no_word}
use Rattle.words.proofs.walking.WordsIterator.next.Goals as goal

pub returns-then-is_empty-clause-steps : goal.returns-then-is_empty-clause-steps
returns-then-is_empty-clause-steps c =
    let none : length c.trim_start_matches-text.result.now ≡ 0 = grind (arith, nat_tests) in
    (no_word c.args.self.now.rest.now c.trim_start_matches-text.result.now none c.trim_start_matches-text.ensures.matches, none)

pub returns-clause-steps : goal.returns-clause-steps
returns-clause-steps c =
    next_word c.args.self.now.rest.now c.trim_start_matches-text.result _ c.split_once.result c.unwrap_or.result c.unwrap_or.ensures refl (grind (arith, nat_tests)) c.trim_start_matches-text.ensures.bound
    c.trim_start_matches-text.ensures.matches c.split_once.ensures.cases
