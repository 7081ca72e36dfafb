use Rattle.std.proofs.Common.{◌≡◌, arith}
use Rattle.words.proofs.Walks.{all_words}
use Rattle.streams.proofs.streams.words_of.Goals as goal

pub returns : goal.returns
returns c =
    let all = all_words c.into_iter-word-iterator.result c.loop-word.word-iterator c.next.new.self c.loop-word.yielded c.loop-word.yielded_by c.in-None.ensures.steps in
    let begun : c.into_iter-word-iterator.result.rest.now ≡ c.args.text.now = cc in
    (rw c.loop-word.invariant.0 (rw begun at all), omega arith)
