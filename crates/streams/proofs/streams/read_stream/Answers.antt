use Rattle.std.proofs.Common.{◌≡◌}
use Rattle.words.proofs.Walks.{all_lines}
use Rattle.streams.proofs.streams.read_stream.Goals as goal

pub returns : goal.returns
returns c =
    let all = all_lines c.into_iter-part-iterator.result c.loop-part.part-iterator c.next.new.self c.loop-part.yielded c.loop-part.yielded_by c.in-None.ensures.steps in
    let begun : c.into_iter-part-iterator.result.rest.now ≡ c.args.text.now = cc in
    (record { lines = c.loop-part.yielded; cut = rw begun at all; each = c.loop-part.invariant.each }, c.loop-part.invariant.counted)
