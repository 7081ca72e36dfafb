use Rattle.std.proofs.lemmas.Result.{err_from_is_err_and}
use Rattle.design.proofs.Reading.{not_refused}
use Rattle.netlist.proofs.Whole.{lowerable}
use Rattle.netlist.proofs.Refusing.{words_small, words_tracks, words_none}
use Rattle.netlist.proofs.lowering.lower_words.Goals as goal

pub returns-in_err-counts : goal.returns-in_err-counts
returns-in_err-counts c =
    let p = err_from_is_err_and c.from_residual.result c.from_residual.ensures.1 in
    rw (p.1, p.2) (words_small _ _ c.in_err-counts.ensures)

pub returns-then-counts-gt65535 : goal.returns-then-counts-gt65535
returns-then-counts-gt65535 c =
    let k = c.in_ok-counts.ensures in
    words_tracks _ _ k.0 k.1.tracks c.if-counts-gt65535.true

pub of_words-requires : goal.of_words-requires
of_words-requires c =
    let k = c.in_ok-counts.ensures in
    lowerable _ _ (not_refused _ c.args.design.readable) k.0 k.1.tracks c.if-counts-gt65535.false

pub returns : goal.returns
returns c =
    let k = c.in_ok-counts.ensures in
    (words_none _ _ k.0 k.1.tracks c.if-counts-gt65535.false, rw c.of_words.ensures at c.whole.ensures)
