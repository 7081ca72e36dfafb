use Rattle.std.proofs.Common.{ℕ, ◌<◌, List, length}
use Rattle.std.proofs.lemmas.Result.{err_from_is_err_and}
use Rattle.std.specs.Borrow.{Bor}
use Rattle.words.specs.Cuts.{Lines}
use Rattle.words.proofs.Walks.{numbered_in}
use Rattle.putting.specs.declared.unput.Unput.{Unput}
use Rattle.putting.specs.declared.unput.Unput.TheVariants.{Memory, Turned}
use Rattle.putting.specs.Refusing.{AtLine, Unreadable}
use Rattle.putting.proofs.numbers.numbers.Goals as goal

unreadable : (text : List ℕ) (line : ℕ) (u : Unput) → ((ls : List (Bor (List ℕ))) × Lines text ls × (line < length ls)) → AtLine line u → Unreadable text u
unreadable text line Memory at h = tt
unreadable text line (Turned refusal) at h = (at.0, at.1, (line, at.2, h))

pub returns-in_err-add_line : goal.returns-in_err-add_line
returns-in_err-add_line c =
    let p = err_from_is_err_and c.from_residual.result c.from_residual.ensures.1 in
    let at = numbered_in c.args.text.now _ c.loop-line.line-iterator c.next.new.self c.loop-line.yielded (c.in-Some.line, c.in-Some.part) (cc) (cc) c.loop-line.yielded_by c.in-Some.ensures.steps in
    rw (p.1, p.2) (unreadable c.args.text.now c.in-Some.line _ at c.in_err-add_line.ensures)
