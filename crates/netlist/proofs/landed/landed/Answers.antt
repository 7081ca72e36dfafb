use Rattle.std.proofs.Common.{◌≡◌, true, sym}
use Rattle.std.proofs.lemmas.Bool.{or_left, or_right, or_from}
use Rattle.netlist.specs.NotYet.{wide}
use Rattle.netlist.proofs.LandedTests.{other_node, wide_words, all_landed}
use Rattle.netlist.proofs.landed.landed.Goals as goal
use Rattle.netlist.proofs.landed.landed.Goals.{then-wide_input-via-then-wide_input, then-wide_input-via-else-wide_input+then-wide_register}

pub returns-in-Some : goal.returns-in-Some
returns-in-Some c = other_node _ _ c.in-Some.ensures

pub returns-then-wide_input : goal.returns-then-wide_input
returns-then-wide_input c =
    let w : wide c.args.design.numbers.now ≡ true =
    elim c.then-wide_input.branch [
      | then-wide_input-via-then-wide_input w ↦ or_left _ _ (sym w.if-wide_input.ensures)
      | then-wide_input-via-else-wide_input+then-wide_register w ↦ or_right _ _ (sym w.if-wide_register.ensures)
    ] in
    wide_words _ _ c.in_default.ensures w c.nodes.ensures.count

pub returns : goal.returns
returns c = all_landed _ c.in_default.ensures (or_from _ _ (sym c.if-wide_input.ensures) (sym c.if-wide_register.ensures))
