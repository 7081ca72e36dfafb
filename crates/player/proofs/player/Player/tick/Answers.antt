use Rattle.std.proofs.Common.{ℕ, List, length, vec_items, sym, refl, ap, ◌∙◌, subst}
use Rattle.std.proofs.lemmas.List.{with_items_is}
use Rattle.design.specs.Numbers.{register_node}
use Rattle.design.specs.Encodings.{list_of, design_of}
use Rattle.design.proofs.Reading.{not_refused}
use Rattle.player.specs.Tables.{Tabled, Taken}
use Rattle.player.proofs.Ticking.{ticks}
use Rattle.player.proofs.player.Player.tick.Goals as goal

pub returns : goal.returns
returns c =
    let design = c.args.self.now.analysis.design in
    let xs = list_of design in
    let words = c.args.self.now.words in
    let table = c.table-known.result in
    let T : List ℕ → Type 0 = λ held. Tabled xs c.args.inputs.now held table in
    let N : List ℕ → Type 0 = λ next. Taken (design_of design).registers (register_node xs) table next in
    let long = with_items_is words c.advance.new.words (c.advance.auto.words ∙ c.as_mut_slice.ensures.len) in
    record {
      same = refl;
      cases = λ none regs h.
          ticks xs c.args.inputs.now (vec_items words) table (not_refused xs design.readable) none (subst T c.as_slice.ensures.value c.table-known.ensures)
          _ _ (subst N (sym long) (c.advance.ensures (ap length c.as_mut_slice.ensures.value ∙ h.long))) c.in_ok-shown.ensures regs h;
    }
