use Rattle.std.proofs.Common.{◌≡◌, ℕ, List, [], ◌∷◌, Bor, Option, Some, None, refl, sym, subst}
use Rattle.std.specs.Option.{unwrap_or}
use Rattle.words.specs.Cuts.{NextLine}
use Rattle.words.proofs.Walks.{some_lines}
use Rattle.reading.specs.Faults.{FirstLine}
use Rattle.reading.proofs.lines.first_line.Goals as goal

first : (text after : List ℕ) (none : Bor (List ℕ)) (r : Option (Bor (List ℕ))) → none.now ≡ [] → NextLine text r after → FirstLine text (unwrap_or r none).now
first text after none None e step = ([], step.0, sym e)
first text after none (Some l) e step = let others = some_lines after in (l ∷ others.0, step.0 others.0 others.1, refl)

pub returns : goal.returns
returns c =
    let here : FirstLine c.new.result.rest.now c.unwrap_or.result.now = subst (λ (l : Bor (List ℕ)). FirstLine c.new.result.rest.now l.now) (sym c.unwrap_or.ensures) (first c.new.result.rest.now c.next.new.self.rest.now _ c.next.result refl c.next.ensures.steps) in
    subst (λ (text : List ℕ). FirstLine text c.unwrap_or.result.now) (cc) here
