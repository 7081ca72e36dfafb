use Rattle.std.proofs.Common.{◌<◌, ◌∷◌, [], ◌++◌, ◌∙◌, ap, length, length-append, length-set, ℕ, List, Bor, IfSome, Option, Some, None, subst, sym, arith}
use Rattle.std.proofs.lemmas.List.{take_more_set}
use Rattle.words.specs.Cuts.{Words}
use Rattle.words.proofs.Walks.{all_words}
use Rattle.entries.specs.declared.entry.Entry.{Entry}
use Rattle.entries.specs.Lines.{LineSays, TextSays}
use Rattle.entries.proofs.lines.read_line.Goals as goal

said : (text : List ℕ) (ws : List (Bor (List ℕ))) (line : ℕ) (r : Option Entry) → Words text ws → IfSome r (λ e. LineSays ws line e) → IfSome r (λ e. TextSays text line e)
said text ws line None cut says = tt
said text ws line (Some e) cut says = record { words = ws; cut = cut; says = says }

pub returns : goal.returns
returns c =
    let all : Words c.args.text.now c.loop-word.yielded = subst (λ (text : List ℕ). Words text c.loop-word.yielded) (cc) (all_words _ c.loop-word.word-iterator c.next.new.self c.loop-word.yielded c.loop-word.yielded_by (rw c.in-None.is at c.next.ensures.steps)) in
    said c.args.text.now _ c.args.line c.read_entry.result (subst (λ (ws : List (Bor (List ℕ))). Words c.args.text.now ws) (sym c.loop-word.invariant.1) all) c.read_entry.ensures

pub loop-word-preserved : goal.loop-word-preserved
loop-word-preserved c =
    let far = c.loop-word.invariant in
    let fits : c.loop-word.count < length c.loop-word.words = grind (arith, far.2) in (
      omega (arith, far.0, length-append c.loop-word.yielded (c.in-Some.word ∷ [])),
      take_more_set c.loop-word.words c.loop-word.count c.in-Some.word fits ∙ ap (λ (ws : List (Bor (List ℕ))). ws ++ (c.in-Some.word ∷ [])) far.1,
      length-set c.loop-word.words c.loop-word.count c.in-Some.word ∙ far.2,
    )
