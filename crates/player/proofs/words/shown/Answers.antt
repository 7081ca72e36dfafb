use Rattle.std.proofs.Common.{◌≡◌, ℕ, Ok, get_or, map, sym, ◌∙◌, arith, rules, IfOk, vec_items}
use Rattle.std.proofs.lemmas.Iterator.{YieldsList-from_range, YieldsList-from_map, items_from_collect}
use Rattle.std.specs.List.{range_with_len}
use Rattle.design.specs.Numbers.{output_node}
use Rattle.design.specs.Encodings.{list_of, design_of}
use Rattle.design.proofs.Sound.{outputs_in}
use Rattle.player.proofs.Listing.{lists_map, lists_end}
use Rattle.player.proofs.Failing.{no_memory}
use Rattle.player.proofs.words.shown.Goals as goal

pub returns : goal.returns
returns c =
    let xs = list_of c.args.design in
    let at : ℕ → ℕ = λ k. get_or c.args.table.now (output_node xs k) 0 in
    let n = c.outputs.result in
    let count : n ≡ (design_of c.args.design).outputs = c.outputs.ensures ∙ sym (outputs_in xs) in
    let all : IfOk c.collect.result (λ words. vec_items words ≡ map at (range_with_len 0 n)) =
    items_from_collect c.collect.result c.collect.ensures.ran
    (YieldsList-from_map _ at (YieldsList-from_range 0 n n c.map.ensures.source (omega arith)) c.map.ensures.closure (λ x r q k. search rules)) in
    let was : c.collect.result ≡ Ok c.in_ok-words.words = c.in_ok-words.was in
    lists_end n (design_of c.args.design).outputs at _ count (lists_map n at _ (rw was at all))

pub returns-in_err-words : goal.returns-in_err-words
returns-in_err-words c = no_memory _ c.from_residual.result c.from_residual.ensures.1
