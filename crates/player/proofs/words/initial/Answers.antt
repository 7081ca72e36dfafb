use Rattle.std.proofs.Common.{◌≡◌, ℕ, min, Ok, map, sym, ◌∙◌, arith, rules, IfOk, vec_items}
use Rattle.std.proofs.lemmas.Iterator.{YieldsList-from_range, YieldsList-from_map, items_from_collect}
use Rattle.std.specs.List.{range_with_len}
use Rattle.design.specs.Designs.{number}
use Rattle.design.specs.Encodings.{list_of, design_of}
use Rattle.design.proofs.Sound.{registers_in}
use Rattle.player.proofs.Listing.{lists_map, lists_end}
use Rattle.player.proofs.Ticking.{first_words}
use Rattle.player.proofs.Failing.{no_memory}
use Rattle.player.proofs.words.initial.Goals as goal

pub returns : goal.returns
returns c = λ sound.
    let d = design_of c.args.design in
    let at : ℕ → ℕ = λ k. number (min (d.register_width k) 64) (d.initial k) in
    let n = c.registers.result in
    let count : n ≡ d.registers = c.registers.ensures ∙ sym (registers_in (list_of c.args.design)) in
    let all : IfOk c.collect.result (λ words. vec_items words ≡ map at (range_with_len 0 n)) =
    items_from_collect c.collect.result c.collect.ensures.ran
    (YieldsList-from_map _ at (YieldsList-from_range 0 n n c.map.ensures.source (omega arith)) c.map.ensures.closure (λ x r q k. search rules)) in
    let was : c.collect.result ≡ Ok c.in_ok-words.words = c.in_ok-words.was in
    first_words d sound _ (lists_end n d.registers at _ count (lists_map n at _ (rw was at all)))

pub returns-in_err-words : goal.returns-in_err-words
returns-in_err-words c = no_memory _ c.from_residual.result c.from_residual.ensures.1
