use Rattle.std.proofs.Common.{rules, tests, arith}
use Rattle.std.specs.Char.{is_ascii_digit}
use Rattle.std.proofs.lemmas.Iterator.Adapters.{YieldsList-from_bytes}
use Rattle.std.proofs.lemmas.Iterator.Search.{all_from_yields_List}
use Rattle.words.proofs.Digits.{told}
use Rattle.words.proofs.numbers.is_decimal.Goals as goal

pub returns-then-not-is_empty : goal.returns-then-not-is_empty
returns-then-not-is_empty c =
    let bytes = YieldsList-from_bytes c.args.word.now c.bytes.ensures.rest in
    told c.all.result c.args.word.now (all_from_yields_List is_ascii_digit _ _ _ c.all.ensures.ran bytes (λ x b q k. search (rules, tests))) (grind arith)
