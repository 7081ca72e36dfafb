-- How a message begins.
use Rattle.std.specs.Prelude.{ℕ, List, ◌++◌, codes, decimal}
use Rattle.design.specs.Refusals.{number_of, place_of}
use Rattle.design.specs.declared.refusal.Refusal.{Refusal}
use Rattle.design.specs.declared.refusal.Refusal.TheVariants.{Text}
use Rattle.messages.specs.declared.trouble.Trouble.{Trouble}
use Rattle.messages.specs.declared.trouble.Trouble.TheVariants.{Bytes, Numbers, Listing, Stream, Size, Design}

-- refused N at PLACE:
abbrev pub head_text : (number place : ℕ) → List ℕ
head_text n p = codes "refused " ++ (decimal n ++ (codes " at " ++ (decimal p ++ codes ": ")))

abbrev pub refused_text : Refusal → List ℕ
refused_text r = head_text (number_of r) (place_of r)

abbrev pub refusal_in : Trouble → Refusal
refusal_in (Bytes of line) = Text line
refusal_in (Numbers line) = Text line.number
refusal_in (Listing line formed) = Text line.number
refusal_in (Stream line inputs) = Text line.number
refusal_in (Size refusal text) = refusal
refusal_in (Design refusal asked) = refusal
