-- One piece after another.
use Rattle.std.proofs.Common.{ℕ, List, ◌++◌, string_bytes, Ok, Err, Result, ap, ◌∙◌, append_assoc}
use Rattle.std.specs.Prelude.{◌≡◌, IfOk, IsOkAnd}
use Rattle.pages.specs.declared.page.Page.{Page}
use Rattle.pages.specs.Growth.{Adds}

-- the same of two texts that may be lost
abbrev Grows : {S E : Type 0} → (S → List ℕ) → Result S E → Result S E → List ℕ → Type 0
Grows bytes p q words = IfOk q (λ after. IsOkAnd p (λ before. bytes after ≡ bytes before ++ words))

grows_then : {S E : Type 0} (bytes : S → List ℕ) (p q s : Result S E) (a b : List ℕ) → Grows bytes p q a → Grows bytes q s b → Grows bytes p s (a ++ b)
grows_then bytes p q (Err e) a b f g = tt
grows_then bytes p (Err e) (Ok z) a b f g = absurd g
grows_then bytes (Err e) (Ok y) (Ok z) a b f g = absurd f
grows_then bytes (Ok x) (Ok y) (Ok z) a b f g = g ∙ ap (λ (t : List ℕ). t ++ b) f ∙ append_assoc (bytes x) a b

pub adds_then : (p q s : Page) (a b : List ℕ) → Adds p q a → Adds q s b → Adds p s (a ++ b)
adds_then p q s a b f g = grows_then string_bytes p.text q.text s.text a b f g
