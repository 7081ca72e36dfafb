-- What is added to a page.
use Rattle.std.specs.Prelude.{◌≡◌, ℕ, List, ◌++◌, string_bytes, IfOk, IsOkAnd}
use Rattle.pages.specs.declared.page.Page.{Page}

-- the page q is p with that text behind, unless something was lost
abbrev pub Adds : Page → Page → List ℕ → Type 0
Adds p q words = IfOk q.text (λ after. IsOkAnd p.text (λ before. string_bytes after ≡ string_bytes before ++ words))
