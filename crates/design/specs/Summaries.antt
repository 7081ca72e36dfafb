-- What a summary says of an expression. Only proofs and the contracts of inner functions use this.
use Rattle.std.specs.Prelude.{◌≡◌, ℕ, ◌<◌, min, true, List, slice_index_or}
use Rattle.design.specs.declared.summary.Summary.{Summary}
use Rattle.design.specs.Designs.{Design, Expr, width, well_formed, cells}

-- whether the expression is well-formed, and if so its width and its plain count of cells, capped
abbrev pub Summarizes : Design → Expr → Summary → Type 0
Summarizes d e s = (s.formed ≡ well_formed d e) × (well_formed d e ≡ true → s.width ≡ width d e) × (well_formed d e ≡ true → s.cells ≡ min 65536 (cells d e))

-- the summaries of the first n nodes
abbrev pub Known : Design → (ℕ → Expr) → ℕ → List Summary → Type 0
Known d e n known = (k : ℕ) (z : Summary) → k < n → Summarizes d (e k) (slice_index_or known k z)
