-- Sides by name.
use Rattle.std.specs.Prelude.{◌≡◌, ℕ, List, codes, Result, MatchResult, ◌≢◌}
use Rattle.fabric.specs.declared.parts.Side.{Side}
use Rattle.fabric.specs.declared.parts.Side.TheVariants.{Right, Below, Left, Above}
use Rattle.fabric.specs.declared.parts.NoSide.{NoSide}

-- how a side is written
abbrev pub side_word : Side → List ℕ
side_word Right = codes "right"
side_word Below = codes "below"
side_word Left = codes "left"
side_word Above = codes "above"

-- the side of that name, or that there is none
abbrev pub Names : List ℕ → Result Side NoSide → Type 0
Names word r = MatchResult r (λ s. word ≡ side_word s) (λ _. (s : Side) → word ≢ side_word s)
