-- What a player plays and holds.
-- A reader has to believe these definitions. They assume nothing.
use Rattle.std.specs.Prelude.{ℕ, List, vec_items}
use Rattle.design.specs.Designs.{Design}
use Rattle.design.specs.Encodings.{design_of}
use Rattle.player.specs.declared.player.Player.{Player}

abbrev pub played : Player → Design
played p = design_of p.analysis.design

-- the numbers of its registers' words
abbrev pub held : Player → List ℕ
held p = vec_items p.words
