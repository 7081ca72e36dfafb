-- The text of a listing.
use Rattle.std.specs.Prelude.{ℕ, List, ◌++◌, codes, decimal}
use Rattle.fabric.specs.declared.size.Size.{Size}

-- the first line: fabric ROWS COLUMNS TRACKS
abbrev pub size_text : Size → List ℕ
size_text z = codes "fabric " ++ (decimal z.rows ++ (codes " " ++ (decimal z.columns ++ (codes " " ++ (decimal z.tracks ++ codes "\n")))))
