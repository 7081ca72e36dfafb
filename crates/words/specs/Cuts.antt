-- How a text is cut.
use Rattle.std.specs.Prelude.{◌≡◌, ℕ, ◌+◌, ◌-◌, ◌<◌, ◌≤◌, Bool, cond, ◌&&◌, List, [], ◌∷◌, Option, MatchOption, map, length, take, filter, ◌==◌, nat_lt, slice_index_or}
use Rattle.std.specs.Borrow.{Bor}
use Rattle.std.specs.Str.Iter.{LacksByte}
use Rattle.std.specs.List.{join_with_byte}

-- the bytes of each piece
abbrev pub texts : List (Bor (List ℕ)) → List (List ℕ)
texts ps = map (λ p. p.now) ps

-- no piece has the byte c, and with c between each two they are the text
pub record Pieces (c : ℕ) (text : List ℕ) (ps : List (Bor (List ℕ))) : Type 0 where
  pub whole : text ≡ join_with_byte c (texts ps)
  pub lack : (k : ℕ) (d : Bor (List ℕ)) → k < length ps → LacksByte c (slice_index_or ps k d).now

-- the piece at a place; past the end an empty one
abbrev pub piece_at : List (Bor (List ℕ)) → ℕ → List ℕ
piece_at ps at = (slice_index_or ps at (record { ref_ptr = (0, 0); now = [] })).now

-- how many of the pieces are lines: the last isn't if it is empty
abbrev pub line_count : List (Bor (List ℕ)) → ℕ
line_count ps = cond (nat_lt 0 (length ps) && length (piece_at ps (length ps - 1)) == 0) (length ps - 1) (length ps)

-- the lines of a text
pub record Lines (text : List ℕ) (ls : List (Bor (List ℕ))) : Type 0 where
  pub pieces : List (Bor (List ℕ))
  pub cut : Pieces 10 text pieces
  pub kept : ls ≡ take (line_count pieces) pieces

-- it has a byte at least
abbrev pub some_byte : Bor (List ℕ) → Bool
some_byte p = nat_lt 0 (length p.now)

-- the pieces between the spaces of a line, the empty ones left out
pub record Words (line : List ℕ) (ws : List (Bor (List ℕ))) : Type 0 where
  pub pieces : List (Bor (List ℕ))
  pub cut : Pieces 32 line pieces
  pub kept : ws ≡ filter some_byte pieces

-- the first line of a text comes and leaves what follows it, or the text has none; with the lines of what is left they are the lines of the text
abbrev pub NextLine : (before : List ℕ) → Option (Bor (List ℕ)) → (after : List ℕ) → Type 0
NextLine before r after = MatchOption r (Lines before [] × (length after ≡ 0))
    (λ l. ((ls : List (Bor (List ℕ))) → Lines after ls → Lines before (l ∷ ls)) × (length after < length before) × (length after + length l.now ≤ length before))

-- the same of the first word of a line, which isn't empty
abbrev pub NextWord : (before : List ℕ) → Option (Bor (List ℕ)) → (after : List ℕ) → Type 0
NextWord before r after = MatchOption r (Words before [] × (length after ≡ 0))
    (λ w. ((ws : List (Bor (List ℕ))) → Words after ws → Words before (w ∷ ws)) × (0 < length w.now) × (length after + length w.now ≤ length before))
