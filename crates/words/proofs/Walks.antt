-- The lines of a text and the words of a line, one after another.
use Rattle.std.proofs.Common.{zero, suc, inl, inr, ◌≡◌, ℕ, ◌+◌, ◌<◌, ◌≤◌, ◌≢◌, MatchOption, List, [], ◌∷◌, ◌++◌, length, get_or, take, map, filter, length-append, lit<, Option, Some, None, IfSome, sym, refl, ap, subst, ◌∙◌, arith}
use Rattle.std.specs.Borrow.{Bor}
use Rattle.std.specs.List.{join_with_byte}
use Rattle.std.specs.Iterator.{Yields}
use Rattle.std.specs.Iterator.Adapters.{enumerate_source, enumerate_count, enumerate_steps}
use Rattle.std.specs.declared.iter.Enumerate.{Enumerate}
use Rattle.std.specs.Option.{unwrap_or}
use Rattle.std.specs.Str.Iter.{LacksByte}
use Rattle.std.specs.Str.Pattern.{FindsCharPrefix, CutsPrefixes, IsFullyTrimmed, IsTrimStartMatches}
use Rattle.std.proofs.lemmas.Bool.{cases_eq}
use Rattle.std.proofs.lemmas.List.{append-nil, length-map}
use Rattle.std.proofs.lemmas.Bool.Decides.{nat_tests}
use Rattle.std.proofs.lemmas.Str.{encode_ascii}
use Rattle.std.proofs.lemmas.Str.Pattern.{drop_at_char, split_parts, IsSplitOnceResult}
use Rattle.words.proofs.Ends.{nothing, lacks_nothing}
use Rattle.words.specs.Cuts.{texts, Pieces, line_count, some_byte, Lines, Words, NextLine, NextWord}
use Rattle.words.specs.declared.walking.Lines.{Lines as LinesLeft}
use Rattle.words.specs.declared.walking.Words.{Words as WordsLeft}

lack_one : (c : ℕ) (p : Bor (List ℕ)) → LacksByte c p.now → (k : ℕ) (d : Bor (List ℕ)) → k < length (p ∷ []) → LacksByte c (get_or (p ∷ []) k d).now
lack_one c p h zero d l = h
lack_one c p h (suc k) d l = absurd (omega arith)

lack_more : (c : ℕ) (p : Bor (List ℕ)) (ps : List (Bor (List ℕ))) → LacksByte c p.now → ((k : ℕ) (d : Bor (List ℕ)) → k < length ps → LacksByte c (get_or ps k d).now) →
    (k : ℕ) (d : Bor (List ℕ)) → k < length (p ∷ ps) → LacksByte c (get_or (p ∷ ps) k d).now
lack_more c p ps h all zero d l = h
lack_more c p ps h all (suc k) d l = all k d (omega arith)

one_piece : (c : ℕ) (p : Bor (List ℕ)) → LacksByte c p.now → Pieces c p.now (p ∷ [])
one_piece c p h = record { whole = refl; lack = lack_one c p h }

more_pieces : (c : ℕ) (rest : List ℕ) (p q : Bor (List ℕ)) (ps : List (Bor (List ℕ))) → LacksByte c p.now → Pieces c rest (q ∷ ps) → Pieces c (p.now ++ (c ∷ rest)) (p ∷ q ∷ ps)
more_pieces c rest p q ps h cut = record { whole = ap (λ (t : List ℕ). p.now ++ (c ∷ t)) cut.whole; lack = lack_more c p (q ∷ ps) h cut.lack }

-- pieces that are none are an empty one too
no_pieces : (c : ℕ) (rest : List ℕ) → Pieces c rest [] → Pieces c rest (nothing ∷ [])
no_pieces c rest cut = record { whole = cut.whole; lack = lack_one c nothing (lacks_nothing c) }

-- ---- each text has pieces, lines and words
record SomePieces (c : ℕ) (text : List ℕ) : Type 0 where
  first : Bor (List ℕ)
  others : List (Bor (List ℕ))
  cut : Pieces c text (first ∷ others)

abbrev longer : ℕ → Bor (List ℕ) → Bor (List ℕ)
longer b p = record { ref_ptr = (0, 0); now = b ∷ p.now }

lacks_longer : (c b : ℕ) (bs : List ℕ) → b ≢ c → LacksByte c bs → LacksByte c (b ∷ bs)
lacks_longer c b bs n h zero l = n
lacks_longer c b bs n h (suc k) l = h k (omega arith)

longer_pieces : (c b : ℕ) (text : List ℕ) (p : Bor (List ℕ)) (ps : List (Bor (List ℕ))) → b ≢ c → Pieces c text (p ∷ ps) → Pieces c (b ∷ text) (longer b p ∷ ps)
longer_pieces c b text p [] n cut = record { whole = ap (λ (t : List ℕ). b ∷ t) cut.whole; lack = lack_one c (longer b p) (lacks_longer c b p.now n (cut.lack 0 nothing (omega arith))) }
longer_pieces c b text p (q ∷ ps) n cut = record {
  whole = ap (λ (t : List ℕ). b ∷ t) cut.whole;
  lack = lack_more c (longer b p) (q ∷ ps) (lacks_longer c b p.now n (cut.lack 0 nothing (omega arith))) (λ k d l. cut.lack (suc k) d (omega arith));
}

some_more : (c b : ℕ) (text : List ℕ) → SomePieces c text → SomePieces c (b ∷ text)
some_more c b text s = elim (cases_eq b c) [
  | inl e ↦ record {
    first = nothing;
    others = s.first ∷ s.others;
    cut = subst (λ (x : ℕ). Pieces c (x ∷ text) (nothing ∷ s.first ∷ s.others)) (sym e) (more_pieces c text nothing s.first s.others (lacks_nothing c) s.cut);
  }
  | inr n ↦ record { first = longer b s.first; others = s.others; cut = longer_pieces c b text s.first s.others n s.cut }
]

some_pieces : (c : ℕ) (text : List ℕ) → SomePieces c text
some_pieces c [] = record { first = nothing; others = []; cut = one_piece c nothing (lacks_nothing c) }
some_pieces c (b ∷ text) = some_more c b text (some_pieces c text)

pub some_lines : (text : List ℕ) → (ls : List (Bor (List ℕ))) × Lines text ls
some_lines text =
    let s = some_pieces 10 text in
    (take (line_count (s.first ∷ s.others)) (s.first ∷ s.others), record { pieces = s.first ∷ s.others; cut = s.cut; kept = refl })

-- ---- a line before others
one_more : (l q : Bor (List ℕ)) (ps : List (Bor (List ℕ))) → line_count (l ∷ q ∷ ps) ≡ suc (line_count (q ∷ ps))
one_more l q ps = grind (arith, nat_tests)

line_before : (rest : List ℕ) (l q : Bor (List ℕ)) (ps ls : List (Bor (List ℕ))) → LacksByte 10 l.now → Pieces 10 rest (q ∷ ps) → ls ≡ take (line_count (q ∷ ps)) (q ∷ ps) →
    Lines (l.now ++ (10 ∷ rest)) (l ∷ ls)
line_before rest l q ps ls lack cut kept = record {
  pieces = l ∷ q ∷ ps;
  cut = more_pieces 10 rest l q ps lack cut;
  kept = ap (λ (t : List (Bor (List ℕ))). l ∷ t) kept ∙ sym (ap (λ (n : ℕ). take n (l ∷ q ∷ ps)) (one_more l q ps));
}

line_more_of : (rest : List ℕ) (l : Bor (List ℕ)) (ps ls : List (Bor (List ℕ))) → LacksByte 10 l.now → Pieces 10 rest ps → ls ≡ take (line_count ps) ps → Lines (l.now ++ (10 ∷ rest)) (l ∷ ls)
line_more_of rest l [] ls lack cut kept = line_before rest l nothing [] ls lack (no_pieces 10 rest cut) kept
line_more_of rest l (q ∷ ps) ls lack cut kept = line_before rest l q ps ls lack cut kept

pub line_more : (rest : List ℕ) (l : Bor (List ℕ)) (ls : List (Bor (List ℕ))) → LacksByte 10 l.now → Lines rest ls → Lines (l.now ++ (10 ∷ rest)) (l ∷ ls)
line_more rest l ls lack h = line_more_of rest l h.pieces ls lack h.cut h.kept

-- nothing has no lines
none_kept : (ps : List (Bor (List ℕ))) → [] ≡ join_with_byte 10 (texts ps) → take (line_count ps) ps ≡ []
none_kept [] e = refl
none_kept (p ∷ []) e = grind (arith, nat_tests, ap length e)
none_kept (p ∷ q ∷ ps) e = absurd (omega (arith, length-append p.now (10 ∷ join_with_byte 10 (texts (q ∷ ps))), ap length e))

one_kept : (l : Bor (List ℕ)) → 0 < length l.now → take (line_count (l ∷ [])) (l ∷ []) ≡ l ∷ []
one_kept l h = grind (arith, nat_tests)

pub line_last : (l : Bor (List ℕ)) (ls : List (Bor (List ℕ))) → LacksByte 10 l.now → 0 < length l.now → Lines [] ls → Lines l.now (l ∷ ls)
line_last l ls lack some h = record {
  pieces = l ∷ [];
  cut = one_piece 10 l lack;
  kept = ap (λ (t : List (Bor (List ℕ))). l ∷ t) (h.kept ∙ none_kept h.pieces h.cut.whole) ∙ sym (one_kept l some);
}

-- ---- a word before others
pub no_words : Words [] []
no_words = record { pieces = nothing ∷ []; cut = one_piece 32 nothing (lacks_nothing 32); kept = refl }

kept_first : (w : Bor (List ℕ)) (ps : List (Bor (List ℕ))) → 0 < length w.now → filter some_byte (w ∷ ps) ≡ w ∷ filter some_byte ps
kept_first w ps h = grind (arith, nat_tests)

word_more_of : (rest : List ℕ) (w : Bor (List ℕ)) (ps ws : List (Bor (List ℕ))) → LacksByte 32 w.now → 0 < length w.now → Pieces 32 rest ps → ws ≡ filter some_byte ps → Words (w.now ++ (32 ∷ rest)) (w ∷ ws)
word_more_of rest w [] ws lack some cut kept = record {
  pieces = w ∷ nothing ∷ [];
  cut = more_pieces 32 rest w nothing [] lack (no_pieces 32 rest cut);
  kept = ap (λ (t : List (Bor (List ℕ))). w ∷ t) kept ∙ sym (kept_first w (nothing ∷ []) some);
}
word_more_of rest w (q ∷ ps) ws lack some cut kept = record {
  pieces = w ∷ q ∷ ps;
  cut = more_pieces 32 rest w q ps lack cut;
  kept = ap (λ (t : List (Bor (List ℕ))). w ∷ t) kept ∙ sym (kept_first w (q ∷ ps) some);
}

pub word_more : (rest : List ℕ) (w : Bor (List ℕ)) (ws : List (Bor (List ℕ))) → LacksByte 32 w.now → 0 < length w.now → Words rest ws → Words (w.now ++ (32 ∷ rest)) (w ∷ ws)
word_more rest w ws lack some h = word_more_of rest w h.pieces ws lack some h.cut h.kept

-- nothing has no words
none_stand : (ps : List (Bor (List ℕ))) → [] ≡ join_with_byte 32 (texts ps) → filter some_byte ps ≡ []
none_stand [] e = refl
none_stand (p ∷ []) e = grind (arith, nat_tests, ap length e)
none_stand (p ∷ q ∷ ps) e = absurd (omega (arith, length-append p.now (32 ∷ join_with_byte 32 (texts (q ∷ ps))), ap length e))

pub word_last : (w : Bor (List ℕ)) (ws : List (Bor (List ℕ))) → LacksByte 32 w.now → 0 < length w.now → Words [] ws → Words w.now (w ∷ ws)
word_last w ws lack some h = record {
  pieces = w ∷ [];
  cut = one_piece 32 w lack;
  kept = ap (λ (t : List (Bor (List ℕ))). w ∷ t) (h.kept ∙ none_stand h.pieces h.cut.whole) ∙ sym (kept_first w [] some);
}

-- ---- spaces before words
space_more_of : (rest : List ℕ) (ps ws : List (Bor (List ℕ))) → Pieces 32 rest ps → ws ≡ filter some_byte ps → Words (32 ∷ rest) ws
space_more_of rest [] ws cut kept = record { pieces = nothing ∷ nothing ∷ []; cut = more_pieces 32 rest nothing nothing [] (lacks_nothing 32) (no_pieces 32 rest cut); kept = kept }
space_more_of rest (q ∷ ps) ws cut kept = record { pieces = nothing ∷ q ∷ ps; cut = more_pieces 32 rest nothing q ps (lacks_nothing 32) cut; kept = kept }

space_more : (rest : List ℕ) (ws : List (Bor (List ℕ))) → Words rest ws → Words (32 ∷ rest) ws
space_more rest ws h = space_more_of rest h.pieces ws h.cut h.kept

spaces_more : (ns line rest : List ℕ) → CutsPrefixes (FindsCharPrefix 32) line ns rest → (ws : List (Bor (List ℕ))) → Words rest ws → Words line ws
spaces_more [] line rest e ws h = subst (λ (t : List ℕ). Words t ws) e h
spaces_more (n ∷ ns) line rest (m, cuts, finds, e) ws h =
    let space : m ≡ 32 ∷ rest = drop_at_char 32 m 0 n finds (lit< tt) ∙ ap (λ (t : List ℕ). 32 ∷ t) (sym e) in
    spaces_more ns line m cuts ws (subst (λ (t : List ℕ). Words t ws) (sym space) (space_more rest ws h))

-- ---- what a loop has gone over, and what is left
pub lines_so_far : (s t : LinesLeft) (xs : List (Bor (List ℕ))) → Yields (λ a r b. NextLine a.rest.now r b.rest.now) s xs t →
    (ls : List (Bor (List ℕ))) → Lines t.rest.now ls → Lines s.rest.now (xs ++ ls)
lines_so_far s t [] y ls h = subst (λ (a : LinesLeft). Lines a.rest.now ls) (sym y) h
lines_so_far s t (x ∷ xs) (j, step, y) ls h = step.0 (xs ++ ls) (lines_so_far j t xs y ls h)

pub words_so_far : (s t : WordsLeft) (xs : List (Bor (List ℕ))) → Yields (λ a r b. NextWord a.rest.now r b.rest.now) s xs t →
    (ws : List (Bor (List ℕ))) → Words t.rest.now ws → Words s.rest.now (xs ++ ws)
words_so_far s t [] y ws h = subst (λ (a : WordsLeft). Words a.rest.now ws) (sym y) h
words_so_far s t (x ∷ xs) (j, step, y) ws h = step.0 (xs ++ ws) (words_so_far j t xs y ws h)

-- ---- a text cut at its first newline
split_line : (text : List ℕ) (l rest : Bor (List ℕ)) → text ≡ l.now ++ (10 ∷ rest.now) → LacksByte 10 l.now → NextLine text (Some l) rest.now
split_line text l rest e lack =
    let long : length text ≡ length l.now + suc (length rest.now) = ap length e ∙ length-append l.now (10 ∷ rest.now) in
    ((λ ls h. subst (λ (t : List ℕ). Lines t (l ∷ ls)) (sym e) (line_more rest.now l ls lack h)), omega (arith, long), omega (arith, long))

whole_line : (l rest : Bor (List ℕ)) → rest.now ≡ [] → LacksByte 10 l.now → 0 < length l.now → NextLine l.now (Some l) rest.now
whole_line l rest e lack some =
    let none : length rest.now ≡ 0 = ap length e in
    ((λ ls h. line_last l ls lack some (subst (λ (t : List ℕ). Lines t ls) e h)), omega (arith, none), omega (arith, none))

next_line_of : (text none : Bor (List ℕ)) (r : Option (Bor (List ℕ) × Bor (List ℕ))) → none.now ≡ [] → 0 < length text.now →
    MatchOption r (LacksByte 10 text.now) (λ x. (text.now ≡ x.0.now ++ (10 ∷ x.1.now)) × LacksByte 10 x.0.now) → NextLine text.now (Some (unwrap_or r (text, none)).0) (unwrap_or r (text, none)).1.now
next_line_of text none None e some lack = whole_line text none e lack some
next_line_of text none (Some (l, rest)) e some (cut, lack) = split_line text.now l rest cut lack

pub next_line : (text none : Bor (List ℕ)) (r : Option (Bor (List ℕ) × Bor (List ℕ))) (u : Bor (List ℕ) × Bor (List ℕ)) → u ≡ unwrap_or r (text, none) → none.now ≡ [] → 0 < length text.now →
    IsSplitOnceResult 10 text.now r → NextLine text.now (Some u.0) u.1.now
next_line text none r u e n some cut = subst (λ (x : Bor (List ℕ) × Bor (List ℕ)). NextLine text.now (Some x.0) x.1.now) (sym e) (next_line_of text none r n some (split_parts 10 text.now r cut (lit< tt)))

-- ---- a line whose first byte is no space, cut at its first space
begun : (a b : List ℕ) → ((rest : List ℕ) → a ++ (32 ∷ b) ≢ 32 ∷ rest) → 0 < length a
begun [] b h = absurd (h b refl)
begun (x ∷ a) b h = omega arith

split_word : (text : List ℕ) (w rest : Bor (List ℕ)) → ((more : List ℕ) → text ≢ 32 ∷ more) → text ≡ w.now ++ (32 ∷ rest.now) → LacksByte 32 w.now → NextWord text (Some w) rest.now
split_word text w rest no_space e lack =
    let some : 0 < length w.now = begun w.now rest.now (λ more s. no_space more (e ∙ s)) in
    let long : length text ≡ length w.now + suc (length rest.now) = ap length e ∙ length-append w.now (32 ∷ rest.now) in
    ((λ ws h. subst (λ (t : List ℕ). Words t (w ∷ ws)) (sym e) (word_more rest.now w ws lack some h)), some, omega (arith, long))

whole_word : (w rest : Bor (List ℕ)) → rest.now ≡ [] → LacksByte 32 w.now → 0 < length w.now → NextWord w.now (Some w) rest.now
whole_word w rest e lack some =
    let none : length rest.now ≡ 0 = ap length e in
    ((λ ws h. word_last w ws lack some (subst (λ (t : List ℕ). Words t ws) e h)), some, omega (arith, none))

next_word_of : (text none : Bor (List ℕ)) (r : Option (Bor (List ℕ) × Bor (List ℕ))) → none.now ≡ [] → 0 < length text.now → ((more : List ℕ) → text.now ≢ 32 ∷ more) →
    MatchOption r (LacksByte 32 text.now) (λ x. (text.now ≡ x.0.now ++ (32 ∷ x.1.now)) × LacksByte 32 x.0.now) → NextWord text.now (Some (unwrap_or r (text, none)).0) (unwrap_or r (text, none)).1.now
next_word_of text none None e some no_space lack = whole_word text none e lack some
next_word_of text none (Some (w, rest)) e some no_space (cut, lack) = split_word text.now w rest no_space cut lack

-- what is trimmed of all its spaces doesn't begin with one
trimmed_of : (text : List ℕ) (o : Option ℕ) → FindsCharPrefix 32 text o → IfSome o (λ n. n ≡ 0) → (more : List ℕ) → text ≢ 32 ∷ more
trimmed_of text None h z more e = h more (e ∙ sym (ap (λ (t : List ℕ). t ++ more) (encode_ascii 32 (lit< tt))))
trimmed_of text (Some n) h z more e = absurd (omega (arith, h.ends, z))

trimmed : (text : List ℕ) → IsFullyTrimmed (FindsCharPrefix 32) text → (more : List ℕ) → text ≢ 32 ∷ more
trimmed text (o, h, z) = trimmed_of text o h z

pub next_word : (line : List ℕ) (text none : Bor (List ℕ)) (r : Option (Bor (List ℕ) × Bor (List ℕ))) (u : Bor (List ℕ) × Bor (List ℕ)) → u ≡ unwrap_or r (text, none) → none.now ≡ [] →
    0 < length text.now → length text.now ≤ length line → IsTrimStartMatches (FindsCharPrefix 32) line text.now → IsSplitOnceResult 32 text.now r → NextWord line (Some u.0) u.1.now
next_word line text none r u e n some shorter trim cut =
    let here : NextWord text.now (Some (unwrap_or r (text, none)).0) (unwrap_or r (text, none)).1.now = next_word_of text none r n some (trimmed text.now trim.1) (split_parts 32 text.now r cut (lit< tt)) in
    let there : NextWord text.now (Some u.0) u.1.now = subst (λ (x : Bor (List ℕ) × Bor (List ℕ)). NextWord text.now (Some x.0) x.1.now) (sym e) here in
    ((λ ws h. spaces_more trim.0.0 line text.now trim.0.1 (u.0 ∷ ws) (there.0 ws h)), there.1, omega (arith, there.2, shorter))

empty : (t : List ℕ) → length t ≡ 0 → t ≡ []
empty [] e = refl
empty (x ∷ t) e = absurd (omega (arith, e))

pub no_word : (line text : List ℕ) → length text ≡ 0 → IsTrimStartMatches (FindsCharPrefix 32) line text → Words line []
no_word line text e trim = spaces_more trim.0.0 line text trim.0.1 [] (subst (λ (t : List ℕ). Words t []) (sym (empty text e)) no_words)

-- ---- all of them
pub all_lines : (s t u : LinesLeft) (xs : List (Bor (List ℕ))) → Yields (λ a r b. NextLine a.rest.now r b.rest.now) s xs t → NextLine t.rest.now None u.rest.now → Lines s.rest.now xs
all_lines s t u xs y end = subst (λ (ls : List (Bor (List ℕ))). Lines s.rest.now ls) (append-nil xs) (lines_so_far s t xs y [] end.0)

pub all_words : (s t u : WordsLeft) (xs : List (Bor (List ℕ))) → Yields (λ a r b. NextWord a.rest.now r b.rest.now) s xs t → NextWord t.rest.now None u.rest.now → Words s.rest.now xs
all_words s t u xs y end = subst (λ (ws : List (Bor (List ℕ))). Words s.rest.now ws) (append-nil xs) (words_so_far s t xs y [] end.0)

-- ---- a loop over numbered lines
abbrev pub LineStep : LinesLeft → Option (Bor (List ℕ)) → LinesLeft → Type 0
LineStep a r b = NextLine a.rest.now r b.rest.now

pub numbered_so_far : (s t : Enumerate LinesLeft) (xs : List (ℕ × Bor (List ℕ))) → Yields (enumerate_steps LineStep) s xs t →
    ((ls : List (Bor (List ℕ))) → Lines (enumerate_source t).rest.now ls → Lines (enumerate_source s).rest.now (map (λ p. p.1) xs ++ ls)) × (enumerate_count t ≡ enumerate_count s + length xs)
numbered_so_far s t [] y = ((λ ls h. subst (λ (a : Enumerate LinesLeft). Lines (enumerate_source a).rest.now ls) (sym y) h), omega (arith, ap enumerate_count y))
numbered_so_far s t (x ∷ xs) (j, step, y) =
    let more = numbered_so_far j t xs y in
    ((λ ls h. step.0.0 (map (λ p. p.1) xs ++ ls) (more.0 ls h)), omega (arith, step.2, more.1))

-- a loop over the numbered lines of a text has gone over xs; line is its last one's number, and some follow
pub numbered_line : (text : List ℕ) (s t u : Enumerate LinesLeft) (xs : List (ℕ × Bor (List ℕ))) (x : ℕ × Bor (List ℕ)) → (enumerate_source s).rest.now ≡ text → enumerate_count s ≡ 0 →
    Yields (enumerate_steps LineStep) s xs t → enumerate_steps LineStep t (Some x) u → ((ls : List (Bor (List ℕ))) × Lines text (map (λ p. p.1) xs ++ (x.1 ∷ ls))) × (x.0 ≡ length xs)
numbered_line text s t u xs x e none y step =
    let far = numbered_so_far s t xs y in
    let others = some_lines (enumerate_source u).rest.now in
    ((others.0, subst (λ (a : List ℕ). Lines a (map (λ p. p.1) xs ++ (x.1 ∷ others.0))) e (far.0 (x.1 ∷ others.0) (step.0.0 others.0 others.1))), omega (arith, step.1, far.1, none))

pub numbered_in : (text : List ℕ) (s t u : Enumerate LinesLeft) (xs : List (ℕ × Bor (List ℕ))) (x : ℕ × Bor (List ℕ)) → (enumerate_source s).rest.now ≡ text → enumerate_count s ≡ 0 →
    Yields (enumerate_steps LineStep) s xs t → enumerate_steps LineStep t (Some x) u → (ls : List (Bor (List ℕ))) × Lines text ls × (x.0 < length ls)
numbered_in text s t u xs x e none y step =
    let at = numbered_line text s t u xs x e none y step in
    let gone : List (Bor (List ℕ)) = map (λ p. p.1) xs in
    (gone ++ (x.1 ∷ at.0.0), at.0.1, omega (arith, at.1, length-append gone (x.1 ∷ at.0.0), length-map xs (λ (p : ℕ × Bor (List ℕ)). p.1)))
