-- The lines of a text are the pieces that its newlines end.
use Rattle.std.proofs.Common.{◌≡◌, ℕ, ◌+◌, ◌-◌, ◌<◌, ◌⊎◌, List, [], ◌∷◌, ◌++◌, length, get_or, take, Ok, Err, Result, IfOk, sym, refl, ap, subst, inl, inr, ◌∙◌, append_assoc, length-append, arith, take_all}
use Rattle.std.specs.Borrow.{Bor}
use Rattle.std.specs.List.{join_with_byte}
use Rattle.std.specs.Str.Iter.{LacksByte}
use Rattle.std.proofs.lemmas.Bool.{cases_order}
use Rattle.std.proofs.lemmas.Bool.Decides.{nat_tests}
use Rattle.std.proofs.lemmas.List.{get_or_append_left}
use Rattle.std.proofs.Math.Seq.{get_or-append_seam, take-append_seam}
use Rattle.words.specs.Cuts.{texts, piece_at, line_count, Lines}

-- none has the byte c, which ends each of them but perhaps the last
pub record Ended (c : ℕ) (text : List ℕ) (ps : List (Bor (List ℕ))) : Type 0 where
  pub lack : (k : ℕ) (d : Bor (List ℕ)) → k < length ps → LacksByte c (get_or ps k d).now
  pub none : length ps ≡ 0 → length text ≡ 0
  pub whole : ((text ≡ join_with_byte c (texts ps)) × (0 < length ps → 0 < length (piece_at ps (length ps - 1)))) ⊎ (text ≡ join_with_byte c (texts ps) ++ (c ∷ []))

abbrev pub nothing : Bor (List ℕ)
nothing = record { ref_ptr = (0, 0); now = [] }

-- an empty piece more is the byte c more
join_more : (c : ℕ) (p : Bor (List ℕ)) (ps : List (Bor (List ℕ))) →
    join_with_byte c (texts ((p ∷ ps) ++ (nothing ∷ []))) ≡ join_with_byte c (texts (p ∷ ps)) ++ (c ∷ [])
join_more c p [] = refl
join_more c p (q ∷ ps) =
    ap (λ (t : List ℕ). p.now ++ (c ∷ t)) (join_more c q ps) ∙ sym (append_assoc p.now (c ∷ join_with_byte c (texts (q ∷ ps))) (c ∷ []))

pub lacks_nothing : (c : ℕ) → LacksByte c []
lacks_nothing c k l = absurd (omega arith)

lack_more : (c : ℕ) (ps : List (Bor (List ℕ))) → ((k : ℕ) (d : Bor (List ℕ)) → k < length ps → LacksByte c (get_or ps k d).now) →
    (k : ℕ) (d : Bor (List ℕ)) → k < length (ps ++ (nothing ∷ [])) → LacksByte c (get_or (ps ++ (nothing ∷ [])) k d).now
lack_more c ps all k d l =
    let P : Bor (List ℕ) → Type 0 = λ b. LacksByte c b.now in
    elim (cases_order k (length ps)) [
      | inl e ↦ subst P (sym (ap (λ (i : ℕ). get_or (ps ++ (nothing ∷ [])) i d) e ∙ get_or-append_seam ps nothing [] d)) (lacks_nothing c)
      | inr s ↦ elim s [
        | inl b ↦ subst P (sym (get_or_append_left ps (nothing ∷ []) d k b)) (all k d b)
        | inr b ↦ absurd (omega (arith, length-append ps (nothing ∷ [])))
      ]
    ]

-- all pieces are lines where the last isn't empty
all_lines : (ps : List (Bor (List ℕ))) → (0 < length ps → 0 < length (piece_at ps (length ps - 1))) → line_count ps ≡ length ps
all_lines ps h = grind (arith, nat_tests, h)

-- and all but the last where it is
but_last : (ps : List (Bor (List ℕ))) → line_count (ps ++ (nothing ∷ [])) ≡ length ps
but_last ps =
    let more : length (ps ++ (nothing ∷ [])) ≡ length ps + 1 = length-append ps (nothing ∷ []) in
    let last : piece_at (ps ++ (nothing ∷ [])) (length ps) ≡ [] = ap (λ (b : Bor (List ℕ)). b.now) (get_or-append_seam ps nothing [] nothing) in
    grind (arith, nat_tests, more, last)

pub lines_of : (text : List ℕ) (ps : List (Bor (List ℕ))) → Ended 10 text ps → Lines text ps
lines_of text [] h = elim h.whole [
  | inl w ↦ record { pieces = nothing ∷ []; cut = record { whole = w.0; lack = lack_more 10 [] h.lack }; kept = refl }
  | inr w ↦ absurd (omega (arith, h.none refl, ap length w))
]
lines_of text (p ∷ ps) h = elim h.whole [
  | inl w ↦ record {
    pieces = p ∷ ps;
    cut = record { whole = w.0; lack = h.lack };
    kept = sym (take_all (line_count (p ∷ ps)) (p ∷ ps) (omega (arith, all_lines (p ∷ ps) w.1)));
  }
  | inr w ↦ record {
    pieces = (p ∷ ps) ++ (nothing ∷ []);
    cut = record { whole = w ∙ sym (join_more 10 p ps); lack = lack_more 10 (p ∷ ps) h.lack };
    kept = sym (ap (λ (n : ℕ). take n ((p ∷ ps) ++ (nothing ∷ []))) (but_last (p ∷ ps)) ∙ take-append_seam (p ∷ ps) (nothing ∷ []));
  }
]

pub lines_in : {V E : Type 0} (items : V → List (Bor (List ℕ))) (text : List ℕ) (r : Result V E) →
    IfOk r (λ v. Ended 10 text (items v)) → IfOk r (λ v. Lines text (items v))
lines_in items text (Err e) h = tt
lines_in items text (Ok v) h = lines_of text (items v) h
