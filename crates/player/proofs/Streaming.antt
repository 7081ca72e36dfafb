-- Tick after tick: what was shown so far, and what the registers hold.
use Rattle.std.proofs.Common.{◌≡◌, ℕ, ◌+◌, ◌<◌, List, [], ◌∷◌, ◌++◌, map, length, get_or, sym, ap, ◌∙◌, subst, inl, inr, add-one, arith}
use Rattle.std.proofs.lemmas.Bool.{cases_eq}
use Rattle.std.proofs.lemmas.List.{length_push, get_or_push, get_or_append_left, get_or-map, map_push}
use Rattle.design.specs.Designs.{Design, eval, registers_after, output_at}
use Rattle.player.specs.Plays.{words_in, Holds, Shows, Ticks, before, Plays}

-- after t ticks
pub record Playing (d : Design) (stream : List (List ℕ)) (t : ℕ) (held : List ℕ) (shown : List (List ℕ)) : Type 0 where
  pub holds : Holds d (registers_after d (before stream t)) held
  pub plays : Plays d stream t shown

playing_none : (d : Design) (stream : List (List ℕ)) (held : List ℕ) (shown : List (List ℕ)) → Holds d d.initial held → shown ≡ [] → Playing d stream 0 held shown
unfolding registers_after
playing_none d stream held shown h e = record { holds = h; plays = rw e (record { long = omega arith; right = λ t l. absurd (omega arith) }) }

plays_push : (d : Design) (stream : List (List ℕ)) (t : ℕ) (shown : List (List ℕ)) (outs : List ℕ) → Plays d stream t shown →
    Shows d (output_at d (words_in (get_or stream t [])) (before stream t)) outs → Plays d stream (t + 1) (shown ++ outs ∷ [])
plays_push d stream t shown outs all here =
    let P : ℕ → List ℕ → Type 0 = λ u xs. Shows d (output_at d (words_in (get_or stream u [])) (before stream u)) xs in
    let ys = shown ++ outs ∷ [] in
    record {
      long = omega (arith, length_push shown outs, all.long);
      right = λ u l. elim (cases_eq u t) [
        | inl same ↦
            let Q : ℕ → Type 0 = λ i. P i (get_or ys i []) in
            subst Q (sym same) (subst (P t) (sym (get_or_push shown outs [] t all.long)) here)
        | inr other ↦ subst (P u) (sym (get_or_append_left shown (outs ∷ []) [] u (omega (arith, all.long)))) (all.right u (omega arith))
      ];
    }

next_holds : (d : Design) (stream : List (List ℕ)) (t : ℕ) (next : List ℕ) →
    Holds d (λ r. eval d (words_in (get_or stream t [])) (registers_after d (before stream t)) (d.next r)) next → Holds d (registers_after d (before stream (t + 1))) next
unfolding registers_after
next_holds d stream t next h = rw add-one h

playing_next : (d : Design) (stream : List (List ℕ)) (t : ℕ) (held next outs : List ℕ) (shown : List (List ℕ)) →
    Ticks d (get_or stream t []) held next outs → Playing d stream t held shown → Playing d stream (t + 1) next (shown ++ outs ∷ [])
unfolding output_at
playing_next d stream t held next outs shown ticked all =
    let done = ticked (registers_after d (before stream t)) all.holds in
    record { holds = next_holds d stream t next done.1; plays = plays_push d stream t shown outs all.plays done.0 }

-- the same of lists of values that have numbers
pub playing_more : {V : Type 0} (f : V → List ℕ) (d : Design) (stream : List V) (t : ℕ) (item : V) (inputs held next : List ℕ) (outs : V) (shown more : List V) →
    t < length stream → item ≡ get_or stream t item → inputs ≡ f item → Ticks d inputs held next (f outs) → more ≡ shown ++ outs ∷ [] →
    Playing d (map f stream) t held (map f shown) → Playing d (map f stream) (t + 1) next (map f more)
playing_more f d stream t item inputs held next outs shown more l is given ticked e all =
    let S = map f stream in
    let T : List ℕ → Type 0 = λ xs. Ticks d xs held next (f outs) in
    let P : List (List ℕ) → Type 0 = λ xs. Playing d S (t + 1) next xs in
    let here : inputs ≡ get_or S t [] = given ∙ ap f is ∙ sym (get_or-map f stream t item [] l) in
    let grown : map f shown ++ f outs ∷ [] ≡ map f more = sym (ap (map f) e ∙ map_push f shown outs) in
    subst P grown (playing_next d S t held next (f outs) (map f shown) (subst T here ticked) all)

pub playing_start : {V : Type 0} (f : V → List ℕ) (d : Design) (stream : List V) (held : List ℕ) (shown : List V) →
    Holds d d.initial held → shown ≡ [] → Playing d (map f stream) 0 held (map f shown)
playing_start f d stream held shown h e = playing_none d (map f stream) held (map f shown) h (ap (map f) e)

pub playing_end : (d : Design) (stream shown : List (List ℕ)) (held : List ℕ) (t n : ℕ) → t ≡ n → Playing d stream t held shown → Plays d stream n shown
playing_end d stream shown held t n e all = let P : ℕ → Type 0 = λ i. Plays d stream i shown in subst P e all.plays
