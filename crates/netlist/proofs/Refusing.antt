-- Why a design is not lowered.
use Rattle.std.proofs.Common.{◌≡◌, ℕ, ◌<◌, ◌≤◌, min, Bool, true, false, ltb, List, Some, None, Option, refl, arith}
use Rattle.std.specs.Option.{option_or}
use Rattle.std.specs.Bool.{then_some}
use Rattle.std.proofs.lemmas.Bool.{lt-ltb, le-ltb, ltb-false}
use Rattle.design.specs.declared.refusal.Refusal.{Refusal}
use Rattle.design.specs.declared.refusal.Refusal.TheVariants.{Cells, NetTracks}
use Rattle.design.specs.Designs.{Design, plain_cells, plain_tracks}
use Rattle.design.specs.Numbers.{design_in, soundness_refusal}
use Rattle.design.proofs.Reading.{neither}
use Rattle.netlist.specs.NotYet.{lowering_refusal}
use Rattle.netlist.specs.Lowerings.{small_refusal, lower_refusal, words_refusal}

-- the first refusals of three
or_some : (a b c : Option Refusal) (f : Refusal) → option_or a b ≡ Some f → option_or a (option_or b c) ≡ Some f
or_some (Some x) b c f h = h
or_some None (Some x) c f h = h
or_some None None c f h = absurd (let z : ◌≡◌ {A = ℕ} 0 1 = cc in omega arith)

or_none : (a b c : Option Refusal) → option_or a b ≡ None → option_or a (option_or b c) ≡ c
or_none (Some x) b c h = absurd (let z : ◌≡◌ {A = ℕ} 0 1 = cc in omega arith)
or_none None (Some x) c h = absurd (let z : ◌≡◌ {A = ℕ} 0 1 = cc in omega arith)
or_none None None c h = refl

when_none : (b : Bool) (f : Refusal) → then_some b f ≡ None → b ≡ false
when_none true f h = absurd (let z : ◌≡◌ {A = ℕ} 0 1 = cc in omega arith)
when_none false f h = refl

pub small_unsound : (d : Design) (f : Refusal) → soundness_refusal d ≡ Some f → small_refusal d ≡ Some f
unfolding small_refusal
small_unsound d f h = rw h refl

pub small_cells : (d : Design) (n : ℕ) → soundness_refusal d ≡ None → n ≡ min 65536 (plain_cells d) → 1024 < n → small_refusal d ≡ Some (Cells n)
unfolding small_refusal
small_cells d n s e h = let t : ltb 1024 (plain_cells d) ≡ true = lt-ltb 1024 (plain_cells d) (omega arith) in rw (s, t, e) refl

pub small_none : (d : Design) (n : ℕ) → soundness_refusal d ≡ None → n ≡ min 65536 (plain_cells d) → n ≤ 1024 → small_refusal d ≡ None
unfolding small_refusal
small_none d n s e h = let t : ltb 1024 (plain_cells d) ≡ false = le-ltb 1024 (plain_cells d) (omega arith) in rw (s, t) refl

-- a small design is sound, and has no more cells than that
pub small_says : (d : Design) → small_refusal d ≡ None → (soundness_refusal d ≡ None) × (plain_cells d ≤ 1024)
unfolding small_refusal
small_says d h =
    let p = neither (soundness_refusal d) (then_some (ltb 1024 (plain_cells d)) (Cells (min 65536 (plain_cells d)))) h in
    (p.0, ltb-false _ _ (when_none _ (Cells (min 65536 (plain_cells d))) p.1))

pub lower_small : (xs : List ℕ) (f : Refusal) → small_refusal (design_in xs) ≡ Some f → lower_refusal xs ≡ Some f
unfolding small_refusal lower_refusal
lower_small xs f h = or_some (soundness_refusal (design_in xs)) (then_some (ltb 1024 (plain_cells (design_in xs))) (Cells (min 65536 (plain_cells (design_in xs))))) (lowering_refusal xs) f h

pub lower_passes : (xs : List ℕ) → small_refusal (design_in xs) ≡ None → lower_refusal xs ≡ lowering_refusal xs
unfolding small_refusal lower_refusal
lower_passes xs h = or_none _ _ _ h

pub words_small : (xs : List ℕ) (f : Refusal) → small_refusal (design_in xs) ≡ Some f → words_refusal xs ≡ Some f
unfolding small_refusal words_refusal
words_small xs f h = or_some (soundness_refusal (design_in xs)) (then_some (ltb 1024 (plain_cells (design_in xs))) (Cells (min 65536 (plain_cells (design_in xs)))))
    (then_some (ltb 65535 (plain_tracks (design_in xs))) (NetTracks (min 65536 (plain_tracks (design_in xs))))) f h

words_passes : (xs : List ℕ) → small_refusal (design_in xs) ≡ None →
    words_refusal xs ≡ then_some (ltb 65535 (plain_tracks (design_in xs))) (NetTracks (min 65536 (plain_tracks (design_in xs))))
unfolding small_refusal words_refusal
words_passes xs h = or_none _ _ _ h

pub words_tracks : (xs : List ℕ) (t : ℕ) → small_refusal (design_in xs) ≡ None → t ≡ min 65536 (plain_tracks (design_in xs)) → 65535 < t → words_refusal xs ≡ Some (NetTracks t)
words_tracks xs t s e h =
    let b : ltb 65535 (plain_tracks (design_in xs)) ≡ true = lt-ltb 65535 (plain_tracks (design_in xs)) (omega arith) in
    rw (words_passes xs s, b, e) refl

pub words_none : (xs : List ℕ) (t : ℕ) → small_refusal (design_in xs) ≡ None → t ≡ min 65536 (plain_tracks (design_in xs)) → t ≤ 65535 → words_refusal xs ≡ None
words_none xs t s e h =
    let b : ltb 65535 (plain_tracks (design_in xs)) ≡ false = le-ltb 65535 (plain_tracks (design_in xs)) (omega arith) in
    rw (words_passes xs s, b) refl
