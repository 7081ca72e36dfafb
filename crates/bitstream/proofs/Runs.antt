-- What an implementation shows, played tick by tick.
use Rattle.std.proofs.Common.{◌≡◌, ℕ, zero, suc, ◌<◌, Bool, true, false, cond, eqb, List, refl, ap, ◌∙◌}
use Rattle.design.specs.Designs.{bit}
use Rattle.fabric.specs.Fabrics.{Size, cell_count, Config, Signals, Pads, lookup, sweep, swept, dark, enough, final, Settles, Agree, held_after}
use Rattle.fabric.specs.Numbers.{held_in, pads_in}
use Rattle.fabric.proofs.Sweeps.{agree_refl, agree_sym, agree_trans, agree_same_at, lookup_same, sweep_agrees}
use Rattle.bitstream.specs.Theorem.{Run, begin, tick, all_pads, RunsShow}

-- held bits that agree on the fabric's cells
abbrev HeldSame : Size → (g h : ℕ → Bool) → Type 0
HeldSame z g h = (c : ℕ) → c < cell_count z → g c ≡ h c

sweep_held : (z : Size) (b : Config) (g h : ℕ → Bool) (p : Pads) (s : Signals) → HeldSame z g h → Agree z (sweep z b g p s) (sweep z b h p s)
unfolding sweep
sweep_held z b g h p s e = record { cells = λ c l. ap (λ x. cond (b.holds c) x (lookup z b p s c)) (e c l); tracks = λ c s t l m. refl }

swept_held : (n : ℕ) (z : Size) (b : Config) (g h : ℕ → Bool) (p : Pads) (s : Signals) → HeldSame z g h → Agree z (swept n z b g p s) (swept n z b h p s)
unfolding swept
swept_held zero z b g h p s e = agree_refl z s
swept_held (suc n) z b g h p s e =
    agree_trans z (sweep z b g p (swept n z b g p s)) (sweep z b h p (swept n z b g p s)) (sweep z b h p (swept n z b h p s))
    (sweep_held z b g h p (swept n z b g p s) e) (sweep_agrees z b h p (swept n z b g p s) (swept n z b h p s) (swept_held n z b g h p s e))

final_held : (z : Size) (b : Config) (g h : ℕ → Bool) (p : Pads) → HeldSame z g h → Agree z (final z b g p) (final z b h p)
unfolding final
final_held z b g h p e = swept_held (enough z) z b g h p dark e

settles_held : (z : Size) (b : Config) (g h : ℕ → Bool) (p : Pads) → HeldSame z g h → Settles z b h p → Settles z b g p
settles_held z b g h p e s =
    let f = final_held z b g h p e in
    agree_trans z (sweep z b g p (final z b g p)) (sweep z b h p (final z b g p)) (final z b g p) (sweep_held z b g h p (final z b g p) e)
    (agree_trans z (sweep z b h p (final z b g p)) (sweep z b h p (final z b h p)) (final z b g p) (sweep_agrees z b h p (final z b g p) (final z b h p) f)
    (agree_trans z (sweep z b h p (final z b h p)) (final z b h p) (final z b g p) s (agree_sym z (final z b g p) (final z b h p) f)))

lookup_held : (z : Size) (b : Config) (g h : ℕ → Bool) (p : Pads) (c : ℕ) → c < cell_count z → HeldSame z g h → lookup z b p (final z b g p) c ≡ lookup z b p (final z b h p) c
lookup_held z b g h p c l e = lookup_same z b p (final z b g p) (final z b h p) c (λ i m. agree_same_at z (final z b g p) (final z b h p) (final_held z b g h p e) c l (b.input c i))

bit_held : (x : Bool) → eqb (bit x) 1 ≡ x
bit_held true = refl
bit_held false = refl

-- what the cells hold in a run
run_holds : (z : Size) (b : Config) (before : List (List ℕ)) (held : List ℕ) → Run z b before held → HeldSame z (held_in held) (held_after z b (all_pads z before))
unfolding held_after all_pads held_in
run_holds z b _ held (begin e) c l = e c l
run_holds z b _ _ (tick {before} {pads} {held} {outs} {held₁} {outs₁} r t) c l =
    ap (λ n. eqb n 1) (t.held_bits c l) ∙ bit_held _ ∙ lookup_held z b (held_in held) (held_after z b (all_pads z before)) (pads_in z pads) c l (run_holds z b before held r)

pub runs_show : RunsShow
runs_show d z b ins_at outs_at i before held pads is ins run driven drives =
    let same = run_holds z b before held run in
    let after = held_after z b (all_pads z before) in (
      settles_held z b (held_in held) after (pads_in z pads) same (i.settles is (all_pads z before) ins (pads_in z pads) driven drives),
      λ outs held₁ outs₁ t o k h l.
          let e = i.outs_edge o k h l in
          t.out_bits (outs_at o k).cell (outs_at o k).side (outs_at o k).track e.cell e.track
          ∙ ap bit ((final_held z b (held_in held) after (pads_in z pads) same).tracks (outs_at o k).cell (outs_at o k).side (outs_at o k).track e.cell e.track
          ∙ i.shows is (all_pads z before) ins (pads_in z pads) driven drives o k h l),
    )
