-- Which refusal of a tick comes first.
use Rattle.std.proofs.Common.{◌≡◌, ℕ, true, false, eqb, ◌⊎◌, List, length, Some, None, sym, refl, ap, ◌∙◌, subst}
use Rattle.std.proofs.lemmas.Bool.{ne_eqb, eq-eqb}
use Rattle.design.specs.declared.refusal.Refusal.{Refusal}
use Rattle.design.specs.declared.refusal.Refusal.TheVariants.{BitsLength, HeldLength, PadsLength, OutputsLength}
use Rattle.fabric.specs.Fabrics.{Size, cell_count, Settles}
use Rattle.fabric.specs.Numbers.{room_length, pads_length, config_in, held_in, pads_in, size_refusal, tick_refusal, Ticks}
use Rattle.fabric.specs.Ticks.{TickSays}
use Rattle.fabric.specs.declared.ticking.Done.{Done}
use Rattle.fabric.specs.declared.ticking.Done.TheVariants.{Ticked, Restless, Turned}

pub size_refused : (z : Size) (bits held pads outs : List ℕ) (f : Refusal) → size_refusal z ≡ Some f → tick_refusal z bits held pads outs ≡ Some f
unfolding tick_refusal
size_refused z bits held pads outs f e = simp e

module _ (z y : Size) (bits held pads outs : List ℕ) (s : size_refusal z ≡ None) (e : y ≡ z) where
  same_test : (n m : ℕ) (f : Size → ℕ) → m ≡ f y → n ≡ m → eqb n (f z) ≡ true
  same_test n m f g h = eq-eqb n (f z) (h ∙ (g ∙ ap f e))

  other_test : (n m : ℕ) (f : Size → ℕ) → m ≡ f y → (n ≡ m → ⊥) → eqb n (f z) ≡ false
  other_test n m f g h = ne_eqb n (f z) (λ i. h (i ∙ sym (g ∙ ap f e)))

  module _ (a : ℕ) (ra : a ≡ room_length y) where
    pub bits_refused : (length bits ≡ a → ⊥) → tick_refusal z bits held pads outs ≡ Some BitsLength
    unfolding tick_refusal
    bits_refused o = simp (s, other_test (length bits) a room_length ra o)

    module _ (ha : length bits ≡ a) (b : ℕ) (rb : b ≡ cell_count y) where
      pub held_refused : (length held ≡ b → ⊥) → tick_refusal z bits held pads outs ≡ Some HeldLength
      unfolding tick_refusal
      held_refused o = simp (s, same_test (length bits) a room_length ra ha, other_test (length held) b cell_count rb o)

      module _ (hb : length held ≡ b) (c : ℕ) (rc : c ≡ pads_length y) where
        pub pads_refused : (length pads ≡ c → ⊥) → tick_refusal z bits held pads outs ≡ Some PadsLength
        unfolding tick_refusal
        pads_refused o = simp (s, same_test (length bits) a room_length ra ha, same_test (length held) b cell_count rb hb, other_test (length pads) c pads_length rc o)

        module _ (hc : length pads ≡ c) (d : ℕ) (rd : d ≡ pads_length y) where
          pub outs_refused : (length outs ≡ d → ⊥) → tick_refusal z bits held pads outs ≡ Some OutputsLength
          unfolding tick_refusal
          outs_refused o =
              simp (
                s,
                same_test (length bits) a room_length ra ha,
                same_test (length held) b cell_count rb hb,
                same_test (length pads) c pads_length rc hc,
                other_test (length outs) d pads_length rd o,
              )

          pub none_refused : length outs ≡ d → tick_refusal z bits held pads outs ≡ None
          unfolding tick_refusal
          none_refused o =
              simp (
                s,
                same_test (length bits) a room_length ra ha,
                same_test (length held) b cell_count rb hb,
                same_test (length pads) c pads_length rc hc,
                same_test (length outs) d pads_length rd o,
              )

-- What a tick that isn't turned away says.
abbrev pub Plays : Size → (bits held pads outs : List ℕ) → Done → (held₁ outs₁ : List ℕ) → Type 0
Plays z bits held pads outs r held₁ outs₁ =
    ((r ≡ Ticked) × Ticks z (config_in z bits) held pads outs held₁ outs₁)
    ⊎ ((r ≡ Restless) × (held₁ ≡ held) × (outs₁ ≡ outs) × (Settles z (config_in z bits) (held_in held) (pads_in z pads) → ⊥))

pub played : (z y : Size) (bits held pads outs : List ℕ) (r : Done) (held₁ outs₁ : List ℕ) → tick_refusal z bits held pads outs ≡ None → y ≡ z →
    Plays y bits held pads outs r held₁ outs₁ → TickSays z bits held pads outs r held₁ outs₁
played z y bits held pads outs r held₁ outs₁ e f h = rw e (subst (λ w. Plays w bits held pads outs r held₁ outs₁) f h)

pub turned_away : (z : Size) (bits held pads outs : List ℕ) (f : Refusal) → tick_refusal z bits held pads outs ≡ Some f →
    TickSays z bits held pads outs (Turned f) held outs
turned_away z bits held pads outs f e = rw e (refl, refl, refl)
