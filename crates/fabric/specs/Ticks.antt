-- What `tick` answers and leaves behind, as a function of the numbers that it is lent.
-- A reader has to believe these definitions. They assume nothing.
use Rattle.std.specs.Prelude.{◌≡◌, ℕ, ◌⊎◌, List, MatchOption}
use Rattle.fabric.specs.Fabrics.{Size, Settles}
use Rattle.fabric.specs.Numbers.{config_in, held_in, pads_in, tick_refusal, Ticks}
use Rattle.fabric.specs.declared.ticking.Done.{Done}
use Rattle.fabric.specs.declared.ticking.Done.TheVariants.{Ticked, Restless, Turned}

-- turned away: the first refusal that applies, and nothing lent changes; else ticked, with what the cells then hold and the tracks carry,
-- where the fabric settles; else restless, and nothing lent changes
abbrev pub TickSays : Size → (bits held pads outs : List ℕ) → Done → (held₁ outs₁ : List ℕ) → Type 0
TickSays z bits held pads outs r held₁ outs₁ =
    MatchOption (tick_refusal z bits held pads outs)
    (((r ≡ Ticked) × Ticks z (config_in z bits) held pads outs held₁ outs₁)
    ⊎ ((r ≡ Restless) × (held₁ ≡ held) × (outs₁ ≡ outs) × (Settles z (config_in z bits) (held_in held) (pads_in z pads) → ⊥)))
    (λ f. (r ≡ Turned f) × (held₁ ≡ held) × (outs₁ ≡ outs))
