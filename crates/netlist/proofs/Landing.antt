-- The lowering of designs of single bits: what is known when none is refused.
use Rattle.std.proofs.Common.{◌≡◌, ℕ, ◌<◌, ◌≤◌, min, Bool, true, false, List, is_some, Some, None, Option, refl, arith}
use Rattle.std.specs.Option.{option_map}
use Rattle.std.specs.Bool.{then_some}
use Rattle.std.proofs.lemmas.Bool.{or_parts, eqb-true, true≢false}
use Rattle.design.specs.declared.refusal.Refusal.{Refusal}
use Rattle.design.specs.declared.refusal.Refusal.TheVariants.{NotYet}
use Rattle.design.specs.Designs.{plain_cells}
use Rattle.design.specs.Numbers.{nodes_of, inputs_of, registers_of, first_failing, soundness_refusal, reading_refusal, design_in}
use Rattle.design.proofs.First.{first_none}
use Rattle.design.proofs.Reading.{neither}
use Rattle.design.proofs.Sound.{sound_from_none}
use Rattle.netlist.specs.NotYet.{node_landed, input_single, register_single, wide, lowering_refusal}
use Rattle.netlist.specs.Lowerings.{Lowerable, small_refusal, lower_refusal}
use Rattle.netlist.proofs.Refusing.{small_none, small_says, lower_passes}
use Rattle.netlist.proofs.Totals.{total_ones}

pub passes_on : (xs : List ℕ) (n : ℕ) → soundness_refusal (design_in xs) ≡ None → n ≡ min 65536 (plain_cells (design_in xs)) → n ≤ 1024 → lower_refusal xs ≡ lowering_refusal xs
passes_on xs n s e h = lower_passes xs (small_none (design_in xs) n s e h)

not_wide : (b : Bool) (f : Refusal) → then_some b f ≡ None → b ≡ false
not_wide true f h = absurd (let z : ◌≡◌ {A = ℕ} 0 1 = cc in omega arith)
not_wide false f h = refl

none_here : {X : Type 0} (o : Option X) → is_some o ≡ false → o ≡ None
none_here None h = refl
none_here (Some x) h = absurd (true≢false h)

-- every input has width 1
pub input_ones : (xs : List ℕ) → lowering_refusal xs ≡ None → (i : ℕ) → i < (design_in xs).inputs → (design_in xs).input_width i ≡ 1
unfolding lowering_refusal input_single design_in
input_ones xs l i h =
    let p = neither (option_map (λ n. NotYet n) (first_failing (node_landed xs) (nodes_of xs))) (then_some (wide xs) (NotYet (nodes_of xs))) l in
    let w = or_parts (is_some (first_failing (input_single xs) (inputs_of xs))) (is_some (first_failing (register_single xs) (registers_of xs))) (not_wide (wide xs) (NotYet (nodes_of xs)) p.1) in
    eqb-true _ 1 (first_none (input_single xs) (inputs_of xs) (none_here _ w.0) i h)

-- and so has every register
pub register_ones : (xs : List ℕ) → lowering_refusal xs ≡ None → (r : ℕ) → r < (design_in xs).registers → (design_in xs).register_width r ≡ 1
unfolding lowering_refusal register_single design_in
register_ones xs l r h =
    let p = neither (option_map (λ n. NotYet n) (first_failing (node_landed xs) (nodes_of xs))) (then_some (wide xs) (NotYet (nodes_of xs))) l in
    let w = or_parts (is_some (first_failing (input_single xs) (inputs_of xs))) (is_some (first_failing (register_single xs) (registers_of xs))) (not_wide (wide xs) (NotYet (nodes_of xs)) p.1) in
    eqb-true _ 1 (first_none (register_single xs) (registers_of xs) (none_here _ w.1) r h)

-- so an input's bit has its number
pub landed_lowerable : (xs : List ℕ) → reading_refusal xs ≡ None → small_refusal (design_in xs) ≡ None → lowering_refusal xs ≡ None → Lowerable xs
landed_lowerable xs r s l =
    let p = small_says (design_in xs) s in
    let ones = input_ones xs l in
    record {
      readable = r;
      sound = sound_from_none (design_in xs) p.0;
      few_cells = p.1;
      few_inputs = λ i small there. omega (arith, total_ones (design_in xs).input_width i (λ j b. ones j (omega arith)), ones i there);
    }
