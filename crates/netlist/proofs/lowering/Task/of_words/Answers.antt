use Rattle.std.proofs.Common.{◌≡◌, ℕ, List, rules}
use Rattle.design.specs.Numbers.{inputs_of, registers_of, design_in}
use Rattle.netlist.specs.declared.starts.Starts.{Starts}
use Rattle.netlist.specs.Starts.{Marked}
use Rattle.netlist.proofs.lowering.Task.of_words.Goals as goal

inputs_marked : (xs : List ℕ) (s : Starts) (n : ℕ) → n ≡ inputs_of xs → Marked s n (design_in xs).input_width → Marked s (design_in xs).inputs (design_in xs).input_width
unfolding design_in
inputs_marked xs s n e m = rw e at m

registers_marked : (xs : List ℕ) (s : Starts) (n : ℕ) → n ≡ registers_of xs → Marked s n (design_in xs).register_width → Marked s (design_in xs).registers (design_in xs).register_width
unfolding design_in
registers_marked xs s n e m = rw e at m

pub invariant_of-result : goal.invariant_of-result
invariant_of-result c = rw c.new.ensures (record {
  lowerable = c.requires;
  inputs_begin = inputs_marked _ c.new-2.result _ c.inputs.ensures (c.new-2.ensures _ (λ j w h p. search rules));
  registers_begin = registers_marked _ c.new-3.result _ c.registers.ensures (c.new-3.ensures _ (λ j w h p. search rules));
})
