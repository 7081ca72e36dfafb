use Rattle.std.proofs.Common.{◌≡◌, ℕ, ◌+◌, min, List, Some, None, Ok, Err, subst, rules}
use Rattle.design.specs.declared.refusal.Refusal.TheVariants.{UnsoundRegister, UnsoundOutput, UnsoundInput}
use Rattle.design.specs.Designs.{register_sound, output_sound, register_cells, output_width, output_cells, total}
use Rattle.design.specs.Numbers.{first_failing, design_in}
use Rattle.design.specs.Encodings.{list_of, design_of}
use Rattle.design.proofs.Sound.{registers_in, outputs_in, refuses_register, refuses_output, refuses_input, refuses_none, counted}
use Rattle.design.proofs.soundness.check.Goals as goal

-- what the two loops over the analysis answer
abbrev Registers : ℕ → List ℕ → Type 0
Registers cells xs = (first_failing (register_sound (design_in xs)) (design_in xs).registers ≡ None)
    × (cells ≡ min 65536 (total (design_in xs).registers (register_cells (design_in xs))))

abbrev Outputs : ℕ → ℕ → List ℕ → Type 0
Outputs bits cells xs = (first_failing (output_sound (design_in xs)) (design_in xs).outputs ≡ None)
    × (bits ≡ total (design_in xs).outputs (output_width (design_in xs)))
    × (cells ≡ min 65536 (total (design_in xs).outputs (output_cells (design_in xs))))

abbrev BadRegister : ℕ → List ℕ → Type 0
BadRegister k xs = first_failing (register_sound (design_in xs)) (design_in xs).registers ≡ Some k

abbrev BadOutput : ℕ → List ℕ → Type 0
BadOutput k xs = first_failing (output_sound (design_in xs)) (design_in xs).outputs ≡ Some k

pub returns-in_err-registers : goal.returns-in_err-registers
returns-in_err-registers c =
    let bad : (k : ℕ) × (c.check_registers.result ≡ Err k) × (c.from_residual.result ≡ Err (UnsoundRegister k)) = search rules in
    rw bad.2 (refuses_register (design_of c.args.design) bad.0 (subst (BadRegister bad.0) c.new-analysis.ensures (rw bad.1 at c.check_registers.ensures)))

pub returns-in_err-outputs : goal.returns-in_err-outputs
returns-in_err-outputs c =
    let xs = list_of c.args.design in
    let bad : (k : ℕ) × (c.check_outputs.result ≡ Err k) × (c.from_residual-in_err-outputs.result ≡ Err (UnsoundOutput (c.registers.result + k))) = search rules in
    let ok : c.check_registers.result ≡ Ok c.in_ok-registers.registers = search rules in
    let r = subst (Registers c.in_ok-registers.registers) c.new-analysis.ensures (rw ok at c.check_registers.ensures) in
    let o = subst (BadOutput bad.0) c.new-analysis.ensures (rw bad.1 at c.check_outputs.ensures) in
    rw (bad.2, c.registers.ensures, ← (registers_in xs)) (refuses_output (design_in xs) bad.0 r.0 o)

pub returns-in_err-inputs : goal.returns-in_err-inputs
returns-in_err-inputs c =
    let xs = list_of c.args.design in
    let bad : (k : ℕ) × (c.check_inputs.result ≡ Err k) × (c.from_residual-in_err-inputs.result ≡ Err (UnsoundInput (c.registers.result + c.outputs.result + k))) = search rules in
    let r : c.check_registers.result ≡ Ok c.in_ok-registers.registers = search rules in
    let o : c.check_outputs.result ≡ Ok c.in_ok-outputs.outputs = search rules in
    let r = subst (Registers c.in_ok-registers.registers) c.new-analysis.ensures (rw r at c.check_registers.ensures) in
    let o = subst (Outputs c.in_ok-outputs.outputs.bits c.in_ok-outputs.outputs.cells) c.new-analysis.ensures (rw o at c.check_outputs.ensures) in
    rw (bad.2, c.registers.ensures, c.outputs.ensures, ← (registers_in xs), ← (outputs_in xs)) (refuses_input (design_in xs) bad.0 r.0 o.0 (rw bad.1 at c.check_inputs.ensures))

pub returns : goal.returns
returns c =
    let xs = list_of c.args.design in
    let r : c.check_registers.result ≡ Ok c.in_ok-registers.registers = search rules in
    let o : c.check_outputs.result ≡ Ok c.in_ok-outputs.outputs = search rules in
    let i : c.check_inputs.result ≡ Ok c.in_ok-inputs.inputs = search rules in
    let r = subst (Registers c.in_ok-registers.registers) c.new-analysis.ensures (rw r at c.check_registers.ensures) in
    let o = subst (Outputs c.in_ok-outputs.outputs.bits c.in_ok-outputs.outputs.cells) c.new-analysis.ensures (rw o at c.check_outputs.ensures) in
    let i = rw i at c.check_inputs.ensures in (
      refuses_none (design_in xs) r.0 o.0 i.0,
      counted (design_in xs) _ c.in_ok-registers.registers c.in_ok-outputs.outputs.cells i.1 o.1 r.1 o.2 c.capped-cells.ensures c.capped.ensures,
    )
