use Rattle.std.proofs.Common.{◌≡◌, ℕ, ◌+◌, ◌-◌, ◌<◌, get_or, ap, ◌∙◌, arith}
use Rattle.fabric.specs.declared.parts.Side.TheVariants.{Above}
use Rattle.fabric.specs.declared.parts.Pin.{Pin}
use Rattle.bitstream.proofs.Pins.{pin_in, pin_out}
use Rattle.bitstream.proofs.plans.Plan.pin.Goals as goal

-- the pin of a track at the upper edge
abbrev above : ℕ → Pin
above t = record { cell = 0; side = Above; track = t }

pub returns-then-m-inputs : goal.returns-then-m-inputs
returns-then-m-inputs c = c.input_pin.ensures ∙ pin_in c.args.self.now c.args.m c.if-m-inputs.true

pub returns-else-m-inputs : goal.returns-else-m-inputs
returns-else-m-inputs c =
    let p = c.args.self.now in
    let i = c.args.self.now.routing.inputs in
    let m = c.args.m in
    let l : i + (m - i) < p.pins = omega (arith, c.requires, c.if-m-inputs.false) in
    let x = p.outputs (m - i) l in
    let e : c.output.result ≡ get_or p.netlist.outputs (m - i) 0 = c.output.ensures.within x.0 in
    c.output_pin.ensures.is (omega (arith, e, x.1)) ∙ ap (λ (k : ℕ). above (i + k)) e ∙ pin_out p m c.if-m-inputs.false
