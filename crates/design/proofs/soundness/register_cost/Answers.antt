use Rattle.std.proofs.Common.{◌∙◌, arith, rules}
use Rattle.design.specs.Encodings.{list_of}
use Rattle.design.specs.Numbers.{design_in}
use Rattle.design.proofs.Sound.{next_summary, registers_in, register_cost}
use Rattle.design.proofs.soundness.register_cost.Goals as goal

pub returns : goal.returns
returns c = λ l.
    let xs = list_of c.args.analysis.now.design in
    let s = c.summary-next.result in
    let k = c.args.k in
    let r = c.register-register.result in
    let sum = next_summary xs k r.next s c.register-register.ensures.next (c.summary-next.ensures (c.register-register.ensures.named (omega (arith, l, registers_in xs)))) in
    register_cost (design_in xs) k r.width s c.then.result sum c.register-register.ensures.width (c.then.ensures.variant ∙ c.register_fits.ensures) (search rules)
