use Rattle.std.proofs.Common.{false, get_or, ap, ◌∙◌, arith}
use Rattle.design.specs.Designs.{bit}
use Rattle.fabric.specs.Numbers.{pad_place}
use Rattle.fabric.specs.Code.{grid_of, state_of}
use Rattle.fabric.proofs.Indices.{pad_inside, out_at}
use Rattle.fabric.proofs.wiring.Moment.write_outputs.Goals as goal

pub returns : goal.returns
unfolding state_of
returns c = λ e s t h m.
    c.loop-place.invariant (pad_place (grid_of c.args.self.wiring) e s t) (omega (arith, pad_inside (grid_of c.args.self.wiring) e s t h m, c.requires, c.loop-place-test.false))
    ∙ ap (λ i. bit (get_or c.args.self.levels.now i false)) (out_at (grid_of c.args.self.wiring) e s t m)
