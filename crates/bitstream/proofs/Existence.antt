-- Every sound design for which the plain layout has room has an implementation: its netlist, laid out plainly.
use Rattle.std.proofs.Common.{ℕ, false, cond, ltb, refl, arith}
use Rattle.std.proofs.lemmas.Nat.{mul-lt}
use Rattle.std.proofs.lemmas.Bool.{lt-ltb, le-ltb}
use Rattle.design.specs.Designs.{input_bits, output_bits, plain_tracks}
use Rattle.fabric.specs.declared.parts.Source.TheVariants.{Nothing}
use Rattle.fabric.specs.Fabrics.{Size, Config}
use Rattle.netlist.specs.Netlists.{Netlist}
use Rattle.netlist.proofs.General.{designs_lower}
use Rattle.route.specs.Plain.{plain_source, plain_net, plain_layout, PlainConfig}
use Rattle.route.proofs.Laid.{plain_realizes}
use Rattle.bitstream.specs.Theorem.{input_pins, output_pins}
use Rattle.bitstream.specs.Theorem.{ImplementationsExist}
use Rattle.bitstream.proofs.Implementation.{layouts_implement}

-- the configuration of the plain layout
unfoldable plain_config : Netlist → Size → ℕ → Config
plain_config n z i = record {
  table = λ c k. cond (ltb c n.count) (n.table c k) false;
  input = λ c k. cond (ltb c n.count) (plain_source z i c (n.input c k)) Nothing;
  holds = λ c. cond (ltb c n.count) (n.holds c) false;
  initial = λ c. n.initial c;
  drive = λ c s t. plain_source z i c (plain_net i n.count t);
}

is_plain : (n : Netlist) (z : Size) (i : ℕ) → PlainConfig n z i (plain_config n z i)
unfolding plain_config
is_plain n z i = record {
  table = λ c k h l. rw (lt-ltb c n.count h) refl;
  input = λ c k h l. rw (lt-ltb c n.count h) refl;
  holds = λ c h. rw (lt-ltb c n.count h) refl;
  initial = λ c h. refl;
  blank = λ c low h. record {
    table = λ k l. rw (le-ltb c n.count low) refl;
    inputs = λ k l. rw (le-ltb c n.count low) refl;
    holds = rw (le-ltb c n.count low) refl;
  };
  drive = λ c s t h l. refl;
}

pub implementations_exist : ImplementationsExist
unfolding plain_tracks
implementations_exist d z s columns rows cells tracks =
    let x = designs_lower d s in
    let n = x.0 in
    let l = x.1 in
    let i = input_bits d in
    let b = plain_config n z i in
    let layout = plain_layout z i n in (
      b,
      input_pins d layout,
      output_pins d layout,
      layouts_implement d n z b layout _ l.lowers
          (plain_realizes n z i (output_bits d) b (mul-lt 0 0 z.columns z.rows columns rows) (omega (arith, l.few)) (omega (arith, l.few))
          l.lowers.cells_exist l.lowers.inputs_exist l.outputs l.apart (is_plain n z i)),
    )
