-- A netlist that computes what the design computes, and a configuration that lays it out, implement the design.
use Rattle.std.proofs.Common.{ℕ, ◌+◌, List, ◌∙◌}
use Rattle.design.specs.Designs.{Words, Design, total, registers_after, output_at, output_width, input_bits, output_bits}
use Rattle.fabric.specs.Fabrics.{Size, Config, Pads, held_after}
use Rattle.fabric.specs.Implements.{Drives, DrivesAll, none, more, Implements}
use Rattle.netlist.specs.Netlists.{Netlist, Lowers}
use Rattle.route.specs.Layouts.{Layout, Realizes}
use Rattle.bitstream.specs.Theorem.{input_pins, output_pins, LayoutsImplement}
use Rattle.bitstream.proofs.Totals.{total_apart}
use Rattle.bitstream.proofs.Ticks.{HoldsRegisters, TicksAs, input_within, output_within, ticks_as}

module _ (d : Design) (n : Netlist) (z : Size) (b : Config) (l : Layout) (most : ℕ)
    (lowers : Lowers d n) (realizes : Realizes n z (input_bits d) (output_bits d) b l most) where
  -- after every stream the registers' cells hold the registers' bits
  holds_after : (is : List Words) (ps : List Pads) → DrivesAll d (input_pins d l) is ps →
      HoldsRegisters d n l (registers_after d is) (held_after z b ps)
  unfolding registers_after held_after
  holds_after _ _ none r k m q =
      let j = n.register (total r d.register_width + k) in
      let w = lowers.registers r k m q in
      (realizes.used (l.home j) j (realizes.places.inside j w.0) (realizes.places.there j w.0)).initial ∙ w.2
  holds_after _ _ (more {ins} {is} {p} {ps} drives before) r k m q =
      (ticks_as d n z b l most lowers realizes ins (registers_after d is) (held_after z b ps) p drives (holds_after is ps before)).next r k m q

  tick_after : (is : List Words) (ps : List Pads) (ins : Words) (p : Pads) → DrivesAll d (input_pins d l) is ps → Drives d (input_pins d l) ins p →
      TicksAs d n z b l ins (registers_after d is) (held_after z b ps) p
  tick_after is ps ins p before drives =
      ticks_as d n z b l most lowers realizes ins (registers_after d is) (held_after z b ps) p drives (holds_after is ps before)

  implements : Implements d z b (input_pins d l) (output_pins d l)
  unfolding output_at
  implements = record {
    ins_edge = λ i k m q. realizes.in_edge (total i d.input_width + k) (input_within d i k m q);
    ins_apart = λ i k j e m q u w same.
        total_apart d.input_width i j k e q w
        (realizes.in_apart (total i d.input_width + k) (total j d.input_width + e) (input_within d i k m q) (input_within d j e u w) same);
    outs_edge = λ o k m q. realizes.out_edge (total o (output_width d) + k) (output_within d o k m q);
    outs_apart = λ i k j e m q u w same.
        total_apart (output_width d) i j k e q w
        (realizes.out_apart (total i (output_width d) + k) (total j (output_width d) + e) (output_within d i k m q) (output_within d j e u w) same);
    settles = λ is ps ins p before drives. (tick_after is ps ins p before drives).settles;
    shows = λ is ps ins p before drives. (tick_after is ps ins p before drives).shows;
  }

pub layouts_implement : LayoutsImplement
layouts_implement = implements
