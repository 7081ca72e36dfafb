-- One tick: a fabric that is configured as a layout says settles, shows the outputs and holds the registers' next bits.
use Rattle.std.proofs.Common.{◌≡◌, ℕ, ◌+◌, ◌<◌, Bool, refl, ap, ◌∙◌, arith}
use Rattle.design.specs.Designs.{Words, Design, eval, total, output_width, input_bits, output_bits}
use Rattle.fabric.specs.Fabrics.{Size, Config, Signals, Pads, lookup, sweep, dark, enough, final, Settles, Agree}
use Rattle.fabric.specs.Implements.{Drives}
use Rattle.fabric.specs.Laws.{Rank, Ranked}
use Rattle.fabric.proofs.Sweeps.{lookup_same, agree_same_at}
use Rattle.fabric.proofs.Settling.{ranks_settle}
use Rattle.netlist.specs.Netlists.{Netlist, net_level, Consistent, Lowers}
use Rattle.netlist.proofs.Totals.{total_within}
use Rattle.route.specs.Layouts.{Layout, Realizes}
use Rattle.bitstream.specs.Theorem.{input_pins, output_pins}
use Rattle.bitstream.proofs.Valuation.{values, values_consistent}
use Rattle.bitstream.proofs.Fixpoint.{state_of, at_pin, state_fixed, home_looks_up}
use Rattle.bitstream.proofs.Ranks.{rank_of, layout_ranked}

-- where the cell stands that holds bit k of register r
abbrev pub holder : Design → Netlist → Layout → (r k : ℕ) → ℕ
holder d n l r k = l.home (n.register (total r d.register_width + k))

-- the held bits are those of the registers
abbrev pub HoldsRegisters : Design → Netlist → Layout → Words → (held : ℕ → Bool) → Type 0
HoldsRegisters d n l regs held = (r k : ℕ) → r < d.registers → k < d.register_width r → held (holder d n l r k) ≡ regs r k

-- what the fabric does in a tick is what the design does
pub record TicksAs (d : Design) (n : Netlist) (z : Size) (b : Config) (l : Layout) (ins regs : Words) (held : ℕ → Bool) (p : Pads) : Type 0 where
  pub settles : Settles z b held p
  pub shows : (o k : ℕ) → o < d.outputs → k < output_width d o →
      at_pin (final z b held p).track (output_pins d l o k) ≡ eval d ins regs (d.output o) k
  pub next : HoldsRegisters d n l (λ r. eval d ins regs (d.next r)) (lookup z b p (final z b held p))

-- the fabric settles, to the state g
record SettlesTo (z : Size) (b : Config) (held : ℕ → Bool) (p : Pads) (g : Signals) : Type 0 where
  settles : Settles z b held p
  agrees : Agree z (final z b held p) g

settles_to : (z : Size) (b : Config) (held : ℕ → Bool) (p : Pads) (k : Rank) (g : Signals) → Ranked z b k → Agree z (sweep z b held p g) g →
    SettlesTo z b held p g
unfolding final
settles_to z b held p k g ranked fixed =
    let settled = ranks_settle z b held p k g ranked fixed in
    record { settles = settled.0; agrees = settled.1 dark (enough z) (omega arith) }

pub input_within : (d : Design) (i k : ℕ) → i < d.inputs → k < d.input_width i → total i d.input_width + k < input_bits d
unfolding input_bits
input_within d i k m q = total_within d.input_width i d.inputs k m q

pub output_within : (d : Design) (o k : ℕ) → o < d.outputs → k < output_width d o → total o (output_width d) + k < output_bits d
unfolding output_bits
output_within d o k m q = total_within (output_width d) o d.outputs k m q

module _ (d : Design) (n : Netlist) (z : Size) (b : Config) (l : Layout) (most : ℕ)
    (lowers : Lowers d n) (realizes : Realizes n z (input_bits d) (output_bits d) b l most) where
  pin_shows : (f : Signals) (x v : ℕ → Bool) → Agree z f (state_of l x v) → (m : ℕ) → m < output_bits d →
      at_pin f.track (l.out_pin m) ≡ v (n.output m)
  unfolding net_level
  pin_shows f x v a m q =
      let e = realizes.out_edge m q in
      a.tracks (l.out_pin m).cell (l.out_pin m).side (l.out_pin m).track e.cell e.track ∙ ap (net_level x v) (realizes.out_net m q)

  pub ticks_as : (ins regs : Words) (held : ℕ → Bool) (p : Pads) → Drives d (input_pins d l) ins p → HoldsRegisters d n l regs held →
      TicksAs d n z b l ins regs held p
  ticks_as ins regs held p drives holds =
      let x : ℕ → Bool = λ j. at_pin p (l.in_pin j) in
      let h : ℕ → Bool = λ j. held (l.home j) in
      let v : ℕ → Bool = values n x h n.count in
      let fits : Consistent n x h v = values_consistent n x h lowers.ordered in
      let g : Signals = state_of l x v in
      let f : Signals = final z b held p in
      let to : SettlesTo z b held p g =
      settles_to z b held p (rank_of n l most) g
      (layout_ranked n z (input_bits d) (output_bits d) b l most realizes lowers.ordered)
      (state_fixed n z (input_bits d) (output_bits d) b l most realizes held p x v (λ j m. refl) fits) in
      record {
        settles = to.settles;
        shows = λ o k m q.
            pin_shows f x v to.agrees (total o (output_width d) + k) (output_within d o k m q)
            ∙ lowers.shows ins regs x h v drives holds fits o k m q;
        next = λ r k m q.
            let j = n.register (total r d.register_width + k) in
            let there = (lowers.registers r k m q).0 in
            let inside = realizes.places.inside j there in
            lookup_same z b p f g (l.home j) (λ i _. agree_same_at z f g to.agrees (l.home j) inside (b.input (l.home j) i))
            ∙ (home_looks_up n z (input_bits d) (output_bits d) b l most realizes held p x v (λ j m. refl) fits j there
            ∙ lowers.next ins regs x h v drives holds fits r k m q);
      }
