-- What is written implements the design.
use Rattle.std.proofs.Common.{◌≡◌, ℕ, zero, suc, ◌+◌, ◌-◌, ◌*◌, ◌<◌, ◌≤◌, false, List, length, get_or, sym, refl, ap, ◌∙◌, subst, ⊎_elim, mul-le-mul_right, add-mul, arith}
use native.Mathlib.Nat.{zero-div}
use Rattle.std.proofs.lemmas.Nat.{mul-lt}
use Rattle.std.proofs.lemmas.Bool.{cases_lt}
use Rattle.design.specs.Designs.{word, Design, total, output_width, input_bits, output_bits}
use Rattle.fabric.specs.declared.parts.Side.{Side}
use Rattle.fabric.specs.declared.parts.Side.TheVariants.{Above}
use Rattle.fabric.specs.declared.parts.Pin.{Pin}
use Rattle.fabric.specs.declared.parts.Source.TheVariants.{Nothing}
use Rattle.fabric.specs.Fabrics.{Size, cell_count}
use Rattle.fabric.specs.Numbers.{side_number, per_cell, config_in, PinAt}
use Rattle.fabric.proofs.Coding.{side_number_small}
use Rattle.netlist.specs.declared.parts.Net.TheVariants.{Zero}
use Rattle.netlist.specs.declared.parts.Cell.{Cell as CellT}
use Rattle.netlist.specs.declared.netlists.Netlist.{Netlist as NetlistT}
use Rattle.netlist.specs.Building.{blank, cell_at, input_of, Lowering}
use Rattle.netlist.specs.Lowerings.{netlist_of}
use Rattle.route.specs.declared.plain.Plain.{Plain}
use Rattle.route.specs.Layouts.{Realizes}
use Rattle.route.specs.Plain.{plain_source, plain_layout, PlainConfig}
use Rattle.route.proofs.Laid.{plain_realizes}
use Rattle.bitstream.specs.declared.plans.Plan.{Plan}
use Rattle.bitstream.specs.Fitting.{standing, NetsExist, OutputsExist}
use Rattle.bitstream.specs.Puts.{pin_count, Puts}
use Rattle.bitstream.specs.Plans.{grid_of, inputs_of, cell_of, Plans, NumberAt, CellsWritten, PinsWritten}
use Rattle.bitstream.specs.Theorem.{input_pins, output_pins}
use Rattle.bitstream.proofs.Implementation.{layouts_implement}
use Rattle.bitstream.proofs.Pins.{pin_in, pin_out}
use Rattle.bitstream.proofs.Ticks.{input_within, output_within}

abbrev above_pin : ℕ → Pin
above_pin t = record { cell = 0; side = Above; track = t }

-- a cell that shows 0 reads nothing
blank_net : (k : ℕ) → k < 4 → input_of blank k ≡ Zero
blank_net zero h = refl
blank_net (suc zero) h = refl
blank_net (suc (suc zero)) h = refl
blank_net (suc (suc (suc zero))) h = refl
blank_net (suc (suc (suc (suc k)))) h = absurd (omega arith)

-- a cell that shows 0
blank_table : (k : ℕ) → word 0 k ≡ false
unfolding word
blank_table k = rw zero-div refl

blank_input : (z : Size) (i c k : ℕ) → k < 4 → plain_source z i c (input_of blank k) ≡ Nothing
unfolding plain_source
blank_input z i c k h = ap (plain_source z i c) (blank_net k h)

number_same : (z : Size) (i i₁ n n₁ : ℕ) (cell : CellT) (c j x : ℕ) → i ≡ i₁ → n ≡ n₁ → NumberAt z i n cell c j x → NumberAt z i₁ n₁ cell c j x
number_same z i i₁ n n₁ cell c j x e f h = rw (← e, ← f) h

out_is : (i i₁ m : ℕ) (outs : List ℕ) → i ≡ i₁ → above_pin (i + get_or outs (i₁ + m - i) 0) ≡ above_pin (i₁ + get_or outs m 0)
out_is i i₁ m outs e = let q : i₁ + m - i ≡ m = omega arith in rw (q, e) refl

-- places of the numbers of a cell
small : (z : Size) (k : ℕ) → k < 22 → k < per_cell z
unfolding per_cell
small z k h = omega arith

side_small : (z : Size) (s : Side) (t : ℕ) → t < z.tracks → 22 + (side_number s * z.tracks + t) < per_cell z
unfolding per_cell
side_small z s t h =
    omega (arith, mul-le-mul_right z.tracks (let q : side_number s + 1 ≤ 4 = omega (arith, side_number_small s) in q), add-mul (side_number s) 1 z.tracks)

-- a netlist and a layout for the design
module _ (d : Design) (n : NetlistT) (r : Plain) (lowered : Lowering d (netlist_of n)) (inputs : r.inputs ≡ input_bits d) (count : r.placement.count ≡ n.count) where
  used : (c : ℕ) → c < n.count → standing n c ≡ cell_at n.cells c
  used c h = refl

  unused : (c : ℕ) → n.count ≤ c → standing n c ≡ blank
  unused c h = n.rest c h

  pub nets_exist : NetsExist n r
  nets_exist c k j h = ⊎_elim
      (λ l. rw (used c l) (λ q. omega (arith, lowered.lowers.inputs_exist c k j l h q), λ q. omega (arith, lowered.lowers.cells_exist c k j l h q)))
      (λ l. rw (unused c l, blank_net k h) (λ q. absurd cc, λ q. absurd cc))
      (cases_lt c n.count)

  pub outputs_exist : (pins : ℕ) → pins ≡ pin_count d → output_bits d ≤ 1024 → OutputsExist n r pins
  unfolding pin_count
  outputs_exist pins e few m h =
      let l : m < output_bits d = omega arith in
      (omega arith, omega (arith, lowered.outputs m l))

module _ (d : Design) (p : Plan) (pl : Plans d p) where
  stands : (c : ℕ) → c < p.netlist.count → cell_of p c ≡ cell_at p.netlist.cells c
  stands = used d p.netlist p.routing pl.lowered pl.inputs pl.count

  stands_blank : (c : ℕ) → p.netlist.count ≤ c → cell_of p c ≡ blank
  stands_blank = unused d p.netlist p.routing pl.lowered pl.inputs pl.count

  module _ (room : List ℕ) (written : CellsWritten p (cell_count (grid_of p)) room) where
    -- a number of the room, as the plan has it
    at_cell : (c j : ℕ) → c < cell_count (grid_of p) → j < per_cell (grid_of p) →
        NumberAt (grid_of p) (input_bits d) (p.netlist.count) (cell_of p c) c j (get_or room (c * per_cell (grid_of p) + j) 0)
    at_cell c j h l = number_same (grid_of p) _ _ _ _ (cell_of p c) c j _ pl.inputs pl.count (written c j h l)

    room_for : (c : ℕ) → c < p.netlist.count → c < cell_count (grid_of p)
    room_for c h = omega (arith, pl.count, p.routing.cells)

    configured : PlainConfig (netlist_of p.netlist) (grid_of p) (input_bits d) (config_in (grid_of p) room)
    unfolding config_in
    configured = record {
      table = λ c k l h. (at_cell c k (room_for c l) (small (grid_of p) k (omega arith))).table h ∙ ap (λ (x : CellT). word x.table k) (stands c l);
      input = λ c k l h. (at_cell c (16 + k) (room_for c l) (small (grid_of p) (16 + k) (omega arith))).input k h refl ∙ ap (λ (x : CellT). plain_source (grid_of p) (input_bits d) c (input_of x k)) (stands c l);
      holds = λ c l. (at_cell c 20 (room_for c l) (small (grid_of p) 20 (omega arith))).holds refl ∙ ap (λ (x : CellT). x.holds) (stands c l);
      initial = λ c l. (at_cell c 21 (room_for c l) (small (grid_of p) 21 (omega arith))).initial refl ∙ ap (λ (x : CellT). x.initial) (stands c l);
      blank = λ c low h. record {
        table = λ k l. (at_cell c k h (small (grid_of p) k (omega arith))).table l ∙ ap (λ (x : CellT). word x.table k) (stands_blank c low) ∙ blank_table k;
        inputs = λ k l. (at_cell c (16 + k) h (small (grid_of p) (16 + k) (omega arith))).input k l refl
            ∙ ap (λ (x : CellT). plain_source (grid_of p) (input_bits d) c (input_of x k)) (stands_blank c low) ∙ blank_input (grid_of p) (input_bits d) c k l;
        holds = (at_cell c 20 h (small (grid_of p) 20 (omega arith))).holds refl ∙ ap (λ (x : CellT). x.holds) (stands_blank c low);
      };
      drive = λ c s t h l. (at_cell c (22 + (side_number s * (grid_of p).tracks + t)) h (side_small (grid_of p) s t l)).drive s t l refl;
    }

    realizes : Realizes (netlist_of p.netlist) (grid_of p) (input_bits d) (output_bits d) (config_in (grid_of p) room)
        (plain_layout (grid_of p) (input_bits d) (netlist_of p.netlist)) ((grid_of p).rows + (grid_of p).columns + 1)
    realizes = plain_realizes (netlist_of p.netlist) (grid_of p) (input_bits d) (output_bits d) (config_in (grid_of p) room)
        (mul-lt 0 0 p.routing.grid.columns p.routing.grid.rows p.routing.grid.some_columns p.routing.grid.some_rows)
        (omega (arith, pl.count, p.routing.cells))
        (omega (arith, pl.count, pl.inputs, p.routing.tracks))
        pl.lowered.lowers.cells_exist pl.lowered.lowers.inputs_exist pl.lowered.outputs pl.lowered.apart configured

    module _ (pins pins₁ : List ℕ) (pinned : PinsWritten p p.pins pins pins₁) where
      in_written : (m : ℕ) → m < input_bits d → PinAt pins₁ m ((plain_layout (grid_of p) (input_bits d) (netlist_of p.netlist)).in_pin m)
      unfolding plain_layout pin_count
      in_written m h = rw (pin_in p m (omega (arith, pl.inputs))) (pinned.written m (omega (arith, pl.pins)))

      out_written : (m : ℕ) → m < output_bits d → PinAt pins₁ (input_bits d + m) ((plain_layout (grid_of p) (input_bits d) (netlist_of p.netlist)).out_pin m)
      unfolding plain_layout pin_count
      out_written m h =
          let w = pinned.written (input_bits d + m) (omega (arith, pl.pins)) in
          subst (λ q. PinAt pins₁ (input_bits d + m) q) (sym (pin_out p (input_bits d + m) (omega (arith, pl.inputs))) ∙ out_is (inputs_of p) (input_bits d) m p.netlist.outputs pl.inputs) w

      pub puts : (z : Size) (room₀ : List ℕ) → grid_of p ≡ z → length room ≡ length room₀ → length pins₁ ≡ length pins → Puts d z room₀ pins room pins₁
      puts z room₀ grid kept_room kept_Pins =
          let l = plain_layout (grid_of p) (input_bits d) (netlist_of p.netlist) in
          subst (λ z. Puts d z room₀ pins room pins₁) grid (record {
            room_kept = kept_room;
            pins_kept = kept_Pins;
            ins_at = input_pins d l;
            outs_at = output_pins d l;
            implements = layouts_implement d (netlist_of p.netlist) (grid_of p) (config_in (grid_of p) room) l _ pl.lowered.lowers realizes;
            ins_written = λ i k h j. in_written (total i d.input_width + k) (input_within d i k h j);
            outs_written = λ o k h j. out_written (total o (output_width d) + k) (output_within d o k h j);
            rest_kept = λ m h. pinned.rest m (omega (arith, pl.pins));
          })
