-- Which refusal is answered.
use Rattle.std.proofs.Common.{◌≡◌, ℕ, ◌+◌, ◌*◌, ◌<◌, ◌≤◌, min, Bool, true, false, eqb, ltb, ◌⊎◌, List, length, Ok, Err, Some, None, Option, Result, sym, refl, ap, ◌∙◌, subst, inr, arith, MatchOption, MatchResult}
use Rattle.std.specs.Option.{option_or}
use Rattle.std.specs.Result.{IsErrAnd}
use Rattle.std.specs.Bool.{then_some}
use Rattle.std.proofs.lemmas.Nat.{mul-le}
use Rattle.std.proofs.lemmas.Bool.{lt-ltb, le-ltb, ltb-false, ne_eqb, eq-eqb}
use Rattle.design.specs.declared.refusal.Refusal.{Refusal}
use Rattle.design.specs.declared.refusal.Refusal.TheVariants.{RoomLength, Pins, Cells, NetTracks, NotYet}
use Rattle.design.specs.declared.counts.Counts.{Counts}
use Rattle.design.specs.Designs.{Design, output_width, output_cells, input_bits, output_bits, plain_cells, plain_tracks}
use Rattle.design.specs.Numbers.{nodes_of, design_in, reading_refusal, soundness_refusal}
use Rattle.design.specs.Encodings.{list_of, design_of, Counted}
use Rattle.fabric.specs.declared.grid.Grid.{Grid}
use Rattle.fabric.specs.Fabrics.{Size, cell_count}
use Rattle.fabric.specs.Numbers.{room_length, size_refusal}
use Rattle.fabric.specs.Code.{size_of}
use Rattle.netlist.specs.Lowerings.{lower_refusal, words_refusal}
use Rattle.netlist.specs.NotYet.{lowering_refusal}
use Rattle.netlist.proofs.Whole.{refuses_none}
use Rattle.netlist.proofs.Landing.{passes_on}
use Rattle.design.proofs.Reading.{neither}
use Rattle.netlist.proofs.Totals.{total_below}
use Rattle.route.specs.Nets.{Room}
use Rattle.bitstream.specs.declared.Made.{Made}
use Rattle.bitstream.specs.declared.plans.Request.{Request}
use Rattle.bitstream.specs.declared.plans.Plan.{Plan}
use Rattle.bitstream.specs.Puts.{pin_count, put_refusal, plain_refusal, not_yet, Refuses, Places, PutSays, PutWordsSays}
use Rattle.bitstream.specs.Plans.{words_answer, put_answer, Accepts, Plans, Planned, PlanSays, CarriesOut}

-- a refusal that `?` hands on
pub hands_on : {T : Type 0} {f : Refusal} (r : Result T Refusal) (A : T → Type 0) (B : Refusal → Type 0) → IsErrAnd r (λ g. g ≡ f) → B f → MatchResult r A B
hands_on (Ok x) A B e h = absurd e
hands_on (Err g) A B e h = rw e h

pub few_cells : (g : Grid) → cell_count (size_of g) ≤ 1024
few_cells g = mul-le g.columns g.rows 32 32 g.few_columns g.few_rows

-- refusal 7
module _ (g : Grid) (d : Design) (k : Counts) (counted : Counted d k) where
  pub refuses_cells : (n : ℕ) → n ≡ cell_count (size_of g) → n < k.cells → plain_refusal (size_of g) d ≡ Some (Cells k.cells)
  unfolding plain_refusal
  refuses_cells n e h =
      let t : ltb (cell_count (size_of g)) (plain_cells d) ≡ true = lt-ltb _ _ (omega (arith, counted.cells)) in
      rw (t, counted.cells) refl

  pub cells_suffice : (n : ℕ) → n ≡ cell_count (size_of g) → k.cells ≤ n → plain_cells d ≤ cell_count (size_of g)
  cells_suffice n e h = omega (arith, counted.cells, few_cells g)

  pub refuses_tracks : (n : ℕ) → n ≡ cell_count (size_of g) → k.cells ≤ n → g.tracks < k.tracks → plain_refusal (size_of g) d ≡ Some (NetTracks k.tracks)
  unfolding plain_refusal
  refuses_tracks n e h l =
      let f : ltb (cell_count (size_of g)) (plain_cells d) ≡ false = le-ltb _ _ (cells_suffice n e h) in
      let t : ltb g.tracks (plain_tracks d) ≡ true = lt-ltb _ _ (omega (arith, counted.tracks)) in
      rw (f, t, counted.tracks) refl

  pub room_suffices : (n : ℕ) → n ≡ cell_count (size_of g) → k.cells ≤ n → k.tracks ≤ g.tracks → plain_refusal (size_of g) d ≡ None
  unfolding plain_refusal
  room_suffices n e h l =
      let f : ltb (cell_count (size_of g)) (plain_cells d) ≡ false = le-ltb _ _ (cells_suffice n e h) in
      let t : ltb g.tracks (plain_tracks d) ≡ false = le-ltb _ _ (omega (arith, counted.tracks, g.few_tracks)) in
      rw (f, t) refl

-- what it says that there is room
whole : (a b c e : ℕ) (x y : Refusal) → option_or (then_some (ltb a b) x) (then_some (ltb c e) y) ≡ None → (b ≤ a) × (e ≤ c)
whole a b c e x y h = go (ltb a b) (ltb c e) refl refl h
  where
    go : (p q : Bool) → ltb a b ≡ p → ltb c e ≡ q → option_or (then_some p x) (then_some q y) ≡ None → (b ≤ a) × (e ≤ c)
    go true q ep eq h = absurd cc
    go false true ep eq h = absurd cc
    go false false ep eq h = (ltb-false a b ep, ltb-false c e eq)

pub has_room : (z : Size) (d : Design) → plain_refusal z d ≡ None → (plain_cells d ≤ cell_count z) × (plain_tracks d ≤ z.tracks)
unfolding plain_refusal
has_room z d h = whole _ _ _ _ _ _ h

pub outputs_below : (d : Design) → output_bits d ≤ plain_cells d
unfolding output_bits plain_cells output_cells
outputs_below d = omega (arith, total_below (output_width d) (output_cells d) d.outputs (λ o h. omega arith))

tracks_are : (d : Design) → plain_tracks d ≡ plain_cells d + input_bits d
unfolding plain_tracks
tracks_are d = refl

pub inputs_below : (z : Size) (d : Design) → plain_refusal z d ≡ None → input_bits d ≤ z.tracks
inputs_below z d h = omega (arith, (has_room z d h).1, tracks_are d)

pub plain_room : (z : Size) (d : Design) (i n : ℕ) → plain_refusal z d ≡ None → i ≡ input_bits d → n ≤ plain_cells d → Room z i n
plain_room z d i n h e l = record { cells = omega (arith, (has_room z d h).0); tracks = omega (arith, (has_room z d h).1, tracks_are d) }

-- a design for which the plain layout has room is lowered
lowers_then : (g : Grid) (xs : List ℕ) → plain_refusal (size_of g) (design_in xs) ≡ None → soundness_refusal (design_in xs) ≡ None → words_refusal xs ≡ None
lowers_then g xs p s =
    let r = has_room (size_of g) (design_in xs) p in
    refuses_none xs (min 65536 (plain_cells (design_in xs))) (min 65536 (plain_tracks (design_in xs))) s refl (omega (arith, r.0, few_cells g)) refl (omega (arith, r.1, g.few_tracks))

pub lowers_surely : (g : Grid) (xs : List ℕ) (f : Refusal) → plain_refusal (size_of g) (design_in xs) ≡ None → soundness_refusal (design_in xs) ≡ None → words_refusal xs ≡ Some f → ⊥
lowers_surely g xs f p s h = let n = lowers_then g xs p s in cc

-- such a design is refused only for what can't be lowered yet
pub lower_is : (g : Grid) (xs : List ℕ) → plain_refusal (size_of g) (design_in xs) ≡ None → soundness_refusal (design_in xs) ≡ None → lower_refusal xs ≡ lowering_refusal xs
lower_is g xs p s = passes_on xs (min 65536 (plain_cells (design_in xs))) s refl (omega (arith, (has_room (size_of g) (design_in xs) p).0, few_cells g))

-- refusals 1 to 6
module _ (z : Size) (xs room pins : List ℕ) where
  pub refuses_size : (f : Refusal) → size_refusal z ≡ Some f → put_refusal z xs room pins ≡ Some f
  unfolding put_refusal
  refuses_size f h = rw h refl

  module _ (a : size_refusal z ≡ None) where
    pub refuses_reading : (f : Refusal) → reading_refusal xs ≡ Some f → put_refusal z xs room pins ≡ Some f
    unfolding put_refusal
    refuses_reading f h = rw (a, h) refl

    module _ (b : reading_refusal xs ≡ None) where
      pub refuses_room : (length room ≡ room_length z → ⊥) → put_refusal z xs room pins ≡ Some RoomLength
      unfolding put_refusal
      refuses_room h = let q : eqb (length room) (room_length z) ≡ false = ne_eqb _ _ h in rw (a, b, q) refl

      module _ (r : length room ≡ room_length z) where
        pub refuses_unsound : (f : Refusal) → soundness_refusal (design_in xs) ≡ Some f → put_refusal z xs room pins ≡ Some f
        unfolding put_refusal
        refuses_unsound f h = let q : eqb (length room) (room_length z) ≡ true = eq-eqb _ _ r in rw (a, b, q, h) refl

        module _ (s : soundness_refusal (design_in xs) ≡ None) (n : ℕ) (e : n ≡ pin_count (design_in xs)) where
          pub refuses_pins : length pins < 3 * n → put_refusal z xs room pins ≡ Some (Pins n)
          unfolding put_refusal
          refuses_pins h =
              let q : eqb (length room) (room_length z) ≡ true = eq-eqb _ _ r in
              let t : ltb (length pins) (3 * pin_count (design_in xs)) ≡ true = lt-ltb _ _ (omega arith) in
              rw (a, b, q, s, t, e) refl

          pub refuses_nothing : 3 * n ≤ length pins → put_refusal z xs room pins ≡ None
          unfolding put_refusal
          refuses_nothing h =
              let q : eqb (length room) (room_length z) ≡ true = eq-eqb _ _ r in
              let t : ltb (length pins) (3 * pin_count (design_in xs)) ≡ false = le-ltb _ _ (omega arith) in
              rw (a, b, q, s, t) refl

-- how many pins there are
pub pins_are : (d : Design) (k : Counts) → Counted d k → k.input_bits + k.output_bits ≡ pin_count d
unfolding pin_count
pins_are d k counted = omega (arith, counted.inputs, counted.outputs)

-- refusal 9
pub refuses_lowering : (z : Size) (xs : List ℕ) (f : Refusal) → lowering_refusal xs ≡ Some f → not_yet z xs ≡ Some f
unfolding not_yet
refuses_lowering z xs f h = rw h refl

pub refuses_rows : (z : Size) (xs : List ℕ) (n : ℕ) → lowering_refusal xs ≡ None → (z.rows ≡ 1 → ⊥) → n ≡ nodes_of xs → not_yet z xs ≡ Some (NotYet n)
unfolding not_yet
refuses_rows z xs n h r e = let q : eqb z.rows 1 ≡ false = ne_eqb _ 1 r in rw (h, q, e) refl

pub landed_by_now : (z : Size) (xs : List ℕ) → lowering_refusal xs ≡ None → z.rows ≡ 1 → not_yet z xs ≡ None
unfolding not_yet
landed_by_now z xs h r = let q : eqb z.rows 1 ≡ true = eq-eqb _ 1 r in rw (h, q) refl

-- a plan for a request that is accepted
module _ (z : Size) (xs room pins : List ℕ) where
  pub words_first : (f : Refusal) → put_refusal z xs room pins ≡ Some f → words_answer z xs room pins ≡ Some f
  unfolding words_answer
  words_first f h = rw h refl

  pub put_first : (f : Refusal) → words_answer z xs room pins ≡ Some f → put_answer z xs room pins ≡ Some f
  unfolding put_answer
  put_first f h = rw h refl

  module _ (r : Request) (a : Accepts z xs room pins r) where
    pub words_next : put_refusal z xs room pins ≡ None → words_answer z xs room pins ≡ plain_refusal (size_of r.grid) (design_of r.design)
    unfolding words_answer
    words_next h = rw (h, a.grid, a.list) refl

    pub put_next : words_answer z xs room pins ≡ None → put_answer z xs room pins ≡ not_yet (size_of r.grid) (list_of r.design)
    unfolding put_answer
    put_next h = rw (h, a.grid, a.list) refl

    pub planned : (p : Plan) → p.routing.grid ≡ r.grid → Plans (design_of r.design) p → Planned z xs room pins p
    planned p grid plans =
        let g = ap size_of grid ∙ a.grid in
        let l : Plans (design_in xs) p = subst (λ (ys : List ℕ). Plans (design_in ys) p) a.list plans in
        record {
          grid = g;
          sound = ap (λ (ys : List ℕ). soundness_refusal (design_in ys)) (sym a.list) ∙ r.sound;
          plans = l;
          fits = record { room_fits = a.room_fits ∙ ap room_length (sym g); pins_fit = omega (arith, a.pins_fit, l.pins) };
        }

-- what is said, from the refusal that is answered
module _ (P : Refusal → Type 0) (Q F : Type 0) where
  says_refused : (a b : Option Refusal) (f : Refusal) → option_or a b ≡ Some f → P f → MatchOption a (MatchOption b F (λ f. Q ⊎ P f)) P
  says_refused (Some x) b f h p = let e : f ≡ x = cc in rw e at p
  says_refused None (Some x) f h p = let e : f ≡ x = cc in inr (rw e at p)
  says_refused None None f h p = absurd cc

  says_fits : (a b : Option Refusal) → option_or a b ≡ None → F → MatchOption a (MatchOption b F (λ f. Q ⊎ P f)) P
  says_fits (Some x) b h q = absurd cc
  says_fits None (Some x) h q = absurd cc
  says_fits None None h q = q

says_later : (P : Refusal → Type 0) (Q : Type 0) (a b c : Option Refusal) (f : Refusal) → option_or (option_or a b) c ≡ Some f → P f → MatchOption a (MatchOption b (MatchOption c Q P) (λ f. Q ⊎ P f)) P
says_later P Q (Some x) b c f h p = let e : f ≡ x = cc in rw e at p
says_later P Q None (Some x) c f h p = let e : f ≡ x = cc in inr (rw e at p)
says_later P Q None None (Some x) f h p = let e : f ≡ x = cc in rw e at p
says_later P Q None None None f h p = absurd cc

module _ (z : Size) (xs room pins room₁ pins₁ : List ℕ) (r : Made) where
  pub words_says : (o : Result Plan Refusal) → PlanSays (words_answer z xs room pins) z xs room pins o → CarriesOut o room pins r room₁ pins₁ → PutWordsSays z xs room pins r room₁ pins₁
  unfolding words_answer
  words_says (Ok p) h k =
      says_fits (Refuses room pins r room₁ pins₁) (Places xs z room pins r room₁ pins₁) (Places xs z room pins r room₁ pins₁) (put_refusal z xs room pins) (plain_refusal z (design_in xs)) h.0 (k z xs h.1)
  words_says (Err f) h k =
      says_refused (Refuses room pins r room₁ pins₁) (Places xs z room pins r room₁ pins₁) (Places xs z room pins r room₁ pins₁) (put_refusal z xs room pins) (plain_refusal z (design_in xs)) f h k

  pub put_says : (o : Result Plan Refusal) → PlanSays (put_answer z xs room pins) z xs room pins o → CarriesOut o room pins r room₁ pins₁ → PutSays z xs room pins r room₁ pins₁
  unfolding put_answer words_answer
  put_says (Ok p) h k =
      let n = neither (option_or (put_refusal z xs room pins) (plain_refusal z (design_in xs))) (not_yet z xs) h.0 in
      says_fits (Refuses room pins r room₁ pins₁) (Places xs z room pins r room₁ pins₁) (MatchOption (not_yet z xs) (Places xs z room pins r room₁ pins₁) (Refuses room pins r room₁ pins₁))
      (put_refusal z xs room pins) (plain_refusal z (design_in xs)) n.0 (rw n.1 (k z xs h.1))
  put_says (Err f) h k =
      says_later (Refuses room pins r room₁ pins₁) (Places xs z room pins r room₁ pins₁) (put_refusal z xs room pins) (plain_refusal z (design_in xs)) (not_yet z xs) f h k
