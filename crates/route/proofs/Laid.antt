-- The plain layout lays the netlist out.
use Rattle.std.proofs.Common.{◌≡◌, ℕ, ◌+◌, ◌-◌, ◌<◌, ◌≤◌, Bool, true, false, cond, ltb, Some, None, MatchBool, Option, unwrap_or, sym, refl, ap, ◌∙◌, arith}
use Rattle.std.proofs.lemmas.Bool.Decides.{nat_tests}
use Rattle.std.specs.Option.{option_map}
use Rattle.fabric.specs.declared.parts.Side.{Side}
use Rattle.fabric.specs.declared.parts.Side.TheVariants.{Left}
use Rattle.fabric.specs.declared.parts.Source.TheVariants.{Own, Track}
use Rattle.fabric.specs.declared.parts.Pin.{Pin}
use Rattle.fabric.specs.Fabrics.{Size, cell_count, at_edge, neighbour}
use Rattle.netlist.specs.declared.parts.Net.{Net}
use Rattle.netlist.specs.declared.parts.Net.TheVariants.{Zero, Input, Cell}
use Rattle.netlist.specs.Netlists.{Netlist}
use Rattle.place.specs.Plain.{plain_occupant}
use Rattle.place.proofs.Standing.{occupied, occupant_is, occupant_none, plain_places}
use Rattle.route.specs.Layouts.{Gives, CellAs}
use Rattle.route.specs.Plain.{toward, distance, plain_source, plain_net, begins, plain_layout, PlainRealizes}
use Rattle.route.specs.Nets.{Exists}
use Rattle.route.proofs.Ways.{way_ends, way_open, way_nearer, distance_below, first_left, first_above}

-- 1. Which net a track carries.

pub net_of_input : (i n j : ℕ) → j < i → plain_net i n j ≡ Input j
unfolding plain_net
net_of_input i n j l = grind (arith, nat_tests)

pub net_of_cell : (i n j : ℕ) → j < n → plain_net i n (i + j) ≡ Cell j
unfolding plain_net
net_of_cell i n j l = grind (arith, nat_tests)

net_by : (i n t : ℕ) (x y : Bool) → ltb t i ≡ x → ltb t (i + n) ≡ y → Exists i n (cond x (Input t) (cond y (Cell (t - i)) Zero))
net_by i n t true y p q = grind (arith, nat_tests)
net_by i n t false true p q = grind (arith, nat_tests)
net_by i n t false false p q = tt

pub net_exists : (i n t : ℕ) → Exists i n (plain_net i n t)
unfolding plain_net
net_exists i n t = net_by i n t (ltb t i) (ltb t (i + n)) refl refl

-- 2. Every source of the plain layout gives the net that is wanted.

at_an_edge : (P Q : Type 0) (b : Bool) → b ≡ true → P → MatchBool b P Q
at_an_edge P Q true e p = p
at_an_edge P Q false e p = let z : ◌≡◌ {A = ℕ} 0 1 = cc in grind arith

inside : (P Q : Type 0) (b : Bool) → b ≡ false → Q → MatchBool b P Q
inside P Q true e q = let z : ◌≡◌ {A = ℕ} 0 1 = cc in grind arith
inside P Q false e q = q

module _ (n : Netlist) (z : Size) (i : ℕ) (some : 0 < cell_count z) (room : n.count ≤ cell_count z) (tracks : i + n.count ≤ z.tracks) where
  input_given : (c j : ℕ) (o : Option Side) → c < cell_count z → j < i → toward z c 0 ≡ o →
      Gives z i (plain_layout z i n) c (unwrap_or (option_map (λ s. Track s j) o) (Track Left j)) (Input j)
  unfolding plain_layout
  input_given c j (Some s) l k t = (omega arith, inside _ _ (at_edge z c s) (way_open z c 0 s l some t) (sym (net_of_input i n.count j k)))
  input_given c j None l k t =
      let e : c ≡ 0 = way_ends z c 0 t in
      (omega arith, at_an_edge _ _ (at_edge z c Left) (rw e (first_left z some)) (j, k, cc, refl))

  cell_given : (c j : ℕ) (o : Option Side) → c < cell_count z → j < n.count → toward z c j ≡ o →
      Gives z i (plain_layout z i n) c (unwrap_or (option_map (λ s. Track s (i + j)) o) Own) (Cell j)
  unfolding plain_layout
  cell_given c j (Some s) l k t =
      (omega arith, inside _ _ (at_edge z c s) (way_open z c j s l (omega arith) t) (sym (net_of_cell i n.count j k)))
  cell_given c j None l k t =
      let e : c ≡ j = way_ends z c j t in rw e (sym (occupied n.count j k))

  pub given : (c : ℕ) (net : Net) → c < cell_count z → Exists i n.count net →
      Gives z i (plain_layout z i n) c (plain_source z i c net) net
  unfolding plain_source
  given c Zero l x = refl
  given c (Input j) l x = input_given c j (toward z c 0) l x refl
  given c (Cell j) l x = cell_given c j (toward z c j) l x refl

  -- 3. Along the way of a net the distance from where it begins falls.

  begins_inside : (net : Net) → Exists i n.count net → begins net < cell_count z
  unfolding begins
  begins_inside Zero x = some
  begins_inside (Input j) x = some
  begins_inside (Cell j) x = omega arith

  input_falls : (c j : ℕ) (o : Option Side) (s' : Side) (t' : ℕ) → c < cell_count z → toward z c 0 ≡ o →
      unwrap_or (option_map (λ s. Track s j) o) (Track Left j) ≡ Track s' t' → at_edge z c s' ≡ false →
      (t' ≡ j) × (distance z (neighbour z c s') 0 < distance z c 0)
  input_falls c j (Some s) s' t' l t e f =
      let a : s ≡ s' = cc in (cc, rw (← a) (way_nearer z c 0 s l some t))
  input_falls c j None s' t' l t e f =
      let a : Left ≡ s' = cc in let b : c ≡ 0 = way_ends z c 0 t in let d = first_left z some in
      let k : true ≡ false = cc in grind arith

  cell_falls : (c j : ℕ) (o : Option Side) (s' : Side) (t' : ℕ) → c < cell_count z → j < n.count → toward z c j ≡ o →
      unwrap_or (option_map (λ s. Track s (i + j)) o) Own ≡ Track s' t' →
      (t' ≡ i + j) × (distance z (neighbour z c s') j < distance z c j)
  cell_falls c j (Some s) s' t' l x t e =
      let a : s ≡ s' = cc in (cc, rw (← a) (way_nearer z c j s l (omega arith) t))
  cell_falls c j None s' t' l x t e = let k : ◌≡◌ {A = ℕ} 0 1 = cc in grind arith

  falls : (c : ℕ) (net : Net) (s' : Side) (t' : ℕ) → c < cell_count z → Exists i n.count net →
      plain_source z i c net ≡ Track s' t' → at_edge z c s' ≡ false →
      distance z (neighbour z c s') (begins (plain_net i n.count t')) < distance z c (begins net)
  unfolding plain_source begins
  falls c Zero s' t' l x e f = let k : ◌≡◌ {A = ℕ} 0 1 = cc in grind arith
  falls c (Input j) s' t' l x e f =
      let r = input_falls c j (toward z c 0) s' t' l refl e f in
      let q : plain_net i n.count t' ≡ Input j = rw r.0 (net_of_input i n.count j x) in
      rw q r.1
  falls c (Cell j) s' t' l x e f =
      let r = cell_falls c j (toward z c j) s' t' l x refl e in
      let q : plain_net i n.count t' ≡ Cell j = rw r.0 (net_of_cell i n.count j x) in
      rw q r.1

-- 4. The theorem.

-- what a netlist says of its inputs is that there are such nets
pub net_known : (i n : ℕ) (net : Net) → ((j : ℕ) → net ≡ Cell j → j < n) → ((j : ℕ) → net ≡ Input j → j < i) → Exists i n net
net_known i n Zero f g = tt
net_known i n (Input j) f g = g j refl
net_known i n (Cell j) f g = f j refl

pub plain_realizes : PlainRealizes
unfolding plain_layout
plain_realizes n z i o b some room tracks cells_known inputs_known outs outs_apart p = record {
  places = plain_places n.count z room;
  used = used;
  unused = λ c l e. p.blank c (occupant_none n.count c e) l;
  tracks = λ c s t l k. rw (p.drive c s t l k) (given n z i some room tracks c (plain_net i n.count t) l (net_exists i n.count t));
  hops_fall = λ c s t s' t' l k e k' f.
      falls n z i some room tracks c (plain_net i n.count t) s' t' l (net_exists i n.count t) (sym (p.drive c s t l k) ∙ e) f;
  hops_most = λ c s t l k.
      distance_below z c (begins (plain_net i n.count t)) l
      (begins_inside n z i some room tracks (plain_net i n.count t) (net_exists i n.count t));
  in_edge = λ j l. record { cell = some; track = omega arith; edge = first_left z some };
  in_apart = λ j k l m e. ap (λ (q : Pin). q.track) e;
  out_edge = λ m l. record { cell = some; track = omega (arith, outs m l); edge = first_above z some };
  out_apart = λ m k l r e. let a : i + n.output m ≡ i + n.output k = ap (λ (q : Pin). q.track) e in outs_apart m k l r (omega arith);
  out_net = λ m l. net_of_cell i n.count (n.output m) (outs m l);
}
  where
    used : (c j : ℕ) → c < cell_count z → plain_occupant n.count c ≡ Cell j → CellAs n z i b (plain_layout z i n) c j
    used c j l e =
        let r = occupant_is n.count c j e in
        rw r.0 (record {
          table = λ k h. p.table c k r.1 h;
          inputs = λ k h. rw (p.input c k r.1 h)
              (given n z i some room tracks c (n.input c k) l
              (net_known i n.count (n.input c k) (λ m. cells_known c k m r.1 h) (λ m. inputs_known c k m r.1 h)));
          holds = p.holds c r.1;
          initial = p.initial c r.1;
        })
