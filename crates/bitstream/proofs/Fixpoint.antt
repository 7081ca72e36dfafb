-- The state that a layout and a valuation of its netlist give: every source reads its net's level, so a sweep leaves it as it is.
use Rattle.std.proofs.Common.{◌≡◌, ℕ, ◌+◌, ◌*◌, ◌<◌, ◌≤◌, Bool, true, false, cond, ltb, ◌⊎◌, MatchBool, sym, ap, ◌∙◌, inl, inr, arith}
use Rattle.std.proofs.lemmas.Bool.Decides.{nat_tests}
use Rattle.design.specs.Designs.{bit}
use Rattle.fabric.specs.declared.parts.Side.{Side}
use Rattle.fabric.specs.declared.parts.Source.{Source}
use Rattle.fabric.specs.declared.parts.Source.TheVariants.{Nothing, Own, Track}
use Rattle.fabric.specs.declared.parts.Pin.{Pin}
use Rattle.fabric.specs.Fabrics.{Size, cell_count, opposite, at_edge, neighbour, Config, Signals, Pads, incoming, read, lookup, sweep, Agree}
use Rattle.netlist.specs.declared.parts.Net.{Net}
use Rattle.netlist.specs.declared.parts.Net.TheVariants.{Zero, Input, Cell}
use Rattle.netlist.specs.Netlists.{Netlist, net_level, cell_address, cell_lookup, Consistent}
use Rattle.route.specs.Layouts.{Layout, Gives, CellAs, CellBlank, Realizes}

-- each cell shows, and each track carries, the level of its net
abbrev pub state_of : Layout → (x v : ℕ → Bool) → Signals
state_of l x v = record { cell = λ c. net_level x v (l.occupant c); track = λ c s t. net_level x v (l.carried c s t) }

-- what the pad at a pin carries
abbrev pub at_pin : Pads → Pin → Bool
at_pin p q = p q.cell q.side q.track

bit_small : (b : Bool) → bit b ≤ 1
bit_small true = omega arith
bit_small false = omega arith

-- the address that four inputs say
abbrev four : (e0 e1 e2 e3 : Bool) → ℕ
four e0 e1 e2 e3 = bit e0 + 2 * bit e1 + 4 * bit e2 + 8 * bit e3

four_small : (e0 e1 e2 e3 : Bool) → four e0 e1 e2 e3 < 16
four_small e0 e1 e2 e3 = omega (arith, bit_small e0, bit_small e1, bit_small e2, bit_small e3)

address_small : (n : Netlist) (x v : ℕ → Bool) (j : ℕ) → cell_address n x v j < 16
unfolding cell_address
address_small n x v j = four_small _ _ _ _

module _ (z : Size) (i : ℕ) (l : Layout) (p : Pads) (x v : ℕ → Bool) (pads : (j : ℕ) → j < i → at_pin p (l.in_pin j) ≡ x j) where
  incoming_gives : (c : ℕ) (s : Side) (t : ℕ) (net : Net) (e : Bool) →
      MatchBool e ((j : ℕ) × (j < i) × (l.in_pin j ≡ record { cell = c; side = s; track = t }) × (net ≡ Input j))
      (net ≡ l.carried (neighbour z c s) (opposite s) t) →
      cond e (p c s t) (net_level x v (l.carried (neighbour z c s) (opposite s) t)) ≡ net_level x v net
  unfolding net_level
  incoming_gives c s t net true (j, b, q, f) =
      sym (ap (at_pin p) q) ∙ (pads j b ∙ sym (ap (net_level x v) f))
  incoming_gives c s t net false f = sym (ap (net_level x v) f)

  read_gives : (c : ℕ) (source : Source) (net : Net) → Gives z i l c source net → read z p (state_of l x v) c source ≡ net_level x v net
  unfolding read incoming net_level
  read_gives c Nothing net g = sym (ap (net_level x v) g)
  read_gives c Own net g = sym (ap (net_level x v) g)
  read_gives c (Track s t) net g =
      let there : ltb t z.tracks ≡ true = let m = g.0 in grind (arith, nat_tests) in
      rw there (incoming_gives c s t net (at_edge z c s) g.1)

  lookup_gives : (n : Netlist) (b : Config) (c j : ℕ) → CellAs n z i b l c j → lookup z b p (state_of l x v) c ≡ cell_lookup n x v j
  unfolding lookup cell_lookup cell_address
  lookup_gives n b c j a = go ∙ a.table (cell_address n x v j) (address_small n x v j)
    where
      go : lookup z b p (state_of l x v) c ≡ b.table c (cell_address n x v j)
      go =
          let e0 = read_gives c (b.input c 0) (n.input j 0) (a.inputs 0 (omega arith)) in
          let e1 = read_gives c (b.input c 1) (n.input j 1) (a.inputs 1 (omega arith)) in
          let e2 = read_gives c (b.input c 2) (n.input j 2) (a.inputs 2 (omega arith)) in
          let e3 = read_gives c (b.input c 3) (n.input j 3) (a.inputs 3 (omega arith)) in
          cc

lookup_blank : (z : Size) (b : Config) (p : Pads) (g : Signals) (c : ℕ) → CellBlank b c → lookup z b p g c ≡ false
unfolding lookup
lookup_blank z b p g c a = a.table _ (four_small _ _ _ _)

module _ (n : Netlist) (z : Size) (i o : ℕ) (b : Config) (l : Layout) (most : ℕ) (re : Realizes n z i o b l most)
    (held : ℕ → Bool) (p : Pads) (x v : ℕ → Bool) (pads : (j : ℕ) → j < i → at_pin p (l.in_pin j) ≡ x j)
    (fits : Consistent n x (λ j. held (l.home j)) v) where
  cell_fixed : (c : ℕ) → c < cell_count z → cond (b.holds c) (held c) (lookup z b p (state_of l x v) c) ≡ net_level x v (l.occupant c)
  unfolding net_level
  cell_fixed c m = go (re.places.only c m)
    where
      go : (l.occupant c ≡ Zero) ⊎ ((j : ℕ) × (j < n.count) × (l.occupant c ≡ Cell j) × (l.home j ≡ c)) →
          cond (b.holds c) (held c) (lookup z b p (state_of l x v) c) ≡ net_level x v (l.occupant c)
      go (inl e) =
          let a = re.unused c m e in
          rw (a.holds, e) (lookup_blank z b p (state_of l x v) c a)
      go (inr (j, k, e, f)) =
          let a = re.used c j m e in
          let u = lookup_gives z i l p x v pads n b c j a in
          let w = ap held f in
          let y = a.holds in
          let q = fits j k in
          rw (e, y, u, ← w) (sym q)

  pub state_fixed : Agree z (sweep z b held p (state_of l x v)) (state_of l x v)
  unfolding sweep
  state_fixed = record {
    cells = cell_fixed;
    tracks = λ c s t m k. read_gives z i l p x v pads c (b.drive c s t) (l.carried c s t) (re.tracks c s t m k);
  }

  pub home_looks_up : (j : ℕ) → j < n.count → lookup z b p (state_of l x v) (l.home j) ≡ cell_lookup n x v j
  home_looks_up j k =
      lookup_gives z i l p x v pads n b (l.home j) j (re.used (l.home j) j (re.places.inside j k) (re.places.there j k))
