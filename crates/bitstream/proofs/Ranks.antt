-- The ranks of a layout: by the place of the net's cell in the netlist's order, then by hops.
use Rattle.std.proofs.Common.{◌≡◌, ℕ, suc, ◌+◌, ◌*◌, ◌<◌, Bool, true, false, cond, ◌⊎◌, sym, refl, ap, ◌∙◌, inl, inr, mul-le-mul_left, arith}
use Rattle.std.proofs.lemmas.Bool.Decides.{when_false}
use Rattle.fabric.specs.declared.parts.Side.{Side}
use Rattle.fabric.specs.declared.parts.Source.{Source}
use Rattle.fabric.specs.declared.parts.Source.TheVariants.{Nothing, Own, Track}
use Rattle.fabric.specs.Fabrics.{Size, cell_count, opposite, at_edge, neighbour, Config}
use Rattle.fabric.specs.Laws.{Rank, ReadsBelow, Ranked}
use Rattle.fabric.proofs.Geometry.{neighbour_inside}
use Rattle.netlist.specs.declared.parts.Net.{Net}
use Rattle.netlist.specs.declared.parts.Net.TheVariants.{Zero, Input, Cell}
use Rattle.netlist.specs.Netlists.{Netlist}
use Rattle.route.specs.Layouts.{Layout, Gives, Realizes}
use Rattle.bitstream.proofs.Valuation.{Ordered}

-- inputs and cells that hold come first, then the other cells in order, with room for the hops between
unfoldable pub base : Netlist → (most : ℕ) → Net → ℕ
base n most Zero = 0
base n most (Input j) = 0
base n most (Cell j) = cond (n.holds j) 0 (suc most * suc j)

abbrev pub rank_of : Netlist → Layout → (most : ℕ) → Rank
rank_of n l most = record {
  cell = λ c. base n most (l.occupant c);
  track = λ c s t. base n most (l.carried c s t) + suc (l.hops c s t);
}

-- a net that a cell may read comes before it, with room for the hops
base_below : (n : Netlist) (most : ℕ) (net : Net) (j : ℕ) → n.holds j ≡ false →
    ((k : ℕ) → net ≡ Cell k → (n.holds k ≡ true) ⊎ (k < j)) → base n most net + most < base n most (Cell j)
unfolding base
base_below n most Zero j e h = rw e (omega arith)
base_below n most (Input k) j e h = rw e (omega arith)
base_below n most (Cell k) j e h = go (h k refl) (n.holds k) refl
  where
    go : (n.holds k ≡ true) ⊎ (k < j) → (b : Bool) → n.holds k ≡ b → cond b 0 (suc most * suc k) + most < cond (n.holds j) 0 (suc most * suc j)
    go w true f = rw e (omega arith)
    go (inl a) false f = absurd (grind arith)
    go (inr a) false f = rw e (omega (arith, mul-le-mul_left (suc most) a))

module _ (n : Netlist) (z : Size) (i o : ℕ) (b : Config) (l : Layout) (most : ℕ) (re : Realizes n z i o b l most) where
  -- what a source reads comes before r, if its net does, with room for the hops
  cell_reads : (c : ℕ) → c < cell_count z → (source : Source) (net : Net) (r : ℕ) → Gives z i l c source net → base n most net + most < r →
      ReadsBelow z (rank_of n l most) c source r
  cell_reads c m Nothing net r g h = tt
  cell_reads c m Own net r g h = omega (arith, ap (base n most) g)
  cell_reads c m (Track s t) net r g h = λ k e.
      let f : net ≡ l.carried (neighbour z c s) (opposite s) t = when_false _ _ e g.1 in
      omega (arith, ap (base n most) f, re.hops_most (neighbour z c s) (opposite s) t (neighbour_inside z c s m e) k)

  track_reads : (c : ℕ) → c < cell_count z → (source : Source) (net : Net) (h : ℕ) → Gives z i l c source net →
      ((s : Side) (t : ℕ) → source ≡ Track s t → t < z.tracks → at_edge z c s ≡ false → l.hops (neighbour z c s) (opposite s) t < h) →
      ReadsBelow z (rank_of n l most) c source (base n most net + suc h)
  track_reads c m Nothing net h g fall = tt
  track_reads c m Own net h g fall = omega (arith, ap (base n most) g)
  track_reads c m (Track s t) net h g fall = λ k e.
      let f : net ≡ l.carried (neighbour z c s) (opposite s) t = when_false _ _ e g.1 in
      omega (arith, ap (base n most) f, fall s t refl k e)

  pub layout_ranked : Ordered n → Ranked z b (rank_of n l most)
  layout_ranked ordered = record {
    cells = λ c k m q e. go c k m q e (re.places.only c m);
    tracks = λ c s t m k.
        track_reads c m (b.drive c s t) (l.carried c s t) (l.hops c s t) (re.tracks c s t m k) (λ s' t'. re.hops_fall c s t s' t' m k);
  }
    where
      go : (c k : ℕ) → c < cell_count z → k < 4 → b.holds c ≡ false →
          (l.occupant c ≡ Zero) ⊎ ((j : ℕ) × (j < n.count) × (l.occupant c ≡ Cell j) × (l.home j ≡ c)) →
          ReadsBelow z (rank_of n l most) c (b.input c k) (base n most (l.occupant c))
      go c k m q e (inl f) = rw ((re.unused c m f).inputs k q) tt
      go c k m q e (inr (j, u, f, g)) =
          let a = re.used c j m f in
          let d : n.holds j ≡ false = sym a.holds ∙ e in
          rw f (cell_reads c m (b.input c k) (n.input j k) (base n most (Cell j)) (a.inputs k q)
          (base_below n most (n.input j k) j d (λ w y. ordered j k w u q d y)))
