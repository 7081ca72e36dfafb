-- When a configuration lays a netlist out on the fabric.
-- Only proofs use these definitions: no promise to a user names them.
use Rattle.std.specs.Prelude.{◌≡◌, ℕ, ◌<◌, false, MatchBool}
use Rattle.fabric.specs.declared.parts.Side.{Side}
use Rattle.fabric.specs.declared.parts.Source.{Source}
use Rattle.fabric.specs.declared.parts.Source.TheVariants.{Nothing, Own, Track}
use Rattle.fabric.specs.declared.parts.Pin.{Pin}
use Rattle.fabric.specs.Fabrics.{Size, cell_count, opposite, at_edge, neighbour, Config}
use Rattle.fabric.specs.Implements.{OnEdge}
use Rattle.netlist.specs.declared.parts.Net.{Net}
use Rattle.netlist.specs.declared.parts.Net.TheVariants.{Zero, Input, Cell}
use Rattle.netlist.specs.Netlists.{Netlist}
use Rattle.place.specs.Places.{Places}

-- Where the cells stand, which net each track carries, over how many tracks the net has come there, and the pins of the input bits and of
-- the output bits, each counted over all words.
pub record Layout : Type 0 where
  pub home : ℕ → ℕ
  pub occupant : ℕ → Net
  pub carried : ℕ → Side → ℕ → Net
  pub hops : ℕ → Side → ℕ → ℕ
  pub in_pin : ℕ → Pin
  pub out_pin : ℕ → Pin

-- the source, read at the cell c, gives the net; a pad is read only where it is the pin of an input bit
abbrev pub Gives : Size → (input_bits : ℕ) → Layout → (c : ℕ) → Source → Net → Type 0
Gives z i l c Nothing net = net ≡ Zero
Gives z i l c Own net = net ≡ l.occupant c
Gives z i l c (Track s t) net =
    (t < z.tracks)
    × MatchBool (at_edge z c s)
    ((j : ℕ) × (j < i) × (l.in_pin j ≡ record { cell = c; side = s; track = t }) × (net ≡ Input j))
    (net ≡ l.carried (neighbour z c s) (opposite s) t)

-- the fabric's cell c is configured as the netlist's cell j
pub record CellAs (n : Netlist) (z : Size) (i : ℕ) (b : Config) (l : Layout) (c j : ℕ) : Type 0 where
  pub table : (k : ℕ) → k < 16 → b.table c k ≡ n.table j k
  pub inputs : (k : ℕ) → k < 4 → Gives z i l c (b.input c k) (n.input j k)
  pub holds : b.holds c ≡ n.holds j
  pub initial : b.initial c ≡ n.initial j

-- the fabric's cell c shows 0
pub record CellBlank (b : Config) (c : ℕ) : Type 0 where
  pub table : (k : ℕ) → k < 16 → b.table c k ≡ false
  pub inputs : (k : ℕ) → k < 4 → b.input c k ≡ Nothing
  pub holds : b.holds c ≡ false

-- The configuration lays out the netlist, with so many input bits and output bits: every source, read where it stands, gives the net
-- that is wanted there, and along each net's way the hops fall.
pub record Realizes (n : Netlist) (z : Size) (input_bits output_bits : ℕ) (b : Config) (l : Layout) (most_hops : ℕ) : Type 0 where
  pub places : Places n.count z l.home l.occupant
  pub used : (c j : ℕ) → c < cell_count z → l.occupant c ≡ Cell j → CellAs n z input_bits b l c j
  pub unused : (c : ℕ) → c < cell_count z → l.occupant c ≡ Zero → CellBlank b c
  pub tracks : (c : ℕ) (s : Side) (t : ℕ) → c < cell_count z → t < z.tracks → Gives z input_bits l c (b.drive c s t) (l.carried c s t)
  pub hops_fall : (c : ℕ) (s : Side) (t : ℕ) (s' : Side) (t' : ℕ) → c < cell_count z → t < z.tracks → b.drive c s t ≡ Track s' t' →
      t' < z.tracks → at_edge z c s' ≡ false → l.hops (neighbour z c s') (opposite s') t' < l.hops c s t
  pub hops_most : (c : ℕ) (s : Side) (t : ℕ) → c < cell_count z → t < z.tracks → l.hops c s t < most_hops
  pub in_edge : (j : ℕ) → j < input_bits → OnEdge z (l.in_pin j)
  pub in_apart : (j k : ℕ) → j < input_bits → k < input_bits → l.in_pin j ≡ l.in_pin k → j ≡ k
  pub out_edge : (m : ℕ) → m < output_bits → OnEdge z (l.out_pin m)
  pub out_apart : (m k : ℕ) → m < output_bits → k < output_bits → l.out_pin m ≡ l.out_pin k → m ≡ k
  pub out_net : (m : ℕ) → m < output_bits → l.carried (l.out_pin m).cell (l.out_pin m).side (l.out_pin m).track ≡ Cell (n.output m)
