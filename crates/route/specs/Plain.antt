-- The plain layout: cell j of the netlist stands on cell j of the fabric, and every net has one track number of its own, on which it runs
-- everywhere: input bits first, then cells. At a cell, a net comes from the side that is nearer to where it begins, first along the column
-- to its row, then along the row; input bits begin at the left edge of cell 0. Output bits go out at the upper edge of cell 0.
-- Only proofs use these definitions: no promise to a user names them.
use Rattle.std.specs.Prelude.{◌≡◌, ℕ, ◌+◌, ◌-◌, ◌/◌, ◌%◌, ◌<◌, ◌≤◌, cond, Some, None, Option, nat_lt}
use Rattle.std.specs.Option.{option_map, unwrap_or}
use Rattle.fabric.specs.declared.parts.Side.{Side}
use Rattle.fabric.specs.declared.parts.Side.TheVariants.{Right, Below, Left, Above}
use Rattle.fabric.specs.declared.parts.Source.{Source}
use Rattle.fabric.specs.declared.parts.Source.TheVariants.{Nothing, Own, Track}
use Rattle.fabric.specs.Fabrics.{Size, cell_count, Config}
use Rattle.netlist.specs.declared.parts.Net.{Net}
use Rattle.netlist.specs.declared.parts.Net.TheVariants.{Zero, Input, Cell}
use Rattle.netlist.specs.Netlists.{Netlist}
use Rattle.place.specs.Plain.{plain_occupant}
use Rattle.route.specs.Layouts.{Layout, CellBlank, Realizes}

-- the side of cell c from which something that begins at cell e comes; none where c is e
unfoldable pub toward : Size → (c e : ℕ) → Option Side
toward z c e =
    cond (nat_lt (e / z.columns) (c / z.columns)) (Some Above) (cond (nat_lt (c / z.columns) (e / z.columns)) (Some Below)
    (cond (nat_lt (e % z.columns) (c % z.columns)) (Some Left) (cond (nat_lt (c % z.columns) (e % z.columns)) (Some Right) None)))

-- how far c is from e
unfoldable pub distance : Size → (c e : ℕ) → ℕ
distance z c e = (c / z.columns - e / z.columns) + (e / z.columns - c / z.columns) + ((c % z.columns - e % z.columns) + (e % z.columns - c % z.columns))

-- where cell c takes the net from, with so many input bits
unfoldable pub plain_source : Size → (input_bits : ℕ) → (c : ℕ) → Net → Source
plain_source z i c Zero = Nothing
plain_source z i c (Input j) = unwrap_or (option_map (λ s. Track s j) (toward z c 0)) (Track Left j)
plain_source z i c (Cell j) = unwrap_or (option_map (λ s. Track s (i + j)) (toward z c j)) Own

-- the net that a track carries, with so many input bits and cells
unfoldable pub plain_net : (input_bits count : ℕ) → (t : ℕ) → Net
plain_net i n t = cond (nat_lt t i) (Input t) (cond (nat_lt t (i + n)) (Cell (t - i)) Zero)

-- where a net begins
unfoldable pub begins : Net → ℕ
begins Zero = 0
begins (Input j) = 0
begins (Cell j) = j

unfoldable pub plain_layout : Size → (input_bits : ℕ) → Netlist → Layout
plain_layout z i n = record {
  home = λ j. j;
  occupant = plain_occupant n.count;
  carried = λ c s t. plain_net i n.count t;
  hops = λ c s t. distance z c (begins (plain_net i n.count t));
  in_pin = λ j. record { cell = 0; side = Left; track = j };
  out_pin = λ m. record { cell = 0; side = Above; track = i + n.output m };
}

-- the configuration is that of the plain layout
pub record PlainConfig (n : Netlist) (z : Size) (i : ℕ) (b : Config) : Type 0 where
  pub table : (c k : ℕ) → c < n.count → k < 16 → b.table c k ≡ n.table c k
  pub input : (c k : ℕ) → c < n.count → k < 4 → b.input c k ≡ plain_source z i c (n.input c k)
  pub holds : (c : ℕ) → c < n.count → b.holds c ≡ n.holds c
  pub initial : (c : ℕ) → c < n.count → b.initial c ≡ n.initial c
  pub blank : (c : ℕ) → n.count ≤ c → c < cell_count z → CellBlank b c
  pub drive : (c : ℕ) (s : Side) (t : ℕ) → c < cell_count z → t < z.tracks → b.drive c s t ≡ plain_source z i c (plain_net i n.count t)

-- The plain layout, where there is room for it, lays the netlist out. The netlist's inputs name cells and input bits that there are, and
-- its output bits are cells apart.
abbrev pub PlainRealizes : Type 0
PlainRealizes = (n : Netlist) (z : Size) (i o : ℕ) (b : Config) →
    0 < cell_count z → n.count ≤ cell_count z → i + n.count ≤ z.tracks →
    ((c k j : ℕ) → c < n.count → k < 4 → n.input c k ≡ Cell j → j < n.count) →
    ((c k j : ℕ) → c < n.count → k < 4 → n.input c k ≡ Input j → j < i) →
    ((m : ℕ) → m < o → n.output m < n.count) →
    ((m k : ℕ) → m < o → k < o → n.output m ≡ n.output k → m ≡ k) →
    PlainConfig n z i b → Realizes n z i o b (plain_layout z i n) (z.rows + z.columns + 1)
