-- What the code's buses stand for.
-- Only proofs use these definitions: no promise to a user names them.
use Rattle.std.specs.Prelude.{ℕ, replicate, slice_index_or}
use Rattle.netlist.specs.declared.parts.Net.{Net}
use Rattle.netlist.specs.declared.parts.Net.TheVariants.{Zero}
use Rattle.netlist.specs.declared.bus.Bus.{Bus}

-- no net at any bit
abbrev pub no_bus : Bus
no_bus = record { nets = replicate 64 Zero }

abbrev pub net_of : Bus → ℕ → Net
net_of b k = slice_index_or b.nets k Zero
