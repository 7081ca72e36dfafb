-- The number and the place of each refusal, and how it is printed.
-- A reader has to believe these definitions. They assume nothing.
use Rattle.std.specs.Prelude.{ℕ, List, ◌++◌, codes, decimal}
use Rattle.design.specs.declared.refusal.Refusal.{Refusal}
use Rattle.design.specs.declared.refusal.Refusal.TheVariants.{Rows, Columns, Tracks, FabricSize, DesignLength, NumberTooLarge, TooManyNodes, BadNode, NoSuchNode, RoomLength, BitsLength, HeldLength, PadsLength, OutputsLength, UnsoundRegister, UnsoundOutput, UnsoundInput, Pins, Cells, NetTracks, Text, NotYet}

abbrev pub number_of : Refusal → ℕ
number_of Rows = 1
number_of Columns = 1
number_of Tracks = 1
number_of FabricSize = 1
number_of (DesignLength expected) = 2
number_of (NumberTooLarge place) = 3
number_of TooManyNodes = 3
number_of (BadNode node) = 3
number_of (NoSuchNode place) = 3
number_of RoomLength = 4
number_of BitsLength = 4
number_of HeldLength = 4
number_of PadsLength = 4
number_of OutputsLength = 4
number_of (UnsoundRegister register) = 5
number_of (UnsoundOutput place) = 5
number_of (UnsoundInput place) = 5
number_of (Pins needed) = 6
number_of (Cells needed) = 7
number_of (NetTracks needed) = 7
number_of (Text line) = 8
number_of (NotYet node) = 9

abbrev pub place_of : Refusal → ℕ
place_of Rows = 0
place_of Columns = 1
place_of Tracks = 2
place_of FabricSize = 3
place_of (DesignLength expected) = expected
place_of (NumberTooLarge place) = place
place_of TooManyNodes = 1024
place_of (BadNode node) = node
place_of (NoSuchNode place) = place
place_of RoomLength = 0
place_of BitsLength = 1
place_of HeldLength = 2
place_of PadsLength = 3
place_of OutputsLength = 4
place_of (UnsoundRegister register) = register
place_of (UnsoundOutput place) = place
place_of (UnsoundInput place) = place
place_of (Pins needed) = needed
place_of (Cells needed) = needed
place_of (NetTracks needed) = needed
place_of (Text line) = line
place_of (NotYet node) = node

-- refused N at PLACE
abbrev pub refusal_text : Refusal → List ℕ
refusal_text r = codes "refused " ++ (decimal (number_of r) ++ (codes " at " ++ decimal (place_of r)))
