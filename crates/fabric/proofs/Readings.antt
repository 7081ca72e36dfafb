-- What the code of a fabric's readings rests on.
use Rattle.std.proofs.Common.{◌≡◌, ℕ, ◌+◌, ◌*◌, ◌<◌, ◌≤◌, Bool, true, false, length, refl, arith}
use Rattle.std.specs.Int.{from_bool}
use Rattle.fabric.specs.declared.wiring.Wiring.{Wiring}
use Rattle.fabric.specs.Fabrics.{cell_count}
use Rattle.fabric.specs.Numbers.{per_cell}
use Rattle.fabric.specs.Code.{grid_of}
use Rattle.design.specs.Designs.{bit}
use Rattle.fabric.proofs.Indices.{word_below}

pub word_inside : (w : Wiring) (c k q : ℕ) → c < cell_count (grid_of w) → k < per_cell (grid_of w) → q ≡ per_cell (grid_of w) → c * q + k < length w.bits.now
unfolding per_cell
word_inside w c k q h m e = rw (e, w.bits_len) (word_below (cell_count (grid_of w)) (per_cell (grid_of w)) c k h m)

pub bits_few : (w : Wiring) → length w.bits.now ≤ 32000
bits_few w = rw w.bits_len w.grid.fits

pub bit_byte : (b : Bool) → from_bool b ≡ bit b
bit_byte true = refl
bit_byte false = refl

pub bit_small : (b : Bool) → bit b < 2
bit_small true = omega arith
bit_small false = omega arith
