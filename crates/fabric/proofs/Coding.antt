-- Sources and the numbers that stand for them.
use Rattle.std.proofs.Common.{◌≡◌, ℕ, ◌+◌, ◌-◌, ◌*◌, ◌/◌, ◌%◌, ◌<◌, ◌≤◌, refl, arith}
use Rattle.std.proofs.lemmas.Bool.Decides.{nat_tests}
use Rattle.fabric.specs.declared.parts.Side.{Side}
use Rattle.fabric.specs.declared.parts.Side.TheVariants.{Right, Below, Left, Above}
use Rattle.fabric.specs.declared.parts.Source.TheVariants.{Track}
use Rattle.fabric.specs.Numbers.{side_number, source_of, track_from}
use Rattle.fabric.specs.Code.{side_at}

pub side_number_small : (s : Side) → side_number s < 4
unfolding side_number
side_number_small Right = omega arith
side_number_small Below = omega arith
side_number_small Left = omega arith
side_number_small Above = omega arith

pub side_at_number : (s : Side) → side_at (side_number s) ≡ s
unfolding side_number side_at
side_at_number Right = refl
side_at_number Below = refl
side_at_number Left = refl
side_at_number Above = refl

pub number_side_at : (n : ℕ) → n < 4 → side_number (side_at n) ≡ n
unfolding side_number side_at
number_side_at n h = grind (arith, nat_tests)

track_from_number : (s : Side) (t : ℕ) → track_from (side_number s) t ≡ Track s t
unfolding side_number track_from
track_from_number Right t = refl
track_from_number Below t = refl
track_from_number Left t = refl
track_from_number Above t = refl

source_track : (n a b : ℕ) → 2 ≤ n → (n - 2) / 64 ≡ a → (n - 2) % 64 ≡ b → source_of n ≡ track_from a b
unfolding source_of
source_track n a b h p q = grind (arith, nat_tests)

-- the number of a track, decoded
pub source_of_track : (s : Side) (t n : ℕ) → t < 64 → n ≡ 2 + 64 * side_number s + t → source_of n ≡ Track s t
source_of_track s t n h e =
    let d : (n - 2) / 64 ≡ side_number s = omega (arith, side_number_small s) in
    let m : (n - 2) % 64 ≡ t = omega (arith, side_number_small s) in
    let g : 2 ≤ n = omega arith in
    rw (source_track n (side_number s) t g d m) (track_from_number s t)
