-- The way from a cell toward another: it is open, each step of it comes nearer, and it ends there.
use Rattle.std.proofs.Common.{◌≡◌, ℕ, ◌+◌, ◌/◌, ◌%◌, ◌<◌, true, false, Some, None, arith}
use Rattle.std.proofs.lemmas.Bool.Decides.{nat_tests}
use Rattle.fabric.specs.declared.parts.Side.{Side}
use Rattle.fabric.specs.declared.parts.Side.TheVariants.{Right, Below, Left, Above}
use Rattle.fabric.specs.Fabrics.{Size, cell_count, at_edge, neighbour}
use Rattle.fabric.proofs.Geometry.{columns_positive, row_below, column_below, place_determined, row_of, column_of, right_row, right_column, below_row, below_column, left_row, left_column, above_row, above_column}
use Rattle.route.specs.Plain.{toward, distance}

-- 1. What a side says of the rows and columns.

toward_right : (z : Size) (c e : ℕ) → toward z c e ≡ Some Right → (c / z.columns ≡ e / z.columns) × (c % z.columns < e % z.columns)
unfolding toward
toward_right z c e t = grind (arith, nat_tests)

toward_left : (z : Size) (c e : ℕ) → toward z c e ≡ Some Left → (c / z.columns ≡ e / z.columns) × (e % z.columns < c % z.columns)
unfolding toward
toward_left z c e t = grind (arith, nat_tests)

toward_below : (z : Size) (c e : ℕ) → toward z c e ≡ Some Below → c / z.columns < e / z.columns
unfolding toward
toward_below z c e t = grind (arith, nat_tests)

toward_above : (z : Size) (c e : ℕ) → toward z c e ≡ Some Above → e / z.columns < c / z.columns
unfolding toward
toward_above z c e t = grind (arith, nat_tests)

toward_none : (z : Size) (c e : ℕ) → toward z c e ≡ None → (c / z.columns ≡ e / z.columns) × (c % z.columns ≡ e % z.columns)
unfolding toward
toward_none z c e t = grind (arith, nat_tests)

-- 2. The laws of the way.

pub way_ends : (z : Size) (c e : ℕ) → toward z c e ≡ None → c ≡ e
way_ends z c e t = let r = toward_none z c e t in place_determined z.columns c e r.0 r.1

pub way_open : (z : Size) (c e : ℕ) (s : Side) → c < cell_count z → e < cell_count z → toward z c e ≡ Some s → at_edge z c s ≡ false
unfolding at_edge
way_open z c e Right l m t =
    let r = toward_right z c e t in let b = column_below z.columns z.rows e m in grind (arith, nat_tests)
way_open z c e Below l m t =
    let r = toward_below z c e t in let b = row_below z.columns z.rows e m in grind (arith, nat_tests)
way_open z c e Left l m t = let r = toward_left z c e t in grind (arith, nat_tests)
way_open z c e Above l m t = let r = toward_above z c e t in grind (arith, nat_tests)

pub way_nearer : (z : Size) (c e : ℕ) (s : Side) → c < cell_count z → e < cell_count z → toward z c e ≡ Some s →
    distance z (neighbour z c s) e < distance z c e
unfolding neighbour distance
way_nearer z c e Right l m t =
    let W = z.columns in let r = toward_right z c e t in let b = column_below W z.rows e m in
    let k : c % W + 1 < W = omega arith in
    omega (arith, right_row W c k, right_column W c k)
way_nearer z c e Below l m t =
    let W = z.columns in let r = toward_below z c e t in let p = columns_positive W z.rows c l in
    omega (arith, below_row W c p, below_column W c p)
way_nearer z c e Left l m t =
    let W = z.columns in let r = toward_left z c e t in let p = columns_positive W z.rows c l in
    let k : 0 < c % W = omega arith in
    omega (arith, left_row W c p k, left_column W c p k)
way_nearer z c e Above l m t =
    let W = z.columns in let r = toward_above z c e t in let p = columns_positive W z.rows c l in
    let k : 0 < c / W = omega arith in
    omega (arith, above_row W c p k, above_column W c p k)

pub distance_below : (z : Size) (c e : ℕ) → c < cell_count z → e < cell_count z → distance z c e < z.rows + z.columns + 1
unfolding distance
distance_below z c e l m =
    let W = z.columns in let h = z.rows in
    omega (arith, row_below W h c l, row_below W h e m, column_below W h c l, column_below W h e m)

-- 3. The first cell is at the left edge and at the upper edge.

pub first_left : (z : Size) → 0 < cell_count z → at_edge z 0 Left ≡ true
unfolding at_edge
first_left z l =
    let W = z.columns in let e = column_of W 0 0 0 (columns_positive W z.rows 0 l) (omega arith) in grind (arith, nat_tests)

pub first_above : (z : Size) → 0 < cell_count z → at_edge z 0 Above ≡ true
unfolding at_edge
first_above z l =
    let W = z.columns in let e = row_of W 0 0 0 (columns_positive W z.rows 0 l) (omega arith) in grind (arith, nat_tests)
