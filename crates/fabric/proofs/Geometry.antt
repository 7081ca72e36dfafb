-- Rows, columns and neighbours.
use Rattle.std.proofs.Common.{◌≡◌, ℕ, zero, suc, ◌+◌, ◌-◌, ◌*◌, ◌/◌, ◌%◌, ◌<◌, ◌≤◌, true, false, sym, refl, ap, ◌∙◌, arith}
use Rattle.std.proofs.lemmas.Bool.Decides.{nat_tests}
use Rattle.std.proofs.lemmas.Nat.{div-mul-add, mod-mul-add, div-add-mod', div_below, mod_below, mul-add-lt}
use Rattle.fabric.specs.declared.parts.Side.{Side}
use Rattle.fabric.specs.declared.parts.Side.TheVariants.{Right, Below, Left, Above}
use Rattle.fabric.specs.Fabrics.{Size, cell_count, opposite, at_edge, neighbour}
use Rattle.fabric.specs.Laws.{StepsReturn, EdgesAreClosed}

-- 1. Numbers: W columns, h rows, the cell c.

pub columns_positive : (W h c : ℕ) → c < W * h → 0 < W
columns_positive zero h c l = omega arith
columns_positive (suc w) h c l = omega arith

pub row_below : (W h c : ℕ) → c < W * h → c / W < h
row_below W h c l = div_below c W h (columns_positive W h c l) (omega arith)

pub column_below : (W h c : ℕ) → c < W * h → c % W < W
column_below W h c l = mod_below c W (columns_positive W h c l)

-- the row and the column determine the cell
pub place_determined : (W c e : ℕ) → c / W ≡ e / W → c % W ≡ e % W → c ≡ e
place_determined W c e p q =
    sym (div-add-mod' c W) ∙ (ap (λ (x : ℕ). x * W + c % W) p ∙ (ap (λ (x : ℕ). e / W * W + x) q ∙ div-add-mod' e W))

-- c is at row q and column r
pub row_of : (W c q r : ℕ) → r < W → c ≡ q * W + r → c / W ≡ q
row_of W c q r l e = ap (λ (x : ℕ). x / W) e ∙ div-mul-add q W r l

pub column_of : (W c q r : ℕ) → r < W → c ≡ q * W + r → c % W ≡ r
column_of W c q r l e = ap (λ (x : ℕ). x % W) e ∙ mod-mul-add q W r l

pub right_row : (W c : ℕ) → c % W + 1 < W → (c + 1) / W ≡ c / W
right_row W c l = row_of W (c + 1) (c / W) (c % W + 1) l (omega (arith, div-add-mod' c W))

pub right_column : (W c : ℕ) → c % W + 1 < W → (c + 1) % W ≡ c % W + 1
right_column W c l = column_of W (c + 1) (c / W) (c % W + 1) l (omega (arith, div-add-mod' c W))

pub below_row : (W c : ℕ) → 0 < W → (c + W) / W ≡ c / W + 1
below_row W c l = row_of W (c + W) (c / W + 1) (c % W) (mod_below c W l) (omega (arith, div-add-mod' c W))

pub below_column : (W c : ℕ) → 0 < W → (c + W) % W ≡ c % W
below_column W c l = column_of W (c + W) (c / W + 1) (c % W) (mod_below c W l) (omega (arith, div-add-mod' c W))

pub left_row : (W c : ℕ) → 0 < W → 0 < c % W → (c - 1) / W ≡ c / W
left_row W c l p = row_of W (c - 1) (c / W) (c % W - 1) (omega (arith, mod_below c W l)) (omega (arith, div-add-mod' c W))

pub left_column : (W c : ℕ) → 0 < W → 0 < c % W → c % W ≡ (c - 1) % W + 1
left_column W c l p =
    omega (arith, column_of W (c - 1) (c / W) (c % W - 1) (omega (arith, mod_below c W l)) (omega (arith, div-add-mod' c W)))

one_above : (W c q : ℕ) → c / W ≡ suc q → c ≡ suc q * W + c % W
one_above W c q e = sym (div-add-mod' c W) ∙ ap (λ (x : ℕ). x * W + c % W) e

pub above_row : (W c : ℕ) → 0 < W → 0 < c / W → c / W ≡ (c - W) / W + 1
above_row W c l p =
    let e : c / W ≡ suc (c / W - 1) = omega arith in
    let f : c ≡ suc (c / W - 1) * W + c % W = one_above W c (c / W - 1) e in
    omega (arith, row_of W (c - W) (c / W - 1) (c % W) (mod_below c W l) (omega (arith, f)))

pub above_column : (W c : ℕ) → 0 < W → 0 < c / W → (c - W) % W ≡ c % W
above_column W c l p =
    let e : c / W ≡ suc (c / W - 1) = omega arith in
    let f : c ≡ suc (c / W - 1) * W + c % W = one_above W c (c / W - 1) e in
    column_of W (c - W) (c / W - 1) (c % W) (mod_below c W l) (omega (arith, f))

pub columns_below : (W c : ℕ) → 0 < c / W → W ≤ c
columns_below W c p =
    let e : c / W ≡ suc (c / W - 1) = omega arith in
    omega (arith, one_above W c (c / W - 1) e)

-- 2. What it says that a side is no edge.

pub no_right_edge : (z : Size) (c : ℕ) → c < cell_count z → at_edge z c Right ≡ false → c % z.columns + 1 < z.columns
unfolding at_edge
no_right_edge z c l n = let b = column_below z.columns z.rows c l in grind (arith, nat_tests)

pub no_below_edge : (z : Size) (c : ℕ) → c < cell_count z → at_edge z c Below ≡ false → c / z.columns + 1 < z.rows
unfolding at_edge
no_below_edge z c l n = let b = row_below z.columns z.rows c l in grind (arith, nat_tests)

pub no_left_edge : (z : Size) (c : ℕ) → at_edge z c Left ≡ false → 0 < c % z.columns
unfolding at_edge
no_left_edge z c n = grind (arith, nat_tests)

pub no_above_edge : (z : Size) (c : ℕ) → at_edge z c Above ≡ false → 0 < c / z.columns
unfolding at_edge
no_above_edge z c n = grind (arith, nat_tests)

-- 3. The row and the column of a neighbour.

pub right_place : (z : Size) (c : ℕ) → c < cell_count z → at_edge z c Right ≡ false →
    ((c + 1) / z.columns ≡ c / z.columns) × ((c + 1) % z.columns ≡ c % z.columns + 1)
right_place z c l n = let r = no_right_edge z c l n in (right_row z.columns c r, right_column z.columns c r)

pub below_place : (z : Size) (c : ℕ) → c < cell_count z →
    ((c + z.columns) / z.columns ≡ c / z.columns + 1) × ((c + z.columns) % z.columns ≡ c % z.columns)
below_place z c l = let p = columns_positive z.columns z.rows c l in (below_row z.columns c p, below_column z.columns c p)

pub left_place : (z : Size) (c : ℕ) → c < cell_count z → at_edge z c Left ≡ false →
    ((c - 1) / z.columns ≡ c / z.columns) × (c % z.columns ≡ (c - 1) % z.columns + 1)
left_place z c l n =
    let p = columns_positive z.columns z.rows c l in
    let r = no_left_edge z c n in
    (left_row z.columns c p r, left_column z.columns c p r)

pub above_place : (z : Size) (c : ℕ) → c < cell_count z → at_edge z c Above ≡ false →
    (c / z.columns ≡ (c - z.columns) / z.columns + 1) × ((c - z.columns) % z.columns ≡ c % z.columns)
above_place z c l n =
    let p = columns_positive z.columns z.rows c l in
    let r = no_above_edge z c n in
    (above_row z.columns c p r, above_column z.columns c p r)

-- 4. The step to a neighbour.

pub cell_at : (W h c : ℕ) → 0 < W → c / W < h → c < W * h
cell_at W h c p l = omega (arith, div-add-mod' c W, mul-add-lt (c / W) W (c % W) h l (mod_below c W p))

pub neighbour_inside : (z : Size) (c : ℕ) (s : Side) → c < cell_count z → at_edge z c s ≡ false → neighbour z c s < cell_count z
unfolding neighbour
neighbour_inside z c Right l n =
    let W = z.columns in let h = z.rows in let p = columns_positive W h c l in
    cell_at W h (c + 1) p (omega (arith, right_row W c (no_right_edge z c l n), row_below W h c l))
neighbour_inside z c Below l n =
    let W = z.columns in let h = z.rows in let p = columns_positive W h c l in
    cell_at W h (c + W) p (omega (arith, below_row W c p, no_below_edge z c l n))
neighbour_inside z c Left l n = omega arith
neighbour_inside z c Above l n = omega arith

pub steps_return : StepsReturn
unfolding neighbour opposite at_edge
steps_return z c Right l n =
    let W = z.columns in let h = z.rows in let p = columns_positive W h c l in
    let r : c % W + 1 < W = no_right_edge z c l n in
    let k = right_column W c r in
    (neighbour_inside z c Right l n, grind (arith, nat_tests), omega arith)
steps_return z c Below l n =
    let W = z.columns in let h = z.rows in let p = columns_positive W h c l in
    let k = below_row W c p in
    (neighbour_inside z c Below l n, grind (arith, nat_tests), omega arith)
steps_return z c Left l n =
    let W = z.columns in let h = z.rows in let p = columns_positive W h c l in
    let r = no_left_edge z c n in
    let k = left_column W c p r in
    let b = column_below W h c l in
    (neighbour_inside z c Left l n, grind (arith, nat_tests), omega (arith, div-add-mod' c W))
steps_return z c Above l n =
    let W = z.columns in let h = z.rows in let p = columns_positive W h c l in
    let r = no_above_edge z c n in
    let k = above_row W c p r in
    let b = row_below W h c l in
    (neighbour_inside z c Above l n, grind (arith, nat_tests), omega (arith, columns_below W c r))

pub opposite_twice : (s : Side) → opposite (opposite s) ≡ s
unfolding opposite
opposite_twice Right = refl
opposite_twice Below = refl
opposite_twice Left = refl
opposite_twice Above = refl

pub edges_are_closed : EdgesAreClosed
edges_are_closed z c e s l m t f a =
    let r = (steps_return z e (opposite s) m f).1 in
    let o = opposite_twice s in
    let k : true ≡ false = cc in
    grind arith
