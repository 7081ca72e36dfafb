-- How the summary of an operation comes from those of its operands.
use Rattle.std.proofs.Common.{◌≡◌, ℕ, ◌+◌, ◌*◌, ◌≤◌, min, Bool, true, false, ◌&&◌, eqb, ltb, leb, sym, refl, ap, ◌∙◌, arith}
use Rattle.std.proofs.lemmas.Bool.{and_parts, leb-true}
use Rattle.design.specs.declared.summary.Summary.{Summary}
use Rattle.design.specs.Designs.{Design, Expr, Word, input, register, constant, mux, slice, concat, width, well_formed, cells}
use Rattle.design.specs.Designs.{and as and_expr, or as or_expr, xor as xor_expr, not as not_expr, add, less, equal}
use Rattle.design.specs.Summaries.{Summarizes}

-- tests on widths that are known only where their expressions are well-formed
same_test : (p q : Bool) (v w v' w' : ℕ) → (p ≡ true → v ≡ v') → (q ≡ true → w ≡ w') → (p && (q && eqb v w)) ≡ (p && (q && eqb v' w'))
same_test true true v w v' w' e f = cc (e refl, f refl)
same_test true false v w v' w' e f = refl
same_test false q v w v' w' e f = refl

one_test : (p t : Bool) (v v' : ℕ) → (p ≡ true → v ≡ v') → (p && (eqb v 1 && t)) ≡ (p && (eqb v' 1 && t))
one_test true t v v' e = cc (e refl)
one_test false t v v' e = refl

low_test : (p t : Bool) (m v v' : ℕ) → (p ≡ true → v ≡ v') → (p && (t && leb m v)) ≡ (p && (t && leb m v'))
low_test true t m v v' e = cc (e refl)
low_test false t m v v' e = refl

sum_test : (p q : Bool) (v w v' w' : ℕ) → (p ≡ true → v ≡ v') → (q ≡ true → w ≡ w') → (p && (q && leb (v + w) 64)) ≡ (p && (q && leb (v' + w') 64))
sum_test true true v w v' w' e f = cc (e refl, f refl)
sum_test true false v w v' w' e f = refl
sum_test false q v w v' w' e f = refl

-- sums that stop at the cap
pub capped_two : (x y : ℕ) → min 65536 (min 65536 x + min 65536 y) ≡ min 65536 (x + y)
capped_two x y = grind arith

capped_bits : (x y w : ℕ) → min 65536 (min 65536 (min 65536 x + min 65536 y) + w) ≡ min 65536 (x + y + w)
capped_bits x y w = grind arith

capped_mux : (c x y w : ℕ) → min 65536 (min 65536 c + min 65536 (min 65536 (min 65536 x + min 65536 y) + w)) ≡ min 65536 (c + (x + y + w))
capped_mux c x y w = grind arith

pub capped_one : (x w : ℕ) → min 65536 (min 65536 x + w) ≡ min 65536 (x + w)
capped_one x w = grind arith

-- two operands of one width
abbrev Pair : Design → Expr → Expr → Bool
Pair d x y = well_formed d x && (well_formed d y && eqb (width d x) (width d y))

pub binary_right : (d : Design) (x y e : Expr) (a b r : Summary) (v : ℕ → ℕ) (k : ℕ → ℕ) →
    well_formed d e ≡ Pair d x y → width d e ≡ v (width d x) → cells d e ≡ cells d x + cells d y + k (width d x) →
    Summarizes d x a → Summarizes d y b →
    r.width ≡ v a.width → r.formed ≡ (a.formed && (b.formed && eqb a.width b.width)) →
    r.cells ≡ min 65536 (min 65536 (a.cells + b.cells) + k a.width) → Summarizes d e r
binary_right d x y e a b r v k form wide count sa sb rw' rf rc =
    let test : (a.formed && (b.formed && eqb a.width b.width)) ≡ Pair d x y =
    rw (sa.0, sb.0) (same_test (well_formed d x) (well_formed d y) a.width b.width (width d x) (width d y) sa.1 sb.1) in
    let parts : well_formed d e ≡ true → (well_formed d x ≡ true) × (well_formed d y ≡ true) = λ h.
    let p = and_parts (well_formed d x) (well_formed d y && eqb (width d x) (width d y)) (sym form ∙ h) in
    (p.0, (and_parts (well_formed d y) (eqb (width d x) (width d y)) p.1).0) in (
      rf ∙ test ∙ sym form,
      (λ h. rw' ∙ ap v (sa.1 (parts h).0) ∙ sym wide),
      (λ h. rc ∙ rw (sa.2 (parts h).0, sb.2 (parts h).1, sa.1 (parts h).0, count) (capped_bits (cells d x) (cells d y) (k (width d x)))),
    )

pub not_right : (d : Design) (x : Expr) (a r : Summary) → Summarizes d x a →
    r.width ≡ a.width → r.formed ≡ a.formed → r.cells ≡ min 65536 (a.cells + a.width) → Summarizes d (not_expr x) r
unfolding well_formed width cells
not_right d x a r sa rw' rf rc =
    (rf ∙ sa.0, (λ h. rw' ∙ sa.1 h), (λ h. rc ∙ rw (sa.2 h, sa.1 h) (capped_one (cells d x) (width d x))))

pub mux_right : (d : Design) (x y z : Expr) (c a b r : Summary) → Summarizes d x c → Summarizes d y a → Summarizes d z b →
    r.width ≡ a.width → r.formed ≡ (c.formed && (eqb c.width 1 && (a.formed && (b.formed && eqb a.width b.width)))) →
    r.cells ≡ min 65536 (c.cells + min 65536 (min 65536 (a.cells + b.cells) + a.width)) → Summarizes d (mux x y z) r
unfolding well_formed width cells
mux_right d x y z c a b r sc sa sb rw' rf rc =
    let test : (a.formed && (b.formed && eqb a.width b.width)) ≡ Pair d y z =
    rw (sa.0, sb.0) (same_test (well_formed d y) (well_formed d z) a.width b.width (width d y) (width d z) sa.1 sb.1) in
    let parts : well_formed d (mux x y z) ≡ true → (well_formed d x ≡ true) × (well_formed d y ≡ true) × (well_formed d z ≡ true) = λ h.
    let p = and_parts (well_formed d x) (eqb (width d x) 1 && Pair d y z) h in
    let q = and_parts (eqb (width d x) 1) (Pair d y z) p.1 in
    let s = and_parts (well_formed d y) (well_formed d z && eqb (width d y) (width d z)) q.1 in
    (p.0, s.0, (and_parts (well_formed d z) (eqb (width d y) (width d z)) s.1).0) in (
      rf ∙ rw (test, sc.0) (one_test (well_formed d x) (Pair d y z) c.width (width d x) sc.1),
      (λ h. rw' ∙ sa.1 (parts h).1),
      (λ h. rc ∙ rw (sc.2 (parts h).0, sa.2 (parts h).1, sb.2 (parts h).2, sa.1 (parts h).1) (capped_mux (cells d x) (cells d y) (cells d z) (width d y))),
    )

pub slice_right : (d : Design) (l w : ℕ) (x : Expr) (a r : Summary) → Summarizes d x a →
    r.width ≡ w → r.formed ≡ (a.formed && (leb 1 w && leb (l + w) a.width)) → r.cells ≡ a.cells → Summarizes d (slice l w x) r
unfolding well_formed width cells
slice_right d l w x a r sa rw' rf rc =
    let parts : well_formed d (slice l w x) ≡ true → well_formed d x ≡ true = λ h. (and_parts (well_formed d x) (leb 1 w && leb (l + w) (width d x)) h).0 in
    (rf ∙ rw sa.0 (low_test (well_formed d x) (leb 1 w) (l + w) a.width (width d x) sa.1), (λ h. rw'), (λ h. rc ∙ sa.2 (parts h)))

pub concat_right : (d : Design) (x y : Expr) (a b r : Summary) → Summarizes d x a → Summarizes d y b →
    (a.width + b.width ≤ 64 → r.width ≡ a.width + b.width) → r.formed ≡ (a.formed && (b.formed && leb (a.width + b.width) 64)) →
    r.cells ≡ min 65536 (a.cells + b.cells) → Summarizes d (concat x y) r
unfolding well_formed width cells
concat_right d x y a b r sa sb rw' rf rc =
    let parts : well_formed d (concat x y) ≡ true → (well_formed d x ≡ true) × (well_formed d y ≡ true) × (width d x + width d y ≤ 64) = λ h.
    let p = and_parts (well_formed d x) (well_formed d y && leb (width d x + width d y) 64) h in
    let q = and_parts (well_formed d y) (leb (width d x + width d y) 64) p.1 in
    (p.0, q.0, leb-true (width d x + width d y) 64 q.1) in (
      rf ∙ rw (sa.0, sb.0) (sum_test (well_formed d x) (well_formed d y) a.width b.width (width d x) (width d y) sa.1 sb.1),
      (λ h.
          let p = sa.1 (parts h).0 in
          let q = sb.1 (parts h).1 in
          let l = (parts h).2 in
          let e = rw' (omega arith) in
          omega arith),
      (λ h. rc ∙ rw (sa.2 (parts h).0, sb.2 (parts h).1) (capped_two (cells d x) (cells d y))),
    )

pub constant_right : (d : Design) (w : ℕ) (v : Word) (r : Summary) → r.width ≡ w → r.formed ≡ (leb 1 w && leb w 64) → r.cells ≡ w → Summarizes d (constant w v) r
unfolding well_formed width cells
constant_right d w v r rw' rf rc =
    (rf, (λ h. rw'), (λ h. let l = leb-true w 64 (and_parts (leb 1 w) (leb w 64) h).1 in grind arith))

pub input_right : (d : Design) (i : ℕ) (r : Summary) → r.width ≡ d.input_width i → r.formed ≡ ltb i d.inputs → r.cells ≡ 0 → Summarizes d (input i) r
unfolding well_formed width cells
input_right d i r rw' rf rc = (rf, (λ h. rw'), (λ h. rc))

pub register_right : (d : Design) (i : ℕ) (r : Summary) → r.width ≡ d.register_width i → r.formed ≡ ltb i d.registers → r.cells ≡ 0 → Summarizes d (register i) r
unfolding well_formed width cells
register_right d i r rw' rf rc = (rf, (λ h. rw'), (λ h. rc))

-- the operations on two operands of one width
pub and_right : (d : Design) (x y : Expr) (a b r : Summary) → Summarizes d x a → Summarizes d y b →
    r.width ≡ a.width → r.formed ≡ (a.formed && (b.formed && eqb a.width b.width)) →
    r.cells ≡ min 65536 (min 65536 (a.cells + b.cells) + a.width) →
    Summarizes d (and_expr x y) r × Summarizes d (or_expr x y) r × Summarizes d (xor_expr x y) r
unfolding well_formed width cells
and_right d x y a b r sa sb rw' rf rc = (
  binary_right d x y (and_expr x y) a b r (λ w. w) (λ w. w) refl refl refl sa sb rw' rf rc,
  binary_right d x y (or_expr x y) a b r (λ w. w) (λ w. w) refl refl refl sa sb rw' rf rc,
  binary_right d x y (xor_expr x y) a b r (λ w. w) (λ w. w) refl refl refl sa sb rw' rf rc,
)

pub add_right : (d : Design) (x y : Expr) (a b r : Summary) → Summarizes d x a → Summarizes d y b →
    r.width ≡ a.width → r.formed ≡ (a.formed && (b.formed && eqb a.width b.width)) →
    r.cells ≡ min 65536 (min 65536 (a.cells + b.cells) + 2 * a.width) → Summarizes d (add x y) r
unfolding well_formed width cells
add_right d x y a b r sa sb rw' rf rc = binary_right d x y (add x y) a b r (λ w. w) (λ w. 2 * w) refl refl refl sa sb rw' rf rc

pub compare_right : (d : Design) (x y : Expr) (a b r : Summary) → Summarizes d x a → Summarizes d y b →
    r.width ≡ 1 → r.formed ≡ (a.formed && (b.formed && eqb a.width b.width)) →
    r.cells ≡ min 65536 (min 65536 (a.cells + b.cells) + a.width) → Summarizes d (less x y) r × Summarizes d (equal x y) r
unfolding well_formed width cells
compare_right d x y a b r sa sb rw' rf rc = (
  binary_right d x y (less x y) a b r (λ w. 1) (λ w. w) refl refl refl sa sb rw' rf rc,
  binary_right d x y (equal x y) a b r (λ w. 1) (λ w. w) refl refl refl sa sb rw' rf rc,
)
