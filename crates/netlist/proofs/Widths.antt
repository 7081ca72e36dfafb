-- In a sound design the words of well-formed expressions have 1 to 64 bits.
use Rattle.std.proofs.Common.{◌≡◌, ℕ, ◌<◌, ◌≤◌, true, ◌&&◌, leb, arith}
use Rattle.std.proofs.lemmas.Bool.{ltb-true, leb-true, and_parts}
use Rattle.design.specs.Designs.{Design, Expr, Sound, width, well_formed, width_ok, register_sound, input_sound}
use Rattle.design.specs.Designs.{input, register, constant, and, or, xor, not, add, less, equal, mux, slice, concat}
use Rattle.netlist.proofs.Steps.{same_width, choice_width, slice_width, concat_width}

pub record Range (w : ℕ) : Type 0 where
  pub low : 1 ≤ w
  pub high : w ≤ 64

pub range_from : (w : ℕ) → (leb 1 w && leb w 64) ≡ true → Range w
range_from w h = let p = and_parts (leb 1 w) (leb w 64) h in record { low = leb-true 1 w p.0; high = leb-true w 64 p.1 }

module _ (d : Design) (s : Sound d) where
  pub input_range : (i : ℕ) → i < d.inputs → Range (d.input_width i)
  unfolding input_sound width_ok
  input_range i h = range_from (d.input_width i) (s.inputs i h)

  pub register_range : (r : ℕ) → r < d.registers → Range (d.register_width r)
  unfolding register_sound width_ok
  register_range r h = range_from (d.register_width r) (and_parts _ _ (s.registers r h)).0

  pub width_range : (e : Expr) → well_formed d e ≡ true → Range (width d e)
  unfolding width well_formed
  width_range (input i) w = input_range i (ltb-true i d.inputs w)
  width_range (register r) w = register_range r (ltb-true r d.registers w)
  width_range (constant v a) w = range_from v w
  width_range (and a b) w = width_range a (same_width d a b w).0
  width_range (or a b) w = width_range a (same_width d a b w).0
  width_range (xor a b) w = width_range a (same_width d a b w).0
  width_range (not a) w = width_range a w
  width_range (add a b) w = width_range a (same_width d a b w).0
  width_range (less a b) w = record { low = omega arith; high = omega arith }
  width_range (equal a b) w = record { low = omega arith; high = omega arith }
  width_range (mux c a b) w = width_range a (same_width d a b (choice_width d c _ w).2).0
  width_range (slice l v a) w =
      let p = slice_width d l v a w in
      let r = width_range a p.0 in
      record { low = p.1; high = omega (arith, p.2, r.high) }
  width_range (concat a b) w =
      let p = concat_width d a b w in
      let r = width_range a p.0 in
      record { low = omega (arith, r.low); high = p.2 }
