-- A netlist that grows: what was right of it stays right, and a row of gates carries what its tables say.
use Rattle.std.proofs.Common.{◌≡◌, ℕ, zero, suc, ◌+◌, ◌-◌, ◌<◌, ◌≤◌, Bool, false, refl, ap, ◌∙◌, ⊎_elim, arith}
use Rattle.std.proofs.lemmas.Bool.{cases_lt}
use Rattle.design.specs.Designs.{Words, Design, Expr}
use Rattle.netlist.specs.declared.parts.Net.{Net}
use Rattle.netlist.specs.declared.parts.Net.TheVariants.{Zero, Cell}
use Rattle.netlist.specs.declared.parts.Cell.{Cell as CellT}
use Rattle.netlist.specs.Netlists.{net_level}
use Rattle.netlist.specs.Building.{Cells, register_bits, Signal, looked_up, Fits, BitsAre, There, Carries, CarriesWord, GateOk, Extends, Grows, Appended}
use Rattle.netlist.proofs.Gates.{cell_there, zero_there}

-- 1. Extending.

pub extends_trans : (f : ℕ) (cs cs₁ cs₂ : Cells) (n n₁ n₂ : ℕ) → Extends f cs n cs₁ n₁ → Extends f cs₁ n₁ cs₂ n₂ → Extends f cs n cs₂ n₂
extends_trans f cs cs₁ cs₂ n n₁ n₂ a b = record {
  more = omega arith;
  same = λ c l h. b.same c l (omega (arith, a.more)) ∙ a.same c l h;
}

pub extends_from : (f : ℕ) (cs cs₁ : Cells) (n n₁ : ℕ) → Extends 0 cs n cs₁ n₁ → Extends f cs n cs₁ n₁
extends_from f cs cs₁ n n₁ a = record { more = a.more; same = λ c l u. a.same c (omega arith) u }

pub fits_before : (r : ℕ) (cs cs₁ : Cells) (n n₁ : ℕ) (x h v : ℕ → Bool) → Extends r cs n cs₁ n₁ → Fits r cs₁ n₁ x h v → Fits r cs n x h v
fits_before r cs cs₁ n n₁ x h v e f = record {
  held = f.held;
  gates = λ c low high. f.gates c low (omega (arith, e.more)) ∙ ap (looked_up x v) (e.same c low high);
}

pub there_more : (d : Design) (n n₁ : ℕ) (net : Net) → n ≤ n₁ → There d n net → There d n₁ net
there_more d n n₁ net h t = record { input = t.input; cell = λ j q. omega (arith, t.cell j q) }

pub carries_more : (d : Design) (cs cs₁ : Cells) (n n₁ : ℕ) (net : Net) (s : Signal) → Extends (register_bits d) cs n cs₁ n₁ → Carries d cs n net s → Carries d cs₁ n₁ net s
carries_more d cs cs₁ n n₁ net s ext c = record {
  there = there_more d n n₁ net ext.more c.there;
  level = λ ins regs x h v bits f. c.level ins regs x h v bits (fits_before (register_bits d) cs cs₁ n n₁ x h v ext f);
}

pub gate_more : (d : Design) (c : ℕ) (cell cell₁ : CellT) → cell₁ ≡ cell → GateOk d c cell → GateOk d c cell₁
gate_more d c cell cell₁ e g = rw e g

-- 2. Growing.

pub grows_refl : (d : Design) (cs : Cells) (n : ℕ) → Grows d cs n cs n
grows_refl d cs n = record { extends = record { more = omega arith; same = λ c l h. refl }; gates = λ c l h. absurd (omega arith) }

pub grows_trans : (d : Design) (cs cs₁ cs₂ : Cells) (n n₁ n₂ : ℕ) → Grows d cs n cs₁ n₁ → Grows d cs₁ n₁ cs₂ n₂ → Grows d cs n cs₂ n₂
grows_trans d cs cs₁ cs₂ n n₁ n₂ a b = record {
  extends = extends_trans 0 cs cs₁ cs₂ n n₁ n₂ a.extends b.extends;
  gates = λ c l h. ⊎_elim
      (λ (q : c < n₁). gate_more d c (cs₁ c) (cs₂ c) (b.extends.same c (omega arith) q) (a.gates c l q))
      (λ (q : n₁ ≤ c). b.gates c q h)
      (cases_lt c n₁);
}

-- what was carried still is
pub grows_carries : (d : Design) (cs cs₁ : Cells) (n n₁ : ℕ) (net : Net) (s : Signal) → Grows d cs n cs₁ n₁ → Carries d cs n net s → Carries d cs₁ n₁ net s
grows_carries d cs cs₁ n n₁ net s g c = carries_more d cs cs₁ n n₁ net s (extends_from (register_bits d) cs cs₁ n n₁ g.extends) c

pub grows_word : (d : Design) (cs cs₁ : Cells) (n n₁ : ℕ) (nets : ℕ → Net) (e : Expr) → Grows d cs n cs₁ n₁ → CarriesWord d cs n nets e → CarriesWord d cs₁ n₁ nets e
grows_word d cs cs₁ n n₁ nets e g c k h = grows_carries d cs cs₁ n n₁ (nets k) _ g (c k h)

-- all gates of a netlist that grows are right
pub grows_gates : (d : Design) (cs cs₁ : Cells) (n n₁ r : ℕ) → Grows d cs n cs₁ n₁ → ((c : ℕ) → r ≤ c → c < n → GateOk d c (cs c)) → (c : ℕ) → r ≤ c → c < n₁ → GateOk d c (cs₁ c)
grows_gates d cs cs₁ n n₁ r g before c low high = ⊎_elim
    (λ (q : c < n). gate_more d c (cs c) (cs₁ c) (g.extends.same c (omega arith) q) (before c low q))
    (λ (q : n ≤ c). g.gates c q high)
    (cases_lt c n)

-- a net that is always 0
pub zero_carries : (d : Design) (cs : Cells) (n : ℕ) → Carries d cs n Zero (λ ins regs. false)
unfolding net_level
zero_carries d cs n = record { there = zero_there d n; level = λ ins regs x h v bits f. refl }

-- the same net under another name
pub carries_as : (d : Design) (cs : Cells) (n : ℕ) (net net₁ : Net) (s : Signal) → net₁ ≡ net → Carries d cs n net s → Carries d cs n net₁ s
carries_as d cs n net net₁ s e c = rw e c

-- 3. Rows: each cell reads what was there and earlier cells of the row, and looks up its signal.

module _ (d : Design) (cs cs₁ : Cells) (n m : ℕ) (new : ℕ → CellT) (s : ℕ → Signal) (low : register_bits d ≤ n) (a : Appended cs n cs₁ m new)
    (ok : (k : ℕ) → k < m → GateOk d (n + k) (new k))
    (means : (k : ℕ) → k < m → (ins regs : Words) (x h v : ℕ → Bool) → BitsAre d ins regs x h → Fits (register_bits d) cs n x h v →
    ((j : ℕ) → j < k → v (n + j) ≡ s j ins regs) → looked_up x v (new k) ≡ s k ins regs) where
  pub row_grows : Grows d cs n cs₁ (n + m)
  row_grows = record {
    extends = record { more = omega arith; same = λ c l h. a.same c h };
    gates = λ c l h.
        let e : n + (c - n) ≡ c = omega arith in
        let k : c - n < m = omega arith in
        let g : GateOk d (n + (c - n)) (cs₁ (n + (c - n))) = gate_more d (n + (c - n)) (new (c - n)) (cs₁ (n + (c - n))) (a.added (c - n) k) (ok (c - n) k) in
        rw e at g;
  }

  levels : (ins regs : Words) (x h v : ℕ → Bool) → BitsAre d ins regs x h → Fits (register_bits d) cs₁ (n + m) x h v →
      (b k : ℕ) → k < b → k < m → v (n + k) ≡ s k ins regs
  levels ins regs x h v bits f zero k l u = absurd (omega arith)
  levels ins regs x h v bits f (suc b) k l u =
      let f₀ = fits_before (register_bits d) cs cs₁ n (n + m) x h v (extends_from (register_bits d) cs cs₁ n (n + m) row_grows.extends) f in
      f.gates (n + k) (omega arith) (omega arith) ∙ ap (looked_up x v) (a.added k u)
      ∙ means k u ins regs x h v bits f₀ (λ j i. levels ins regs x h v bits f b j (omega arith) (omega arith))

  pub row_carries : (k : ℕ) → k < m → Carries d cs₁ (n + m) (Cell (n + k)) (s k)
  unfolding net_level
  row_carries k u = record {
    there = cell_there d (n + m) (n + k) (omega arith);
    level = λ ins regs x h v bits f. levels ins regs x h v bits f (suc k) k (omega arith) u;
  }
