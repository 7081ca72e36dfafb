-- What the cells that lowering makes look up.
use Rattle.std.proofs.Common.{◌≡◌, ℕ, zero, suc, ◌+◌, ◌*◌, ◌<◌, Bool, true, false, cond, not, ◌&&◌, ◌||◌, refl, arith}
use mathlib.Core.Bool.{xor}
use Rattle.design.specs.Designs.{bit, word, Design}
use Rattle.netlist.specs.declared.parts.Net.{Net}
use Rattle.netlist.specs.declared.parts.Net.TheVariants.{Zero, Cell}
use Rattle.netlist.specs.Netlists.{net_level}
use Rattle.netlist.specs.Building.{gate, register_cell, input_of, looked_up, There, GateOk}

-- an operation on the bits of two operands and a third bit
abbrev pub Op : Type 0
Op = Bool → Bool → Bool → Bool

-- a table of three inputs gives an operation
abbrev pub GivesOp : (table : ℕ) → Op → Type 0
GivesOp t op = (p q r : Bool) → word t (bit p + 2 * bit q + 4 * bit r + 8 * bit false) ≡ op p q r

-- the operations; one that has fewer operands gives 0 where the others are 1
abbrev pub and_op : Op
and_op p q r = cond r false (p && q)

abbrev pub or_op : Op
or_op p q r = cond r false (p || q)

abbrev pub xor_op : Op
xor_op p q r = cond r false (xor p q)

abbrev pub not_op : Op
not_op p q r = cond r false (cond q false (not p))

abbrev pub mux_op : Op
mux_op p q r = cond r p q

abbrev pub sum_op : Op
sum_op p q r = xor (xor p q) r

abbrev pub carry_op : Op
carry_op p q r = (p && q) || (r && xor p q)

abbrev pub less_op : Op
less_op p q r = (not p && q) || (not (xor p q) && r)

abbrev pub equal_op : Op
equal_op p q r = not (xor p q) && r

abbrev pub same_op : Op
same_op p q r = cond r false (not (xor p q))

abbrev pub pass_op : Op
pass_op p q r = cond r false (cond q false p)

gives : (t : ℕ) (op : Op) →
    word t 0 ≡ op false false false → word t 1 ≡ op true false false → word t 2 ≡ op false true false → word t 3 ≡ op true true false →
    word t 4 ≡ op false false true → word t 5 ≡ op true false true → word t 6 ≡ op false true true → word t 7 ≡ op true true true → GivesOp t op
gives t op e0 e1 e2 e3 e4 e5 e6 e7 false false false = e0
gives t op e0 e1 e2 e3 e4 e5 e6 e7 true false false = e1
gives t op e0 e1 e2 e3 e4 e5 e6 e7 false true false = e2
gives t op e0 e1 e2 e3 e4 e5 e6 e7 true true false = e3
gives t op e0 e1 e2 e3 e4 e5 e6 e7 false false true = e4
gives t op e0 e1 e2 e3 e4 e5 e6 e7 true false true = e5
gives t op e0 e1 e2 e3 e4 e5 e6 e7 false true true = e6
gives t op e0 e1 e2 e3 e4 e5 e6 e7 true true true = e7

pub and_table : GivesOp 8 and_op
unfolding word
and_table = gives 8 and_op refl refl refl refl refl refl refl refl

pub or_table : GivesOp 14 or_op
unfolding word
or_table = gives 14 or_op refl refl refl refl refl refl refl refl

pub xor_table : GivesOp 6 xor_op
unfolding word xor
xor_table = gives 6 xor_op refl refl refl refl refl refl refl refl

pub not_table : GivesOp 1 not_op
unfolding word
not_table = gives 1 not_op refl refl refl refl refl refl refl refl

pub mux_table : GivesOp 172 mux_op
unfolding word
mux_table = gives 172 mux_op refl refl refl refl refl refl refl refl

pub sum_table : GivesOp 150 sum_op
unfolding word xor
sum_table = gives 150 sum_op refl refl refl refl refl refl refl refl

pub carry_table : GivesOp 232 carry_op
unfolding word xor
carry_table = gives 232 carry_op refl refl refl refl refl refl refl refl

pub less_table : GivesOp 212 less_op
unfolding word xor
less_table = gives 212 less_op refl refl refl refl refl refl refl refl

pub equal_table : GivesOp 144 equal_op
unfolding word xor
equal_table = gives 144 equal_op refl refl refl refl refl refl refl refl

pub same_table : GivesOp 9 same_op
unfolding word xor
same_table = gives 9 same_op refl refl refl refl refl refl refl refl

pub pass_table : GivesOp 2 pass_op
unfolding word
pass_table = gives 2 pass_op refl refl refl refl refl refl refl refl

-- what a gate looks up
pub gate_looks_up : (t : ℕ) (op : Op) → GivesOp t op → (x v : ℕ → Bool) (a b c : Net) →
    looked_up x v (gate t a b c) ≡ op (net_level x v a) (net_level x v b) (net_level x v c)
unfolding looked_up net_level
gate_looks_up t op h x v a b c = h (net_level x v a) (net_level x v b) (net_level x v c)

bit_back : (b : Bool) → word (bit b) 0 ≡ b
unfolding word
bit_back true = refl
bit_back false = refl

pub constant_looks_up : (x v : ℕ → Bool) (b : Bool) → looked_up x v (gate (bit b) Zero Zero Zero) ≡ b
unfolding looked_up net_level
constant_looks_up x v b = bit_back b

pub register_looks_up : (x v : ℕ → Bool) (a : Net) (i : Bool) → looked_up x v (register_cell a i) ≡ net_level x v a
unfolding looked_up net_level
register_looks_up x v a i = pass_table (net_level x v a) false false

-- nets that are there
pub zero_there : (d : Design) (n : ℕ) → There d n Zero
zero_there d n = record { input = λ j q. absurd (let z : ◌≡◌ {A = ℕ} 0 1 = cc in omega arith); cell = λ j q. absurd (let z : ◌≡◌ {A = ℕ} 0 1 = cc in omega arith) }

pub cell_there : (d : Design) (n c : ℕ) → c < n → There d n (Cell c)
cell_there d n c h = record { input = λ j q. absurd (let z : ◌≡◌ {A = ℕ} 0 1 = cc in omega arith); cell = λ j q. let s : c ≡ j = cc in omega arith }

pub gate_ok : (d : Design) (n t : ℕ) (a b c : Net) → There d n a → There d n b → There d n c → GateOk d n (gate t a b c)
gate_ok d n t a b c ta tb tc = record { holds = refl; reads = reads }
  where
    reads : (k : ℕ) → k < 4 → There d n (input_of (gate t a b c) k)
    reads zero h = ta
    reads (suc zero) h = tb
    reads (suc (suc zero)) h = tc
    reads (suc (suc (suc zero))) h = zero_there d n
    reads (suc (suc (suc (suc k)))) h = absurd (omega arith)
