-- Agreement of states, and sweeps of states that agree.
use Rattle.std.proofs.Common.{◌≡◌, ℕ, zero, suc, ◌<◌, Bool, true, false, cond, ltb, sym, refl, ap, ◌∙◌, arith}
use Rattle.std.proofs.lemmas.Bool.Decides.{nat_tests}
use Rattle.fabric.specs.declared.parts.Source.{Source}
use Rattle.fabric.specs.declared.parts.Source.TheVariants.{Nothing, Own, Track}
use Rattle.fabric.specs.Fabrics.{Size, cell_count, opposite, at_edge, neighbour, Config, Signals, Pads, incoming, read, lookup, sweep, swept, Agree}
use Rattle.fabric.proofs.Geometry.{neighbour_inside}

pub agree_refl : (z : Size) (g : Signals) → Agree z g g
agree_refl z g = record { cells = λ c l. refl; tracks = λ c s t l m. refl }

pub agree_sym : (z : Size) (g h : Signals) → Agree z g h → Agree z h g
agree_sym z g h a = record { cells = λ c l. sym (a.cells c l); tracks = λ c s t l m. sym (a.tracks c s t l m) }

pub agree_trans : (z : Size) (g h i : Signals) → Agree z g h → Agree z h i → Agree z g i
agree_trans z g h i a b =
    record { cells = λ c l. a.cells c l ∙ b.cells c l; tracks = λ c s t l m. a.tracks c s t l m ∙ b.tracks c s t l m }

-- what the source at the cell reads, if it is a cell or a track of the fabric, is the same in both states
abbrev pub SameAt : Size → (g h : Signals) → (c : ℕ) → Source → Type 0
SameAt z g h c Nothing = Unit {0}
SameAt z g h c Own = g.cell c ≡ h.cell c
SameAt z g h c (Track s t) = t < z.tracks → at_edge z c s ≡ false →
    g.track (neighbour z c s) (opposite s) t ≡ h.track (neighbour z c s) (opposite s) t

-- the two ways of a test
cond_same : (e : Bool) (x y y' : Bool) → (e ≡ false → y ≡ y') → cond e x y ≡ cond e x y'
cond_same true x y y' f = refl
cond_same false x y y' f = f refl

cond_same_taken : (e : Bool) (x x' y : Bool) → (e ≡ true → x ≡ x') → cond e x y ≡ cond e x' y
cond_same_taken true x x' y f = f refl
cond_same_taken false x x' y f = refl

pub read_same : (z : Size) (p : Pads) (g h : Signals) (c : ℕ) (s : Source) → SameAt z g h c s → read z p g c s ≡ read z p h c s
unfolding read incoming
read_same z p g h c Nothing a = refl
read_same z p g h c Own a = a
read_same z p g h c (Track s t) a =
    cond_same_taken (ltb t z.tracks) _ _ false
    (λ b. cond_same (at_edge z c s) _ _ _ (λ n. a (grind (arith, nat_tests)) n))

pub lookup_same : (z : Size) (b : Config) (p : Pads) (g h : Signals) (c : ℕ) → ((i : ℕ) → i < 4 → SameAt z g h c (b.input c i)) →
    lookup z b p g c ≡ lookup z b p h c
unfolding lookup
lookup_same z b p g h c a =
    let e0 = read_same z p g h c (b.input c 0) (a 0 (omega arith)) in
    let e1 = read_same z p g h c (b.input c 1) (a 1 (omega arith)) in
    let e2 = read_same z p g h c (b.input c 2) (a 2 (omega arith)) in
    let e3 = read_same z p g h c (b.input c 3) (a 3 (omega arith)) in
    cc

pub agree_same_at : (z : Size) (g h : Signals) → Agree z g h → (c : ℕ) → c < cell_count z → (s : Source) → SameAt z g h c s
agree_same_at z g h a c l Nothing = tt
agree_same_at z g h a c l Own = a.cells c l
agree_same_at z g h a c l (Track s t) = λ m n. a.tracks (neighbour z c s) (opposite s) t (neighbour_inside z c s l n) m

pub sweep_agrees : (z : Size) (b : Config) (held : ℕ → Bool) (p : Pads) (g h : Signals) → Agree z g h → Agree z (sweep z b held p g) (sweep z b held p h)
unfolding sweep
sweep_agrees z b held p g h a = record {
  cells = λ c l. ap (cond (b.holds c) (held c)) (lookup_same z b p g h c (λ i m. agree_same_at z g h a c l (b.input c i)));
  tracks = λ c s t l m. read_same z p g h c (b.drive c s t) (agree_same_at z g h a c l (b.drive c s t));
}

pub swept_agrees : (n : ℕ) (z : Size) (b : Config) (held : ℕ → Bool) (p : Pads) (g h : Signals) → Agree z g h →
    Agree z (swept n z b held p g) (swept n z b held p h)
unfolding swept
swept_agrees zero z b held p g h a = a
swept_agrees (suc n) z b held p g h a =
    sweep_agrees z b held p (swept n z b held p g) (swept n z b held p h) (swept_agrees n z b held p g h a)
