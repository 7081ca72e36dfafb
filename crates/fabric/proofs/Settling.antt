-- Ranks settle a fabric, and it is decided whether a fabric settles.
use Rattle.std.proofs.Common.{◌≡◌, ℕ, zero, suc, ◌+◌, ◌*◌, ◌<◌, ◌≤◌, Bool, true, false, cond, ltb, ◌⊎◌, refl, ◌∙◌, subst, inl, inr, arith}
use Rattle.std.proofs.lemmas.Bool.Decides.{nat_tests}
use Rattle.fabric.specs.declared.parts.Side.{Side}
use Rattle.fabric.specs.declared.parts.Side.TheVariants.{Right, Below, Left, Above}
use Rattle.fabric.specs.declared.parts.Source.{Source}
use Rattle.fabric.specs.declared.parts.Source.TheVariants.{Nothing, Own, Track}
use Rattle.fabric.specs.Fabrics.{Size, cell_count, opposite, neighbour, Config, Signals, Pads, lookup, sweep, swept, dark, final, enough, Agree}
use Rattle.fabric.specs.Laws.{Rank, ReadsBelow, Ranked, RanksSettle, SettlingIsDecided}
use Rattle.fabric.proofs.Geometry.{neighbour_inside}
use Rattle.fabric.proofs.Sweeps.{agree_sym, agree_trans, sweep_agrees, SameAt, read_same, lookup_same}

-- 1. Sums over the numbers below a bound.

abbrev sum : ℕ → (ℕ → ℕ) → ℕ
sum zero f = 0
sum (suc n) f = f n + sum n f

sum_mono : (n : ℕ) (f g : ℕ → ℕ) → ((i : ℕ) → f i ≤ g i) → sum n f ≤ sum n g
sum_mono zero f g h = omega arith
sum_mono (suc n) f g h = omega (arith, h n, sum_mono n f g h)

sum_strict : (n : ℕ) (f g : ℕ → ℕ) → ((i : ℕ) → f i ≤ g i) → (j : ℕ) → j < n → f j < g j → sum n f < sum n g
sum_strict zero f g h j l s = omega arith
sum_strict (suc n) f g h j l s = go (λ m. sum_strict n f g h j m s) (ltb j n) refl
  where
    go : (j < n → sum n f < sum n g) → (b : Bool) → ltb j n ≡ b → sum (suc n) f < sum (suc n) g
    go below true e = let m : j < n = grind (arith, nat_tests) in omega (arith, h n, below m)
    go below false e =
        let m : j ≡ n = grind (arith, nat_tests) in
        let t : f n < g n = subst (λ (x : ℕ). f x < g x) m s in
        omega (arith, t, sum_mono n f g h)

sum_bound : (n m : ℕ) (f : ℕ → ℕ) → ((i : ℕ) → f i ≤ m) → sum n f ≤ n * m
sum_bound zero m f h = omega arith
sum_bound (suc n) m f h = omega (arith, h n, sum_bound n m f h)

-- 2. How many cells and tracks have a rank below r. It keeps the order of ranks, and is at most as many as there are.

unfoldable one : (x r : ℕ) → ℕ
one x r = cond (ltb x r) 1 0

one_mono : (x r q : ℕ) → r ≤ q → one x r ≤ one x q
unfolding one
one_mono x r q l = grind (arith, nat_tests)

one_strict : (x q : ℕ) → x < q → one x x < one x q
unfolding one
one_strict x q l = grind (arith, nat_tests)

one_bound : (x r : ℕ) → one x r ≤ 1
unfolding one
one_bound x r = grind (arith, nat_tests)

side_count : ℕ → Rank → (c : ℕ) → Side → (r : ℕ) → ℕ
side_count T k c s r = sum T (λ t. one (k.track c s t) r)

side_mono : (T : ℕ) (k : Rank) (c : ℕ) (s : Side) (r q : ℕ) → r ≤ q → side_count T k c s r ≤ side_count T k c s q
unfolding side_count
side_mono T k c s r q l = sum_mono T (λ t. one (k.track c s t) r) (λ t. one (k.track c s t) q) (λ t. one_mono (k.track c s t) r q l)

side_strict : (T : ℕ) (k : Rank) (c : ℕ) (s : Side) (t q : ℕ) → t < T → k.track c s t < q →
    side_count T k c s (k.track c s t) < side_count T k c s q
unfolding side_count
side_strict T k c s t q m l =
    let r = k.track c s t in
    sum_strict T (λ t. one (k.track c s t) r) (λ t. one (k.track c s t) q) (λ t. one_mono (k.track c s t) r q (omega arith)) t m (one_strict r q l)

side_bound : (T : ℕ) (k : Rank) (c : ℕ) (s : Side) (r : ℕ) → side_count T k c s r ≤ T
unfolding side_count
side_bound T k c s r = omega (arith, sum_bound T 1 (λ t. one (k.track c s t) r) (λ t. one_bound (k.track c s t) r))

cell_tally : ℕ → Rank → (r c : ℕ) → ℕ
cell_tally T k r c =
    one (k.cell c) r + side_count T k c Right r + side_count T k c Below r + side_count T k c Left r + side_count T k c Above r

tally_mono : (T : ℕ) (k : Rank) (r q : ℕ) → r ≤ q → (c : ℕ) → cell_tally T k r c ≤ cell_tally T k q c
unfolding cell_tally
tally_mono T k r q l c =
    omega (arith, one_mono (k.cell c) r q l, side_mono T k c Right r q l, side_mono T k c Below r q l, side_mono T k c Left r q l, side_mono T k c Above r q l)

tally_cell : (T : ℕ) (k : Rank) (c q : ℕ) → k.cell c < q → cell_tally T k (k.cell c) c < cell_tally T k q c
unfolding cell_tally
tally_cell T k c q l =
    let r = k.cell c in
    let m : r ≤ q = omega arith in
    omega (arith, one_strict r q l, side_mono T k c Right r q m, side_mono T k c Below r q m, side_mono T k c Left r q m, side_mono T k c Above r q m)

tally_track : (T : ℕ) (k : Rank) (c : ℕ) (s : Side) (t q : ℕ) → t < T → k.track c s t < q →
    cell_tally T k (k.track c s t) c < cell_tally T k q c
unfolding cell_tally
tally_track T k c Right t q m l =
    let r = k.track c Right t in
    let n : r ≤ q = omega arith in
    omega (arith, one_mono (k.cell c) r q n, side_strict T k c Right t q m l, side_mono T k c Below r q n, side_mono T k c Left r q n, side_mono T k c Above r q n)
tally_track T k c Below t q m l =
    let r = k.track c Below t in
    let n : r ≤ q = omega arith in
    omega (arith, one_mono (k.cell c) r q n, side_mono T k c Right r q n, side_strict T k c Below t q m l, side_mono T k c Left r q n, side_mono T k c Above r q n)
tally_track T k c Left t q m l =
    let r = k.track c Left t in
    let n : r ≤ q = omega arith in
    omega (arith, one_mono (k.cell c) r q n, side_mono T k c Right r q n, side_mono T k c Below r q n, side_strict T k c Left t q m l, side_mono T k c Above r q n)
tally_track T k c Above t q m l =
    let r = k.track c Above t in
    let n : r ≤ q = omega arith in
    omega (arith, one_mono (k.cell c) r q n, side_mono T k c Right r q n, side_mono T k c Below r q n, side_mono T k c Left r q n, side_strict T k c Above t q m l)

tally_bound : (T : ℕ) (k : Rank) (r c : ℕ) → cell_tally T k r c ≤ 1 + 4 * T
unfolding cell_tally
tally_bound T k r c =
    omega (arith, one_bound (k.cell c) r, side_bound T k c Right r, side_bound T k c Below r, side_bound T k c Left r, side_bound T k c Above r)

pub place : Size → Rank → (r : ℕ) → ℕ
place z k r = sum (cell_count z) (cell_tally z.tracks k r)

pub place_cell : (z : Size) (k : Rank) (c q : ℕ) → c < cell_count z → k.cell c < q → place z k (k.cell c) < place z k q
unfolding place
place_cell z k c q l m =
    let T = z.tracks in let r = k.cell c in
    sum_strict (cell_count z) (cell_tally T k r) (cell_tally T k q) (tally_mono T k r q (omega arith)) c l (tally_cell T k c q m)

pub place_track : (z : Size) (k : Rank) (c : ℕ) (s : Side) (t q : ℕ) → c < cell_count z → t < z.tracks → k.track c s t < q →
    place z k (k.track c s t) < place z k q
unfolding place
place_track z k c s t q l m n =
    let T = z.tracks in let r = k.track c s t in
    sum_strict (cell_count z) (cell_tally T k r) (cell_tally T k q) (tally_mono T k r q (omega arith)) c l (tally_track T k c s t q m n)

pub place_bound : (z : Size) (k : Rank) (r : ℕ) → place z k r < enough z
unfolding place
place_bound z k r =
    let h = sum_bound (cell_count z) (1 + 4 * z.tracks) (cell_tally z.tracks k r) (tally_bound z.tracks k r) in
    omega (arith, h)

-- 3. After n sweeps every cell and track whose place is below n is as in the state that a sweep leaves as it is.

pub record SettledBelow (z : Size) (k : Rank) (n : ℕ) (f g : Signals) : Type 0 where
  pub cells : (c : ℕ) → c < cell_count z → place z k (k.cell c) < n → f.cell c ≡ g.cell c
  pub tracks : (c : ℕ) (s : Side) (t : ℕ) → c < cell_count z → t < z.tracks → place z k (k.track c s t) < n → f.track c s t ≡ g.track c s t

settled_reads : (z : Size) (k : Rank) (n : ℕ) (f g : Signals) → SettledBelow z k n f g → (c : ℕ) → c < cell_count z → (s : Source) (r : ℕ) →
    ReadsBelow z k c s r → place z k r ≤ n → SameAt z f g c s
settled_reads z k n f g a c l Nothing r b m = tt
settled_reads z k n f g a c l Own r b m = a.cells c l (omega (arith, place_cell z k c r l b))
settled_reads z k n f g a c l (Track s t) r b m = λ i e.
    let j = neighbour_inside z c s l e in
    a.tracks (neighbour z c s) (opposite s) t j i (omega (arith, place_track z k (neighbour z c s) (opposite s) t r j i (b i e)))

cell_settles : (z : Size) (b : Config) (held : ℕ → Bool) (p : Pads) (f g : Signals) (c : ℕ) →
    (b.holds c ≡ false → lookup z b p f c ≡ lookup z b p g c) → (sweep z b held p f).cell c ≡ (sweep z b held p g).cell c
unfolding sweep
cell_settles z b held p f g c h = go (b.holds c) h
  where
    go : (x : Bool) → (x ≡ false → lookup z b p f c ≡ lookup z b p g c) →
        cond x (held c) (lookup z b p f c) ≡ cond x (held c) (lookup z b p g c)
    go true w = refl
    go false w = w refl

track_settles : (z : Size) (b : Config) (held : ℕ → Bool) (p : Pads) (f g : Signals) (c : ℕ) (s : Side) (t : ℕ) →
    SameAt z f g c (b.drive c s t) → (sweep z b held p f).track c s t ≡ (sweep z b held p g).track c s t
unfolding sweep
track_settles z b held p f g c s t h = read_same z p f g c (b.drive c s t) h

sweep_settles : (z : Size) (b : Config) (held : ℕ → Bool) (p : Pads) (k : Rank) (g : Signals) → Ranked z b k → Agree z (sweep z b held p g) g →
    (n : ℕ) (f : Signals) → SettledBelow z k n f g → SettledBelow z k (suc n) (sweep z b held p f) g
sweep_settles z b held p k g ranked fixed n f a = record {
  cells = λ c l m.
      cell_settles z b held p f g c
      (λ w. lookup_same z b p f g c (λ i j. settled_reads z k n f g a c l (b.input c i) (k.cell c) (ranked.cells c i l j w) (omega arith)))
      ∙ fixed.cells c l;
  tracks = λ c s t l i m.
      track_settles z b held p f g c s t
      (settled_reads z k n f g a c l (b.drive c s t) (k.track c s t) (ranked.tracks c s t l i) (omega arith))
      ∙ fixed.tracks c s t l i;
}

swept_settles : (z : Size) (b : Config) (held : ℕ → Bool) (p : Pads) (k : Rank) (g : Signals) → Ranked z b k → Agree z (sweep z b held p g) g →
    (start : Signals) (n : ℕ) → SettledBelow z k n (swept n z b held p start) g
unfolding swept
swept_settles z b held p k g ranked fixed start zero =
    record { cells = λ c l m. absurd (omega arith); tracks = λ c s t l i m. absurd (omega arith) }
swept_settles z b held p k g ranked fixed start (suc n) =
    sweep_settles z b held p k g ranked fixed n (swept n z b held p start) (swept_settles z b held p k g ranked fixed start n)

pub ranks_agree : (z : Size) (b : Config) (held : ℕ → Bool) (p : Pads) (k : Rank) (g : Signals) → Ranked z b k → Agree z (sweep z b held p g) g →
    (start : Signals) (n : ℕ) → enough z ≤ n → Agree z (swept n z b held p start) g
ranks_agree z b held p k g ranked fixed start n e =
    let a = swept_settles z b held p k g ranked fixed start n in
    record {
      cells = λ c l. a.cells c l (omega (arith, place_bound z k (k.cell c)));
      tracks = λ c s t l i. a.tracks c s t l i (omega (arith, place_bound z k (k.track c s t)));
    }

pub ranks_settle : RanksSettle
unfolding final
ranks_settle z b held p k g ranked fixed =
    let a = ranks_agree z b held p k g ranked fixed in
    let f = swept (enough z) z b held p dark in
    let h : Agree z f g = a dark (enough z) (omega arith) in (
      agree_trans z (sweep z b held p f) (sweep z b held p g) f (sweep_agrees z b held p f g h)
          (agree_trans z (sweep z b held p g) g f fixed (agree_sym z f g h)),
      a,
    )

-- 4. Agreement is decided.

pub bools_decided : (x y : Bool) → (x ≡ y) ⊎ (x ≡ y → ⊥)
bools_decided true true = inl refl
bools_decided true false = inr (λ e. grind arith)
bools_decided false true = inr (λ e. grind arith)
bools_decided false false = inl refl

-- what holds below n, and at n, holds below n + 1
suc_below : (P : ℕ → Type 0) (n : ℕ) → ((k : ℕ) → k < n → P k) → P n → (k : ℕ) → k < suc n → P k
suc_below P n a b k l = go (ltb k n) refl
  where
    go : (x : Bool) → ltb k n ≡ x → P k
    go true e = a k (grind (arith, nat_tests))
    go false e = let m : n ≡ k = grind (arith, nat_tests) in subst P m b

pub below_decided : (P : ℕ → Type 0) → ((k : ℕ) → P k ⊎ (P k → ⊥)) → (n : ℕ) → ((k : ℕ) → k < n → P k) ⊎ (((k : ℕ) → k < n → P k) → ⊥)
below_decided P d zero = inl (λ k l. absurd (omega arith))
below_decided P d (suc n) = go (below_decided P d n) (d n)
  where
    go : ((k : ℕ) → k < n → P k) ⊎ (((k : ℕ) → k < n → P k) → ⊥) → P n ⊎ (P n → ⊥) →
        ((k : ℕ) → k < suc n → P k) ⊎ (((k : ℕ) → k < suc n → P k) → ⊥)
    go (inl a) (inl b) = inl (suc_below P n a b)
    go (inl a) (inr b) = inr (λ h. b (h n (omega arith)))
    go (inr a) b = inr (λ h. a (λ k l. h k (omega arith)))

pub sides_decided : (P : Side → Type 0) → ((s : Side) → P s ⊎ (P s → ⊥)) → ((s : Side) → P s) ⊎ (((s : Side) → P s) → ⊥)
sides_decided P d = go (d Right) (d Below) (d Left) (d Above)
  where
    all : P Right → P Below → P Left → P Above → (s : Side) → P s
    all a b e f Right = a
    all a b e f Below = b
    all a b e f Left = e
    all a b e f Above = f

    go : P Right ⊎ (P Right → ⊥) → P Below ⊎ (P Below → ⊥) → P Left ⊎ (P Left → ⊥) → P Above ⊎ (P Above → ⊥) →
        ((s : Side) → P s) ⊎ (((s : Side) → P s) → ⊥)
    go (inr n) _ _ _ = inr (λ h. n (h Right))
    go (inl a) (inr n) _ _ = inr (λ h. n (h Below))
    go (inl a) (inl b) (inr n) _ = inr (λ h. n (h Left))
    go (inl a) (inl b) (inl e) (inr n) = inr (λ h. n (h Above))
    go (inl a) (inl b) (inl e) (inl f) = inl (all a b e f)

pub agree_decided : (z : Size) (g h : Signals) → Agree z g h ⊎ (Agree z g h → ⊥)
agree_decided z g h = go cells tracks
  where
    Cells : Type 0
    Cells = (c : ℕ) → c < cell_count z → g.cell c ≡ h.cell c

    Tracks : Type 0
    Tracks = (c : ℕ) → c < cell_count z → (s : Side) (t : ℕ) → t < z.tracks → g.track c s t ≡ h.track c s t

    cells : Cells ⊎ (Cells → ⊥)
    cells = below_decided (λ c. g.cell c ≡ h.cell c) (λ c. bools_decided (g.cell c) (h.cell c)) (cell_count z)

    tracks : Tracks ⊎ (Tracks → ⊥)
    tracks =
        below_decided (λ c. (s : Side) (t : ℕ) → t < z.tracks → g.track c s t ≡ h.track c s t)
        (λ c. sides_decided (λ s. (t : ℕ) → t < z.tracks → g.track c s t ≡ h.track c s t)
        (λ s. below_decided (λ t. g.track c s t ≡ h.track c s t) (λ t. bools_decided (g.track c s t) (h.track c s t)) z.tracks))
        (cell_count z)

    go : Cells ⊎ (Cells → ⊥) → Tracks ⊎ (Tracks → ⊥) → Agree z g h ⊎ (Agree z g h → ⊥)
    go (inl a) (inl b) = inl (record { cells = a; tracks = λ c s t l m. b c l s t m })
    go (inl a) (inr n) = inr (λ w. n (λ c l s t m. w.tracks c s t l m))
    go (inr n) b = inr (λ w. n w.cells)

pub settling_is_decided : SettlingIsDecided
settling_is_decided z b held p = agree_decided z (sweep z b held p (final z b held p)) (final z b held p)
