-- The state that a list of levels stands for, and when sweeps of it have settled.
use Rattle.std.proofs.Common.{◌≡◌, ℕ, zero, suc, ◌+◌, ◌-◌, ◌*◌, ◌/◌, ◌%◌, ◌<◌, ◌≤◌, Bool, false, List, [], ◌∷◌, length, get_or, take, sym, refl, ap, ◌∙◌, subst, ⊎_elim, add-one, arith, length-take}
use Rattle.std.proofs.lemmas.List.{ext_get_or}
use Rattle.std.proofs.lemmas.Bool.{ne_eqb, cases_eq}
use Rattle.std.proofs.lemmas.Nat.{div-add-mod', div_below, mod_below, div-mul-add, mod-mul-add, mul-add-lt}
use Rattle.fabric.specs.declared.parts.Side.{Side}
use Rattle.fabric.specs.Fabrics.{Size, cell_count, Config, Signals, Pads, lookup, sweep, swept, dark, final, enough, Agree, Settles}
use Rattle.fabric.specs.Numbers.{side_number}
use Rattle.fabric.specs.Code.{per_signal, signal_count, track_place, state_of, side_at, signal_at}
use Rattle.fabric.proofs.Geometry.{row_of, column_of}
use Rattle.fabric.proofs.Sweeps.{agree_sym, agree_trans, agree_same_at, lookup_same, sweep_agrees}
use Rattle.fabric.proofs.Coding.{side_number_small, side_at_number, number_side_at}
use Rattle.fabric.proofs.Indices.{cell_below, track_below}

-- 1. The signal at a place.

pub signal_cell : (z : Size) (g : Signals) (k q : ℕ) → k % per_signal z ≡ 0 → k / per_signal z ≡ q → signal_at z g k ≡ g.cell q
unfolding signal_at
signal_cell z g k q e f = simp (e, f)

pub signal_track : (z : Size) (g : Signals) (k q m n t : ℕ) (s : Side) → (k % per_signal z ≡ 0 → ⊥) → k % per_signal z - 1 ≡ m → k / per_signal z ≡ q →
    m / z.tracks ≡ n → m % z.tracks ≡ t → side_at n ≡ s → signal_at z g k ≡ g.track q s t
unfolding signal_at
signal_track z g k q m n t s o e f h i j = let b = ne_eqb (k % per_signal z) 0 o in cc

at_track : (z : Size) (g : Signals) (c : ℕ) (s : Side) (t : ℕ) → t < z.tracks → signal_at z g (track_place z c s t) ≡ g.track c s t
at_track z g c s t m =
    let T = z.tracks in
    let n = side_number s in
    let l : 1 + (n * T + t) < per_signal z = omega (arith, mul-add-lt n T t 4 (side_number_small s) m) in
    let e : track_place z c s t % per_signal z ≡ 1 + (n * T + t) = column_of (per_signal z) (track_place z c s t) c (1 + (n * T + t)) l refl in
    signal_track z g (track_place z c s t) c (n * T + t) n t s (omega arith) (omega arith)
    (row_of (per_signal z) (track_place z c s t) c (1 + (n * T + t)) l refl) (div-mul-add n T t m) (mod-mul-add n T t m) (side_at_number s)

-- levels that are at each place the signals of a state stand for that state
pub agree_from_places : (z : Size) (xs : List Bool) (g : Signals) → ((k : ℕ) → k < signal_count z → get_or xs k false ≡ signal_at z g k) → Agree z (state_of z xs) g
unfolding state_of
agree_from_places z xs g all = record {
  cells = λ c l. all (c * per_signal z) (cell_below (cell_count z) z.tracks c l) ∙ signal_cell z g (c * per_signal z) c
      (column_of (per_signal z) (c * per_signal z) c 0 (omega arith) (omega arith)) (row_of (per_signal z) (c * per_signal z) c 0 (omega arith) (omega arith));
  tracks = λ c s t l m. all (track_place z c s t) (track_below (cell_count z) z.tracks c (side_number s) t l (side_number_small s) m) ∙ at_track z g c s t m;
}

-- 2. The signals of the state of a list are the list.

-- the side and the track at rest r of a cell
rest_of : (T r : ℕ) → 0 < T → r < 4 * T → side_number (side_at (r / T)) * T + r % T ≡ r
rest_of T r p l = simp (number_side_at (r / T) (div_below r T 4 p l)) (div-add-mod' r T)

at_place : (z : Size) (xs : List Bool) (k : ℕ) → 0 < z.tracks → signal_at z (state_of z xs) k ≡ get_or xs k false
unfolding state_of
at_place z xs k p =
    let P = per_signal z in
    let T = z.tracks in
    let r = k % P - 1 in
    let d = div-add-mod' k P in
    let b : k % P < P = mod_below k P (omega arith) in
    ⊎_elim
    (λ e. signal_cell z (state_of z xs) k (k / P) e refl ∙ ap (λ i. get_or xs i false) (omega arith))
    (λ o. signal_track z (state_of z xs) k (k / P) r (r / T) (r % T) (side_at (r / T)) o refl refl refl refl refl
    ∙ ap (λ i. get_or xs i false) (omega (arith, rest_of T r p (omega arith))))
    (cases_eq (k % P) 0)

agree_at_place : (z : Size) (g h : Signals) (k : ℕ) → 0 < z.tracks → k < signal_count z → Agree z g h → signal_at z g k ≡ signal_at z h k
unfolding signal_at
agree_at_place z g h k p l a =
    let e = a.cells (k / per_signal z) (div_below k (per_signal z) (cell_count z) (omega arith) l) in
    let f = a.tracks (k / per_signal z) (side_at ((k % per_signal z - 1) / z.tracks)) ((k % per_signal z - 1) % z.tracks)
    (div_below k (per_signal z) (cell_count z) (omega arith) l) (mod_below (k % per_signal z - 1) z.tracks p) in
    cc

pub same_from_agree : (z : Size) (xs ys : List Bool) → 0 < z.tracks → length xs ≡ signal_count z → length ys ≡ signal_count z →
    Agree z (state_of z xs) (state_of z ys) → xs ≡ ys
same_from_agree z xs ys p m n a =
    ext_get_or false xs ys (m ∙ sym n)
    (λ k l. sym (at_place z xs k p) ∙ (agree_at_place z (state_of z xs) (state_of z ys) k p (rw m at l) a ∙ at_place z ys k p))

-- 3. Sweeps from dark, so many.

module _ (z : Size) (b : Config) (held : ℕ → Bool) (p : Pads) where
  -- what a sweep leaves as it is stays
  later : (g : Signals) (n : ℕ) → Agree z g (swept n z b held p dark) → Agree z g (sweep z b held p g) →
      (d m : ℕ) → m ≡ d + n → Agree z g (swept m z b held p dark)
  unfolding swept
  later g n a f zero m e = let k : n ≡ m = omega arith in subst (λ i. Agree z g (swept i z b held p dark)) k a
  later g n a f (suc d) zero e = absurd (omega arith)
  later g n a f (suc d) (suc m) e =
      agree_trans z g (sweep z b held p g) (sweep z b held p (swept m z b held p dark)) f
      (sweep_agrees z b held p g (swept m z b held p dark) (later g n a f d m (omega arith)))

  pub swept_more : (n : ℕ) (xs ys ws : List Bool) → ws ≡ ys → Agree z (state_of z xs) (swept n z b held p dark) →
      Agree z (state_of z ys) (sweep z b held p (state_of z xs)) → Agree z (state_of z ws) (swept (n + 1) z b held p dark)
  unfolding swept
  swept_more n xs ys ws e a s =
      rw (e, add-one) (agree_trans z (state_of z ys) (sweep z b held p (state_of z xs)) (sweep z b held p (swept n z b held p dark)) s
      (sweep_agrees z b held p (state_of z xs) (swept n z b held p dark) a))

  pub settled : (n : ℕ) (xs ys : List Bool) → n ≤ enough z → Agree z (state_of z xs) (swept n z b held p dark) →
      Agree z (state_of z ys) (sweep z b held p (state_of z xs)) → xs ≡ ys → Settles z b held p × Agree z (state_of z xs) (final z b held p)
  unfolding final
  settled n xs ys l a s e =
      let g = state_of z xs in
      let f : Agree z g (sweep z b held p g) = subst (λ i. Agree z (state_of z i) (sweep z b held p (state_of z xs))) (sym e) s in
      let h : Agree z g (final z b held p) = later g n a f (enough z - n) (enough z) (omega arith) in (
        agree_trans z (sweep z b held p (final z b held p)) (sweep z b held p g) (final z b held p)
            (sweep_agrees z b held p (final z b held p) g (agree_sym z g (final z b held p) h))
            (agree_trans z (sweep z b held p g) g (final z b held p) (agree_sym z g (sweep z b held p g) f) h),
        h,
      )

  pub restless : (n : ℕ) (xs ys : List Bool) → n ≡ enough z → 0 < z.tracks → length xs ≡ signal_count z → length ys ≡ signal_count z →
      Agree z (state_of z xs) (swept n z b held p dark) → Agree z (state_of z ys) (sweep z b held p (state_of z xs)) → (xs ≡ ys → ⊥) →
      Settles z b held p → ⊥
  unfolding final
  restless n xs ys l o i j a s e q =
      let g = state_of z xs in
      let h : Agree z g (final z b held p) = subst (λ m. Agree z g (swept m z b held p dark)) l a in
      let r : Agree z (state_of z ys) g =
      agree_trans z (state_of z ys) (sweep z b held p g) g s
      (agree_trans z (sweep z b held p g) (sweep z b held p (final z b held p)) g (sweep_agrees z b held p g (final z b held p) h)
      (agree_trans z (sweep z b held p (final z b held p)) (final z b held p) g q (agree_sym z g (final z b held p) h))) in
      e (same_from_agree z xs ys o i j (agree_sym z (state_of z ys) g r))

-- 4. What a tick begins with, and what it leaves.

pub front_length : (xs : List Bool) (n m : ℕ) → length xs ≡ 32000 → n ≡ m → n ≤ 32000 → length (take (n - 0) xs) ≡ m
front_length xs n m e f l = simp length-take (omega arith)

off_front : (n : ℕ) (xs : List Bool) (k : ℕ) → ((i : ℕ) → get_or xs i false ≡ false) → get_or (take n xs) k false ≡ false
off_front zero xs k h = refl
off_front (suc n) [] k h = refl
off_front (suc n) (x ∷ xs) zero h = h 0
off_front (suc n) (x ∷ xs) (suc k) h = off_front n xs k (λ i. h (suc i))

pub dark_front : (z : Size) (n : ℕ) (xs : List Bool) → ((i : ℕ) → get_or xs i false ≡ false) → Agree z (state_of z (take n xs)) dark
unfolding state_of dark
dark_front z n xs h = record {
  cells = λ c l. off_front n xs (c * per_signal z) h;
  tracks = λ c s t l m. off_front n xs (track_place z c s t) h;
}

pub lookup_agrees : (z : Size) (b : Config) (p : Pads) (g h : Signals) → Agree z g h → (c : ℕ) → c < cell_count z → lookup z b p g c ≡ lookup z b p h c
lookup_agrees z b p g h a c l = lookup_same z b p g h c (λ i m. agree_same_at z g h a c l (b.input c i))
