-- A netlist whose cells read earlier ones has a consistent valuation, whatever its inputs are and its cells held.
use Rattle.std.proofs.Common.{◌≡◌, ℕ, zero, suc, ◌<◌, Bool, true, false, cond, eqb, ◌⊎◌, sym, refl, ◌∙◌, inl, inr, arith}
use Rattle.std.proofs.lemmas.Bool.Decides.{nat_tests}
use Rattle.netlist.specs.declared.parts.Net.{Net}
use Rattle.netlist.specs.declared.parts.Net.TheVariants.{Zero, Input, Cell}
use Rattle.netlist.specs.Netlists.{Netlist, net_level, cell_address, cell_lookup, Consistent}

-- cells that don't hold read inputs, cells that hold, and earlier cells
abbrev pub Ordered : Netlist → Type 0
Ordered n = (c k j : ℕ) → c < n.count → k < 4 → n.holds c ≡ false → n.input c k ≡ Cell j → (n.holds j ≡ true) ⊎ (j < c)

net_same : (x v w : ℕ → Bool) (net : Net) → ((j : ℕ) → net ≡ Cell j → v j ≡ w j) → net_level x v net ≡ net_level x w net
unfolding net_level
net_same x v w Zero h = refl
net_same x v w (Input j) h = refl
net_same x v w (Cell j) h = h j refl

lookup_same : (n : Netlist) (x v w : ℕ → Bool) (c : ℕ) → ((k j : ℕ) → k < 4 → n.input c k ≡ Cell j → v j ≡ w j) →
    cell_lookup n x v c ≡ cell_lookup n x w c
unfolding cell_lookup cell_address
lookup_same n x v w c h =
    let e0 = net_same x v w (n.input c 0) (λ j. h 0 j (omega arith)) in
    let e1 = net_same x v w (n.input c 1) (λ j. h 1 j (omega arith)) in
    let e2 = net_same x v w (n.input c 2) (λ j. h 2 j (omega arith)) in
    let e3 = net_same x v w (n.input c 3) (λ j. h 3 j (omega arith)) in
    cc

-- the cells' values, the first m of them worked out in order
unfoldable pub values : Netlist → (x h : ℕ → Bool) → ℕ → ℕ → Bool
values n x h zero c = cond (n.holds c) (h c) false
values n x h (suc m) c = cond (eqb c m) (cond (n.holds m) (h m) (cell_lookup n x (values n x h m) m)) (values n x h m c)

module _ (n : Netlist) (x h : ℕ → Bool) where
  value_held : (m c : ℕ) → n.holds c ≡ true → values n x h m c ≡ h c
  unfolding values
  value_held zero c e = rw e
  value_held (suc m) c e = go (eqb c m) refl (value_held m c e)
    where
      go : (b : Bool) → eqb c m ≡ b → values n x h m c ≡ h c →
          cond b (cond (n.holds m) (h m) (cell_lookup n x (values n x h m) m)) (values n x h m c) ≡ h c
      go true p q =
          let same : c ≡ m = grind (arith, nat_tests) in
          rw (← same, e)
      go false p q = q

  value_settled : (m c : ℕ) → c < m → values n x h m c ≡ cond (n.holds c) (h c) (cell_lookup n x (values n x h c) c)
  unfolding values
  value_settled zero c l = absurd (omega arith)
  value_settled (suc m) c l = go (eqb c m) refl (value_settled m c)
    where
      go : (b : Bool) → eqb c m ≡ b → (c < m → values n x h m c ≡ cond (n.holds c) (h c) (cell_lookup n x (values n x h c) c)) →
          cond b (cond (n.holds m) (h m) (cell_lookup n x (values n x h m) m)) (values n x h m c)
          ≡ cond (n.holds c) (h c) (cell_lookup n x (values n x h c) c)
      go true p q =
          let same : c ≡ m = grind (arith, nat_tests) in
          rw (← same)
      go false p q = q (grind (arith, nat_tests))

  value_read : Ordered n → (c k j : ℕ) → c < n.count → k < 4 → n.holds c ≡ false → n.input c k ≡ Cell j →
      values n x h c j ≡ values n x h n.count j
  value_read ordered c k j l m e f = go (ordered c k j l m e f)
    where
      go : (n.holds j ≡ true) ⊎ (j < c) → values n x h c j ≡ values n x h n.count j
      go (inl a) = value_held c j a ∙ sym (value_held n.count j a)
      go (inr a) = value_settled c j a ∙ sym (value_settled n.count j (omega arith))

  pub values_consistent : Ordered n → Consistent n x h (values n x h n.count)
  values_consistent ordered c l = value_settled n.count c l ∙ go (n.holds c) refl
    where
      go : (b : Bool) → n.holds c ≡ b →
          cond b (h c) (cell_lookup n x (values n x h c) c) ≡ cond b (h c) (cell_lookup n x (values n x h n.count) c)
      go true e = refl
      go false e =
          lookup_same n x (values n x h c) (values n x h n.count) c (λ k j m f. value_read ordered c k j l m e f)
