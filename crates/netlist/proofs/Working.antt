-- Rows of cells that the code writes and adds.
use Rattle.std.specs.List.{refill}
use Rattle.arrayvec.specs.ArrayVec.{ArrayVec, array_vec_len, with_items}
use Rattle.std.proofs.Common.{[], ◌∷◌, ◌++◌, below_more, ◌≡◌, ℕ, ◌+◌, ◌-◌, ◌<◌, ◌≤◌, min, cond, ltb, List, length, drop, get_or, replicate, sym, refl, ap, ◌∙◌, ⊎_elim, arith}
use Rattle.std.proofs.lemmas.Grind.{common_steps}
use Rattle.std.proofs.lemmas.Bool.{le-ltb, cases_lt}
use Rattle.std.proofs.lemmas.List.{get_or_append_left, get_or-append_right, get_or-drop, get_or_past}
use Rattle.design.proofs.Filled.{get_or-filled}
use borrow.Rule.Slice.PartMut.{put_mid}
use Rattle.netlist.specs.declared.parts.Net.{Net}
use Rattle.netlist.specs.declared.parts.Net.TheVariants.{Zero, Cell}
use Rattle.netlist.specs.declared.parts.Cell.{Cell as CellT}
use Rattle.netlist.specs.declared.bus.Bus.{Bus}
use Rattle.netlist.specs.declared.work.Work.{Work}
use Rattle.netlist.specs.Building.{blank, cell_at, Appended, Written, gate, gate_row, chain_row}
use Rattle.netlist.specs.Rows.{net_of}
use Rattle.netlist.specs.Works.{count_of, cells_of, bus_at, nets_at, SameNotes, RowLaid, Compared, Summed}

pub same_notes : (w : Work) → SameNotes w w
same_notes w = record { buses = refl; outputs = refl }

pub notes_trans : (w w₁ w₂ : Work) → SameNotes w w₁ → SameNotes w₁ w₂ → SameNotes w w₂
notes_trans w w₁ w₂ a b = record { buses = b.buses ∙ a.buses; outputs = b.outputs ∙ a.outputs }

-- cells that are written over a part of a list
pub over : (xs ys : List CellT) (at m n : ℕ) (new : ℕ → CellT) → n ≡ m → at + m ≤ length xs → length ys ≡ m → ((k : ℕ) → k < m → get_or ys k blank ≡ new k) →
    Written (cell_at xs) (cell_at (put_mid at n xs ys)) at m new
over xs ys at m n new e room long is = record {
  below = λ c h. let p : get_or (put_mid at n xs ys) c blank ≡ get_or xs c blank = grind (arith, common_steps) in p;
  above = λ c h. let p : get_or (put_mid at n xs ys) c blank ≡ get_or xs c blank = grind (arith, common_steps) in p;
  written = λ k h. let p : get_or (put_mid at n xs ys) (at + k) blank ≡ get_or ys k blank = grind (arith, common_steps) in p ∙ is k h;
}

-- the same, where the list is that of a vector
pub over_items : (v : ArrayVec CellT) (xs ys : List CellT) (at m n : ℕ) (new : ℕ → CellT) → xs ≡ v.items → n ≡ m → at + m ≤ length v.items → length ys ≡ m →
    ((k : ℕ) → k < m → get_or ys k blank ≡ new k) →
    (array_vec_len (with_items v (put_mid at n xs ys)) ≡ array_vec_len v) × Written (cell_at v.items) (cell_at (with_items v (put_mid at n xs ys)).items) at m new
over_items v xs ys at m n new ex e room long is =
    let l : length (put_mid at n v.items ys) ≡ length v.items = grind (arith, common_steps) in
    let same : refill (length v.items) v.items (put_mid at n v.items ys) ≡ put_mid at n v.items ys = grind (arith, common_steps) in
    rw (ex, same) (l, over v.items ys at m n new e room long is)

-- one more cell behind the last
pub appended_more : (xs ys zs : List CellT) (k : ℕ) (new : ℕ → CellT) (cell : CellT) → zs ≡ ys ++ cell ∷ [] → length ys ≡ length xs + k → cell ≡ new k →
    Appended (cell_at xs) (length xs) (cell_at ys) k new → Appended (cell_at xs) (length xs) (cell_at zs) (k + 1) new
appended_more xs ys zs k new cell e long is a = rw e (record {
  same = λ c h. let p : get_or (ys ++ cell ∷ []) c blank ≡ get_or ys c blank = grind (arith, common_steps) in p ∙ a.same c h;
  added = below_more _ _
      (λ j h. let p : get_or (ys ++ cell ∷ []) (length xs + j) blank ≡ get_or ys (length xs + j) blank = grind (arith, common_steps) in p ∙ a.added j h)
      (let p : get_or (ys ++ cell ∷ []) (length xs + k) blank ≡ cell = grind (arith, common_steps) in p ∙ is);
})

-- the nets of a row
pub row_nets : (start m n : ℕ) (bus : Bus) → n ≡ start → start + m ≤ 1024 → ((k : ℕ) → k < 64 → net_of bus k ≡ Cell (min 65535 (n + k))) →
    (k : ℕ) → k < 64 → net_of bus k ≡ Cell (start + k)
row_nets start m n bus e few nets k h = nets k h ∙ ap Cell (let q : min 65535 (n + k) ≡ start + k = omega arith in q)

-- the same row by another name
pub row_as : (w w₁ : Work) (m : ℕ) (new new₁ : ℕ → CellT) (bus : Bus) → ((k : ℕ) → k < m → new k ≡ new₁ k) → RowLaid w w₁ m new bus → RowLaid w w₁ m new₁ bus
row_as w w₁ m new new₁ bus same r = record {
  cells = record { same = r.cells.same; added = λ k h. r.cells.added k h ∙ same k h };
  count = r.count;
  nets = r.nets;
  notes = r.notes;
}

-- gates of buses, by the nets
gate_as : (t : ℕ) (a b c a₁ b₁ c₁ : Net) → a ≡ a₁ → b ≡ b₁ → c ≡ c₁ → gate t a b c ≡ gate t a₁ b₁ c₁
gate_as t a b c a₁ b₁ c₁ ea eb ec = cc

pub gates_as : (w w₁ : Work) (m t : ℕ) (a b c bus : Bus) (na nb nc : ℕ → Net) →
    ((k : ℕ) → k < m → net_of a k ≡ na k) → ((k : ℕ) → k < m → net_of b k ≡ nb k) → ((k : ℕ) → k < m → net_of c k ≡ nc k) →
    RowLaid w w₁ m (gate_row t (net_of a) (net_of b) (net_of c)) bus → RowLaid w w₁ m (gate_row t na nb nc) bus
gates_as w w₁ m t a b c bus na nb nc ea eb ec r = row_as w w₁ m _ _ bus (λ k h. gate_as t _ _ _ _ _ _ (ea k h) (eb k h) (ec k h)) r

-- the last cell of a chain
pub compared : (w w₁ : Work) (m : ℕ) (new : ℕ → CellT) (states bus : Bus) → 1 ≤ m → m ≤ 64 → RowLaid w w₁ m new states →
    ((k : ℕ) → k < 64 → net_of bus k ≡ net_of states (m - 1 + k)) → Compared w w₁ m new bus
compared w w₁ m new states bus some narrow r is = record {
  cells = r.cells;
  count = r.count;
  last = is 0 (omega arith) ∙ ap (net_of states) (let e : m - 1 + 0 ≡ m - 1 = omega arith in e) ∙ r.nets (m - 1) (omega arith);
  notes = r.notes;
}

-- what a sum's gates are handed: nothing at bit 0, else the carry of the bit below
handed_low : (none carries : Bus) (into : Bus) → ((k : ℕ) → k < 64 → net_of none k ≡ Zero) →
    ((k : ℕ) → k < 64 → net_of into k ≡ cond (ltb k 1) (net_of none k) (net_of carries (k - 1))) → net_of into 0 ≡ Zero
handed_low none carries into z is = is 0 (omega arith) ∙ z 0 (omega arith)

handed_high : (none carries : Bus) (into : Bus) → ((k : ℕ) → k < 64 → net_of into k ≡ cond (ltb k 1) (net_of none k) (net_of carries (k - 1))) →
    (k : ℕ) → k + 1 < 64 → net_of into (k + 1) ≡ net_of carries k
handed_high none carries into is k h =
    let l : 1 ≤ k + 1 = omega arith in
    let e : k + 1 - 1 ≡ k = omega arith in
    is (k + 1) h ∙ rw (le-ltb (k + 1) 1 l, e) refl

pub summed : (w w₁ w₂ : Work) (a b m : ℕ) (x y none carries into bus : Bus) → m ≤ 64 →
    RowLaid w w₁ m (chain_row 232 232 (nets_at w a) (nets_at w b) (count_of w)) carries →
    ((k : ℕ) → k < 64 → net_of none k ≡ Zero) → ((k : ℕ) → k < 64 → net_of into k ≡ cond (ltb k 1) (net_of none k) (net_of carries (k - 1))) →
    x ≡ bus_at w₁ a → y ≡ bus_at w₁ b →
    RowLaid w₁ w₂ m (gate_row 150 (net_of x) (net_of y) (net_of into)) bus → Summed w w₂ a b m bus
summed w w₁ w₂ a b m x y none carries into bus narrow r z is ex ey s =
    let bx : (k : ℕ) → net_of x k ≡ nets_at w a k = λ k. rw (ex, r.notes.buses) refl in
    let by' : (k : ℕ) → net_of y k ≡ nets_at w b k = λ k. rw (ey, r.notes.buses) refl in
    let t = gates_as w₁ w₂ m 150 x y into bus (nets_at w a) (nets_at w b) (net_of into) (λ k h. bx k) (λ k h. by' k) (λ k h. refl) s in
    record {
      between = cells_of w₁;
      into = net_of into;
      chain = r.cells;
      into_low = handed_low none carries into z is;
      into_high = λ k h. handed_high none carries into is k (omega arith) ∙ r.nets k (omega arith);
      sums = rw r.count at t.cells;
      count = t.count ∙ ap (λ c. c + m) r.count;
      nets = λ k h. t.nets k h ∙ ap (λ c. Cell (c + k)) r.count;
      notes = notes_trans w w₁ w₂ r.notes t.notes;
    }

-- cells in the first places of as many as a netlist has, which show 0 past them
pub padded : (xs ys : List CellT) (x : CellT) (m n : ℕ) → ys ≡ xs → n ≡ length xs → x ≡ blank → (c : ℕ) → cell_at (ys ++ drop n (replicate m x)) c ≡ cell_at xs c
padded xs ys x m n ey en ex c = rw (ey, ex) (⊎_elim
    (λ (h : c < length xs). get_or_append_left xs (drop n (replicate m blank)) blank c h)
    (λ (h : length xs ≤ c). get_or-append_right xs (drop n (replicate m blank)) n c blank (sym en) (omega arith)
    ∙ get_or-drop n (replicate m blank) (c - n) blank ∙ get_or-filled m (n + (c - n)) blank ∙ sym (get_or_past xs c blank h))
    (cases_lt c (length xs)))

pub padded_past : (xs ys : List CellT) (x : CellT) (m n : ℕ) → ys ≡ xs → n ≡ length xs → x ≡ blank → (c : ℕ) → n ≤ c → cell_at (ys ++ drop n (replicate m x)) c ≡ blank
padded_past xs ys x m n ey en ex c h = padded xs ys x m n ey en ex c ∙ get_or_past xs c blank (omega arith)
