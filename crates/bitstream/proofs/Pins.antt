-- The pins of a plan, and how they are written.
use Rattle.std.proofs.Common.{◌≡◌, ℕ, ◌+◌, ◌-◌, ◌*◌, ◌<◌, ◌≤◌, List, [], ◌∷◌, length, get_or, refl, ◌∙◌, subst, ⊎_elim, arith, rules}
use borrow.Rule.Slice.PartMut.{put_mid}
use Rattle.std.proofs.lemmas.List.{places}
use Rattle.std.proofs.lemmas.Bool.{cases_lt, lt-ltb, le-ltb}
use Rattle.fabric.specs.declared.parts.Side.TheVariants.{Left, Above}
use Rattle.fabric.specs.declared.parts.Pin.{Pin}
use Rattle.fabric.specs.Numbers.{side_number, PinAt}
use Rattle.bitstream.specs.declared.plans.Plan.{Plan}
use Rattle.bitstream.specs.Plans.{inputs_of, pin_of, PinsWritten}

pub pin_in : (p : Plan) (m : ℕ) → m < inputs_of p → record { cell = 0; side = Left; track = m } ≡ pin_of p m
unfolding pin_of
pin_in p m h = rw (lt-ltb m (inputs_of p) h) refl

pub pin_out : (p : Plan) (m : ℕ) → inputs_of p ≤ m → record { cell = 0; side = Above; track = inputs_of p + get_or p.netlist.outputs (m - inputs_of p) 0 } ≡ pin_of p m
unfolding pin_of
pin_out p m h = rw (le-ltb m (inputs_of p) h) refl

-- three places are written: they hold the pin, and what stands elsewhere is as it was
module _ (a k x : ℕ) (q : Pin) (xs : List ℕ) (size : k ≡ 3) (within : a + 3 ≤ length xs) where
  abbrev written : List ℕ
  written = put_mid a k xs (q.cell ∷ x ∷ q.track ∷ [])

  at_cell : get_or written a 0 ≡ q.cell
  at_cell = search (rules, places)

  at_side : get_or written (a + 1) 0 ≡ x
  at_side = search (rules, places)

  at_track : get_or written (a + 2) 0 ≡ q.track
  at_track = search (rules, places)

  before : (j : ℕ) → j < a → get_or written j 0 ≡ get_or xs j 0
  before j h = search (rules, places)

  after : (j : ℕ) → a + 3 ≤ j → get_or written j 0 ≡ get_or xs j 0
  after j h = search (rules, places)

pub pins_more : (p : Plan) (m k x : ℕ) (q : Pin) (pins xs ys : List ℕ) → k ≡ 3 → 3 * m + 3 ≤ length xs → q ≡ pin_of p m → x ≡ side_number q.side → ys ≡ q.cell ∷ x ∷ q.track ∷ [] →
    PinsWritten p m pins xs → PinsWritten p (m + 1) pins (put_mid (3 * m) k xs ys)
pins_more p m k x q pins xs ys size within is side e w = rw e (record {
  written = λ r h. ⊎_elim
      (λ (l : r < m).
      let o = w.written r l in
      let b = before (3 * m) k x q xs size within in
      record { cell = b (3 * r) (omega arith) ∙ o.cell; side = b (3 * r + 1) (omega arith) ∙ o.side; track = b (3 * r + 2) (omega arith) ∙ o.track })
      (λ (l : m ≤ r).
      let s : m ≡ r = omega arith in
      subst (λ r. PinAt (written (3 * m) k x q xs size within) r (pin_of p r)) s (subst (PinAt (written (3 * m) k x q xs size within) m) is
      (record { cell = at_cell (3 * m) k x q xs size within; side = at_side (3 * m) k x q xs size within ∙ side; track = at_track (3 * m) k x q xs size within })))
      (cases_lt r m);
  rest = λ j h. after (3 * m) k x q xs size within j (omega arith) ∙ w.rest j (omega arith);
})
