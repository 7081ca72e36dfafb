-- What a list of numbers that is read as a design is known to hold.
use Rattle.std.proofs.Common.{◌≡◌, ℕ, ◌+◌, ◌<◌, ◌≤◌, Bool, true, false, not, eqb, ltb, leb, List, [], ◌∷◌, length, get_or, is_some, Some, None, Option, sym, refl, ◌∙◌, arith}
use Rattle.std.specs.Option.{option_or, option_map}
use Rattle.std.specs.Bool.{then_some}
use Rattle.std.proofs.lemmas.Bool.{true≢false, ltb-true, ltb-false, eqb-true, eq-eqb, ne_eqb, le-leb, lt-ltb, le-ltb}
use Rattle.design.specs.declared.refusal.Refusal.{Refusal}
use Rattle.design.specs.declared.refusal.Refusal.TheVariants.{DesignLength, NumberTooLarge, TooManyNodes, BadNode, NoSuchNode}
use Rattle.design.specs.Numbers.{inputs_of, node_place, nodes_of, registers_of, outputs_of, register_node, output_node, register_place, output_place, node_ok, expected_length, first_failing, length_refusal, content_refusal, reading_refusal}
use Rattle.design.proofs.First.{first_none, none_first}

pub record Readable (xs : List ℕ) : Type 0 where
  pub long : length xs ≡ expected_length xs
  pub few : nodes_of xs ≤ 1024
  pub nodes : (n : ℕ) → n < nodes_of xs → node_ok xs n ≡ true
  pub registers : (r : ℕ) → r < registers_of xs → register_node xs r < nodes_of xs
  pub outputs : (o : ℕ) → o < outputs_of xs → output_node xs o < nodes_of xs

pub neither : {X : Type 0} (o p : Option X) → option_or o p ≡ None → (o ≡ None) × (p ≡ None)
neither None p h = (refl, h)
neither (Some x) p h = absurd (let z : ◌≡◌ {A = ℕ} 0 1 = cc in omega arith)

pub unmapped : {X Y : Type 0} (f : X → Y) (o : Option X) → option_map f o ≡ None → o ≡ None
unmapped f None h = refl
unmapped f (Some x) h = absurd (let z : ◌≡◌ {A = ℕ} 0 1 = cc in omega arith)

untrue : {X : Type 0} (b : Bool) (x : X) → then_some b x ≡ None → b ≡ false
untrue true x h = absurd (let z : ◌≡◌ {A = ℕ} 0 1 = cc in omega arith)
untrue false x h = refl

not_not : (b : Bool) → not b ≡ false → b ≡ true
not_not true h = refl
not_not false h = sym h

-- the parts of reading's refusal, in order
abbrev pub in_range : List ℕ → ℕ → Bool
in_range xs k = leb (get_or xs k 0) 65535

abbrev pub register_named : List ℕ → ℕ → Bool
register_named xs r = ltb (register_node xs r) (nodes_of xs)

abbrev pub output_named : List ℕ → ℕ → Bool
output_named xs o = ltb (output_node xs o) (nodes_of xs)

abbrev named_refusal : List ℕ → Option Refusal
named_refusal xs =
    option_or (option_map (λ r. NoSuchNode (register_place xs r + 2)) (first_failing (register_named xs) (registers_of xs)))
    (option_map (λ o. NoSuchNode (output_place xs o)) (first_failing (output_named xs) (outputs_of xs)))

abbrev node_refusal : List ℕ → Option Refusal
node_refusal xs = option_or (option_map (λ n. BadNode n) (first_failing (node_ok xs) (nodes_of xs))) (named_refusal xs)

abbrev count_refusal : List ℕ → Option Refusal
count_refusal xs = option_or (then_some (ltb 1024 (nodes_of xs)) TooManyNodes) (node_refusal xs)

abbrev number_refusal : List ℕ → Option Refusal
number_refusal xs = option_or (option_map (λ k. NumberTooLarge k) (first_failing (in_range xs) (length xs))) (count_refusal xs)

abbrev whole_refusal : List ℕ → Option Refusal
whole_refusal xs = option_or (then_some (not (eqb (length xs) (expected_length xs))) (DesignLength (expected_length xs))) (number_refusal xs)

is_whole : (xs : List ℕ) → reading_refusal xs ≡ whole_refusal xs
unfolding reading_refusal length_refusal content_refusal
is_whole xs = refl

pub readable : (xs : List ℕ) → reading_refusal xs ≡ None → Readable xs
readable xs h =
    let a = neither (then_some (not (eqb (length xs) (expected_length xs))) (DesignLength (expected_length xs))) (number_refusal xs) (rw is_whole at h) in
    let b = neither (option_map (λ k. NumberTooLarge k) (first_failing (in_range xs) (length xs))) (count_refusal xs) a.1 in
    let c = neither (then_some (ltb 1024 (nodes_of xs)) TooManyNodes) (node_refusal xs) b.1 in
    let d = neither (option_map (λ n. BadNode n) (first_failing (node_ok xs) (nodes_of xs))) (named_refusal xs) c.1 in
    let e = neither (option_map (λ r. NoSuchNode (register_place xs r + 2)) (first_failing (register_named xs) (registers_of xs)))
    (option_map (λ o. NoSuchNode (output_place xs o)) (first_failing (output_named xs) (outputs_of xs))) d.1 in
    record {
      long = eqb-true _ _ (not_not _ (untrue _ _ a.0));
      few = ltb-false _ _ (untrue _ _ c.0);
      nodes = first_none (node_ok xs) (nodes_of xs) (unmapped _ _ d.0);
      registers = λ r l. ltb-true _ _ (first_none (register_named xs) (registers_of xs) (unmapped _ _ e.0) r l);
      outputs = λ o l. ltb-true _ _ (first_none (output_named xs) (outputs_of xs) (unmapped _ _ e.1) o l);
    }

-- each refusal of reading, where what comes before it is in order
pub refuses_length : (xs : List ℕ) (n : ℕ) → n ≡ expected_length xs → (length xs ≡ n → ⊥) → reading_refusal xs ≡ Some (DesignLength n)
refuses_length xs n e h = rw (is_whole, e) (simp (ne_eqb (length xs) (expected_length xs) (λ p. h (p ∙ sym e))))

-- the length is right, and the numbers are of 16 bits
pub record Long (xs : List ℕ) : Type 0 where
  pub long : length xs ≡ expected_length xs
  pub small : (k : ℕ) → get_or xs k 0 < 65536

past_length : (xs : List ℕ) → Long xs → reading_refusal xs ≡ count_refusal xs
past_length xs h =
    let a = eq-eqb (length xs) (expected_length xs) h.long in
    let b = none_first (in_range xs) (length xs) (λ k l. le-leb (get_or xs k 0) 65535 (omega (arith, h.small k))) in
    rw is_whole (simp (a, b))

pub refuses_count : (xs : List ℕ) → Long xs → 1024 < nodes_of xs → reading_refusal xs ≡ Some TooManyNodes
refuses_count xs h l = rw (past_length xs h) (simp (lt-ltb 1024 (nodes_of xs) l))

past_count : (xs : List ℕ) → Long xs → nodes_of xs ≤ 1024 → reading_refusal xs ≡ node_refusal xs
past_count xs h l = rw (past_length xs h) (simp (le-ltb 1024 (nodes_of xs) l))

pub refuses_node : (xs : List ℕ) (n : ℕ) → Long xs → nodes_of xs ≤ 1024 → first_failing (node_ok xs) (nodes_of xs) ≡ Some n → reading_refusal xs ≡ Some (BadNode n)
refuses_node xs n h l e = rw (past_count xs h l) (simp e)

past_node : (xs : List ℕ) → Long xs → nodes_of xs ≤ 1024 → first_failing (node_ok xs) (nodes_of xs) ≡ None → reading_refusal xs ≡ named_refusal xs
past_node xs h l e = rw (past_count xs h l) (simp e)

pub refuses_register : (xs : List ℕ) (r : ℕ) → Long xs → nodes_of xs ≤ 1024 → first_failing (node_ok xs) (nodes_of xs) ≡ None →
    first_failing (register_named xs) (registers_of xs) ≡ Some r → reading_refusal xs ≡ Some (NoSuchNode (register_place xs r + 2))
refuses_register xs r h l e f = rw (past_node xs h l e) (simp f)

pub refuses_output : (xs : List ℕ) (o : ℕ) → Long xs → nodes_of xs ≤ 1024 → first_failing (node_ok xs) (nodes_of xs) ≡ None →
    first_failing (register_named xs) (registers_of xs) ≡ None → first_failing (output_named xs) (outputs_of xs) ≡ Some o → reading_refusal xs ≡ Some (NoSuchNode (output_place xs o))
refuses_output xs o h l e f g = rw (past_node xs h l e) (simp (f, g))

pub refuses_nothing : (xs : List ℕ) → Long xs → nodes_of xs ≤ 1024 → first_failing (node_ok xs) (nodes_of xs) ≡ None →
    first_failing (register_named xs) (registers_of xs) ≡ None → first_failing (output_named xs) (outputs_of xs) ≡ None → reading_refusal xs ≡ None
refuses_nothing xs h l e f g = rw (past_node xs h l e) (simp (f, g))

-- the same, from the test that stands in for `None`
no_value : (o : Option Refusal) → is_some o ≡ false → o ≡ None
no_value None e = refl
no_value (Some x) e = absurd (true≢false e)

pub not_refused : (xs : List ℕ) → is_some (reading_refusal xs) ≡ false → reading_refusal xs ≡ None
not_refused xs h = no_value (reading_refusal xs) h

pub refused_not : (xs : List ℕ) → None ≡ reading_refusal xs → is_some (reading_refusal xs) ≡ false
refused_not xs h = rw (sym h)

-- four zeros are the empty design
pub empty_readable : is_some (reading_refusal (0 ∷ 0 ∷ 0 ∷ 0 ∷ [])) ≡ false
unfolding reading_refusal length_refusal content_refusal expected_length node_place nodes_of inputs_of registers_of outputs_of first_failing
empty_readable = refl
