-- What the refusal of an unsound design says, and sums that stop at a cap.
use Rattle.std.proofs.Common.{◌≡◌, ℕ, ◌+◌, min, Bool, true, false, ◌&&◌, eqb, leb, List, is_some, Some, None, Option, IfSome, MatchOption, sym, refl, ap, ◌∙◌, subst, add-one}
use Rattle.std.proofs.lemmas.Bool.{and_parts}
use Rattle.design.specs.declared.summary.Summary.{Summary}
use Rattle.std.specs.Option.{option_or, option_map}
use Rattle.design.specs.declared.refusal.Refusal.{Refusal}
use Rattle.design.specs.declared.refusal.Refusal.TheVariants.{UnsoundRegister, UnsoundOutput, UnsoundInput}
use Rattle.design.specs.Designs.{Design, Sound, width, well_formed, cells, width_ok, register_sound, output_sound, input_sound, register_cells, output_width, output_cells, total, input_bits, output_bits, plain_cells, plain_tracks}
use Rattle.design.specs.declared.counts.Counts.{Counts}
use Rattle.design.specs.Encodings.{Counted}
use Rattle.design.specs.Summaries.{Summarizes}
use Rattle.design.specs.Numbers.{inputs_of, registers_of, outputs_of, nodes_of, register_node, output_node, expr_at, design_in, first_failing, soundness_refusal}
use Rattle.design.proofs.First.{first_none, none_first}
use Rattle.design.proofs.Reading.{neither, unmapped}
use Rattle.design.proofs.Summing.{capped_two, capped_one}

abbrev register_refusal : Design → Option Refusal
register_refusal d = option_map (λ r. UnsoundRegister r) (first_failing (register_sound d) d.registers)

abbrev output_refusal : Design → Option Refusal
output_refusal d = option_map (λ o. UnsoundOutput (d.registers + o)) (first_failing (output_sound d) d.outputs)

abbrev input_refusal : Design → Option Refusal
input_refusal d = option_map (λ i. UnsoundInput (d.registers + d.outputs + i)) (first_failing (input_sound d) d.inputs)

in_order : (d : Design) → soundness_refusal d ≡ option_or (register_refusal d) (option_or (output_refusal d) (input_refusal d))
unfolding soundness_refusal
in_order d = refl

-- nothing is refused exactly where the design is sound
pub sound_from_none : (d : Design) → soundness_refusal d ≡ None → Sound d
sound_from_none d h =
    let a = neither (register_refusal d) (option_or (output_refusal d) (input_refusal d)) (sym (in_order d) ∙ h) in
    let b = neither (output_refusal d) (input_refusal d) a.1 in
    record {
      registers = first_none (register_sound d) d.registers (unmapped _ _ a.0);
      outputs = first_none (output_sound d) d.outputs (unmapped _ _ b.0);
      inputs = first_none (input_sound d) d.inputs (unmapped _ _ b.1);
    }

pub refuses_none : (d : Design) → first_failing (register_sound d) d.registers ≡ None → first_failing (output_sound d) d.outputs ≡ None →
    first_failing (input_sound d) d.inputs ≡ None → soundness_refusal d ≡ None
refuses_none d r o i = rw (in_order d) (simp (r, o, i))

pub none_from_sound : (d : Design) → Sound d → soundness_refusal d ≡ None
none_from_sound d s =
    refuses_none d (none_first (register_sound d) d.registers s.registers) (none_first (output_sound d) d.outputs s.outputs)
    (none_first (input_sound d) d.inputs s.inputs)

-- each refusal, where what comes before it is sound
pub refuses_register : (d : Design) (k : ℕ) → first_failing (register_sound d) d.registers ≡ Some k → soundness_refusal d ≡ Some (UnsoundRegister k)
refuses_register d k r = rw (in_order d) (simp r)

pub refuses_output : (d : Design) (k : ℕ) → first_failing (register_sound d) d.registers ≡ None → first_failing (output_sound d) d.outputs ≡ Some k →
    soundness_refusal d ≡ Some (UnsoundOutput (d.registers + k))
refuses_output d k r o = rw (in_order d) (simp (r, o))

pub refuses_input : (d : Design) (k : ℕ) → first_failing (register_sound d) d.registers ≡ None → first_failing (output_sound d) d.outputs ≡ None →
    first_failing (input_sound d) d.inputs ≡ Some k → soundness_refusal d ≡ Some (UnsoundInput (d.registers + d.outputs + k))
refuses_input d k r o i = rw (in_order d) (simp (r, o, i))

-- sums
pub total_none : (f : ℕ → ℕ) → total 0 f ≡ 0
unfolding total
total_none f = refl

pub total_more : (n : ℕ) (f : ℕ → ℕ) → total (n + 1) f ≡ total n f + f n
unfolding total
total_more n f = rw add-one

pub capped_none : (f : ℕ → ℕ) → 0 ≡ min 65536 (total 0 f)
unfolding total
capped_none f = refl

pub capped_more : (n : ℕ) (f : ℕ → ℕ) (sum one next : ℕ) → sum ≡ min 65536 (total n f) → one ≡ min 65536 (f n) → next ≡ min 65536 (sum + one) →
    next ≡ min 65536 (total (n + 1) f)
capped_more n f sum one next s o h = h ∙ rw (s, o, total_more n f) (capped_two (total n f) (f n))

-- soundness and cells from the summary of what a register becomes
width_test : (p : Bool) (v v' w : ℕ) → (p ≡ true → v ≡ v') → (p && eqb v w) ≡ (p && eqb v' w)
width_test true v v' w e = cc (e refl)
width_test false v v' w e = refl

pub register_test : (d : Design) (k w : ℕ) (s : Summary) → Summarizes d (d.next k) s → w ≡ d.register_width k →
    ((leb 1 w && leb w 64) && (s.formed && eqb s.width w)) ≡ register_sound d k
unfolding register_sound width_ok
register_test d k w s sum e =
    rw (e, sum.0) (ap (λ t. (leb 1 (d.register_width k) && leb (d.register_width k) 64) && t)
    (width_test (well_formed d (d.next k)) s.width (width d (d.next k)) (d.register_width k) sum.1))

pub register_count : (d : Design) (k w c : ℕ) (s : Summary) → Summarizes d (d.next k) s → w ≡ d.register_width k → register_sound d k ≡ true →
    c ≡ min 65536 (s.cells + w) → c ≡ min 65536 (register_cells d k)
unfolding register_sound register_cells
register_count d k w c s sum e sound h =
    let p = and_parts (width_ok (d.register_width k)) (well_formed d (d.next k) && eqb (width d (d.next k)) (d.register_width k)) sound in
    let q = and_parts (well_formed d (d.next k)) (eqb (width d (d.next k)) (d.register_width k)) p.1 in
    h ∙ rw (sum.2 q.0, e) (capped_one (cells d (d.next k)) (d.register_width k))

pub register_cost : (d : Design) (k w : ℕ) (s : Summary) (r : Option ℕ) → Summarizes d (d.next k) s → w ≡ d.register_width k →
    is_some r ≡ ((leb 1 w && leb w 64) && (s.formed && eqb s.width w)) → IfSome r (λ c. c ≡ min 65536 (s.cells + w)) →
    MatchOption r (register_sound d k ≡ false) (λ c. (register_sound d k ≡ true) × (c ≡ min 65536 (register_cells d k)))
register_cost d k w s None sum e fits count = sym (fits ∙ register_test d k w s sum e)
register_cost d k w s (Some c) sum e fits count =
    let sound = sym (fits ∙ register_test d k w s sum e) in
    (sound, register_count d k w c s sum e sound count)

-- the same of an output
pub output_test : (d : Design) (k : ℕ) (s : Summary) → Summarizes d (d.output k) s → s.formed ≡ output_sound d k
unfolding output_sound
output_test d k s sum = sum.0

pub output_wide : (d : Design) (k : ℕ) (s : Summary) → Summarizes d (d.output k) s → output_sound d k ≡ true → s.width ≡ output_width d k
unfolding output_sound output_width
output_wide d k s sum sound = sum.1 sound

pub output_count : (d : Design) (k c : ℕ) (s : Summary) → Summarizes d (d.output k) s → output_sound d k ≡ true →
    c ≡ min 65536 (s.cells + s.width) → c ≡ min 65536 (output_cells d k)
unfolding output_sound output_cells output_width
output_count d k c s sum sound h = h ∙ rw (sum.2 sound, sum.1 sound) (capped_one (cells d (d.output k)) (width d (d.output k)))

pub input_test : (d : Design) (k w : ℕ) → w ≡ d.input_width k → (leb 1 w && leb w 64) ≡ input_sound d k
unfolding input_sound width_ok
input_test d k w e = rw e

-- where a loop ends
pub total_end : (f : ℕ → ℕ) (k n sum : ℕ) → k ≡ n → sum ≡ total k f → sum ≡ total n f
total_end f k n sum e h = rw e at h

pub capped_end : (f : ℕ → ℕ) (k n sum : ℕ) → k ≡ n → sum ≡ min 65536 (total k f) → sum ≡ min 65536 (total n f)
capped_end f k n sum e h = rw e at h

pub total_step : (f : ℕ → ℕ) (k sum more : ℕ) → sum ≡ total k f → more ≡ f k → sum + more ≡ total (k + 1) f
total_step f k sum more s m = rw (total_more k f, s, m)

-- what the summaries of the nodes are summaries of
pub next_summary : (xs : List ℕ) (k n : ℕ) (s : Summary) → n ≡ register_node xs k → Summarizes (design_in xs) (expr_at xs (nodes_of xs) n) s →
    Summarizes (design_in xs) ((design_in xs).next k) s
unfolding design_in
next_summary xs k n s e h = let P : ℕ → Type 0 = λ m. Summarizes (design_in xs) (expr_at xs (nodes_of xs) m) s in subst P e h

pub output_summary : (xs : List ℕ) (k n : ℕ) (s : Summary) → n ≡ output_node xs k → Summarizes (design_in xs) (expr_at xs (nodes_of xs) n) s →
    Summarizes (design_in xs) ((design_in xs).output k) s
unfolding design_in
output_summary xs k n s e h = let P : ℕ → Type 0 = λ m. Summarizes (design_in xs) (expr_at xs (nodes_of xs) m) s in subst P e h

-- how many there are of each
pub registers_in : (xs : List ℕ) → (design_in xs).registers ≡ registers_of xs
unfolding design_in
registers_in xs = refl

pub outputs_in : (xs : List ℕ) → (design_in xs).outputs ≡ outputs_of xs
unfolding design_in
outputs_in xs = refl

pub inputs_in : (xs : List ℕ) → (design_in xs).inputs ≡ inputs_of xs
unfolding design_in
inputs_in xs = refl

pub counted : (d : Design) (c : Counts) (registers outputs : ℕ) →
    c.input_bits ≡ total d.inputs d.input_width → c.output_bits ≡ total d.outputs (output_width d) →
    registers ≡ min 65536 (total d.registers (register_cells d)) → outputs ≡ min 65536 (total d.outputs (output_cells d)) →
    c.cells ≡ min 65536 (registers + outputs) → c.tracks ≡ min 65536 (c.cells + c.input_bits) → Counted d c
unfolding input_bits output_bits plain_cells plain_tracks
counted d c registers outputs i o r s cs ts =
    let all = cs ∙ rw (r, s) (capped_two (total d.registers (register_cells d)) (total d.outputs (output_cells d))) in
    record {
      inputs = i;
      outputs = o;
      cells = all;
      tracks = ts ∙ rw (all, i) (capped_one (total d.registers (register_cells d) + total d.outputs (output_cells d)) (total d.inputs d.input_width));
    }
