-- One tick: the table gives what the outputs show and what the registers become.
use Rattle.std.proofs.Common.{◌≡◌, ℕ, ◌<◌, ◌≤◌, min, true, List, get_or, None, refl, ap, ◌∙◌}
use Rattle.std.proofs.lemmas.Bool.{lt-ltb}
use Rattle.design.specs.Designs.{Words, register, Design, Sound, width, well_formed, number, word, eval, output_width, output_sound}
use Rattle.design.specs.Numbers.{nodes_of, register_node, output_node, node_expr, design_in, reading_refusal, soundness_refusal}
use Rattle.design.proofs.Reading.{readable}
use Rattle.design.proofs.Sound.{sound_from_none}
use Rattle.design_laws.specs.Laws.{Alike}
use Rattle.design_laws.proofs.Arithmetic.{same_number, word_of_number}
use Rattle.design_laws.proofs.Locality.{next_of, widths_suffice}
use Rattle.player.specs.Plays.{words_in, Lists, Holds, Shows, Ticks}
use Rattle.player.specs.Tables.{Tabled, Taken}
use Rattle.player.proofs.Passing.{width_fits, cut}

-- a register of a sound design has a width of at most 64
register_fits : (d : Design) → Sound d → (r : ℕ) → r < d.registers → d.register_width r ≤ 64
unfolding width well_formed
register_fits d s r l = width_fits d s (register r) (lt-ltb r d.registers l)

-- the words that the registers begin with
pub first_words : (d : Design) → Sound d → (xs : List ℕ) → Lists d.registers (λ r. number (min (d.register_width r) 64) (d.initial r)) xs → Holds d d.initial xs
first_words d s xs h = record {
  long = h.long;
  right = λ r l. h.right r l ∙ ap (λ (n : ℕ). number n (d.initial r)) (cut (d.register_width r) (min (d.register_width r) 64) (d.register_width r) refl refl (register_fits d s r l));
}

-- numbers that are held stand for the words that they are the numbers of
held_alike : (d : Design) (regs : Words) (held : List ℕ) → Holds d regs held → Alike d.registers d.register_width (words_in held) regs
held_alike d regs held h i k l b = ap (λ (n : ℕ). word n k) (h.right i l) ∙ word_of_number (d.register_width i) (regs i) k b

module _ (xs inputs held table : List ℕ) (readable' : reading_refusal xs ≡ None) (none : soundness_refusal (design_in xs) ≡ None) (known : Tabled xs inputs held table) where
  -- the word of a node that is well-formed
  at_name : (regs : Words) → Holds (design_in xs) regs held → (n : ℕ) → n < nodes_of xs → well_formed (design_in xs) (node_expr xs n) ≡ true →
      get_or table n 0 ≡ number (width (design_in xs) (node_expr xs n)) (eval (design_in xs) (words_in inputs) regs (node_expr xs n))
  at_name regs h n l ok =
      let d = design_in xs in
      let e = node_expr xs n in
      known (sound_from_none d none) n l ok
      ∙ same_number (width d e) (eval d (words_in inputs) (words_in held) e) (eval d (words_in inputs) regs e)
      (λ k b. widths_suffice d (words_in inputs) (words_in inputs) (words_in held) regs e ok (λ i j _ _. refl) (held_alike d regs held h) k b)

  shows : (shown : List ℕ) → Taken (design_in xs).outputs (output_node xs) table shown → (regs : Words) → Holds (design_in xs) regs held →
      Shows (design_in xs) (λ o. eval (design_in xs) (words_in inputs) regs ((design_in xs).output o)) shown
  unfolding design_in output_sound output_width
  shows shown taken regs h =
      let d = design_in xs in
      record {
        long = taken.long;
        right = λ o l. taken.right o l ∙ at_name regs h (output_node xs o) ((readable xs readable').outputs o l) ((sound_from_none d none).outputs o l);
      }

  holds : (next : List ℕ) → Taken (design_in xs).registers (register_node xs) table next → (regs : Words) → Holds (design_in xs) regs held →
      Holds (design_in xs) (λ r. eval (design_in xs) (words_in inputs) regs ((design_in xs).next r)) next
  unfolding design_in
  holds next taken regs h =
      let d = design_in xs in
      record {
        long = taken.long;
        right = λ r l.
            let is = next_of d (sound_from_none d none) r l in
            taken.right r l
            ∙ at_name regs h (register_node xs r) ((readable xs readable').registers r l) is.formed
            ∙ ap (λ (n : ℕ). number n (eval d (words_in inputs) regs (d.next r))) is.fit;
      }

  pub ticks : (next shown : List ℕ) → Taken (design_in xs).registers (register_node xs) table next → Taken (design_in xs).outputs (output_node xs) table shown →
      Ticks (design_in xs) inputs held next shown
  ticks next shown r o regs h = (shows shown o regs h, holds next r regs h)
