use Rattle.std.proofs.Common.{Bool, ap, ◌∙◌}
use Rattle.design.specs.Designs.{Design, Words, Expr, bit, eval, width, less_below, equal_below}
use Rattle.design_laws.specs.Laws.{Shown}
use Rattle.design_laws.proofs.Arithmetic.{less_is_less, equal_is_equal, number_of_slice, number_of_join, number_of_not, number_of_or, number_of_xor, number_of_single, number_of_choice, number_of_word}
use Rattle.design_laws.proofs.laws.operations_in_numbers.Goals as goal

shown : (d : Design) (ins regs : Words) (x y : Expr) → Shown d ins regs x y
unfolding eval
shown d ins regs x y =
    let a = eval d ins regs x in
    let b = eval d ins regs y in
    let w = width d x in
    record {
      of_less = number_of_single (less_below a b w) ∙ ap (λ (t : Bool). bit t) (less_is_less a b w);
      of_equal = number_of_single (equal_below a b w) ∙ ap (λ (t : Bool). bit t) (equal_is_equal a b w);
      of_slice = λ l v. number_of_slice a l v;
      of_concat = λ u. number_of_join a b u (width d y);
      of_not = number_of_not a;
      of_or = number_of_or a b;
      of_xor = number_of_xor a b;
      of_mux = λ c. number_of_choice (eval d ins regs c 0) a b;
      of_constant = number_of_word;
    }

pub returns : goal.returns
returns c = shown
