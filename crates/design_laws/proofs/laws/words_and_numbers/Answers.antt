use Rattle.design_laws.proofs.Arithmetic.{word_of_number, number_of_word}
use Rattle.design_laws.proofs.laws.words_and_numbers.Goals as goal

pub returns : goal.returns
returns c = (word_of_number, number_of_word)
