use Rattle.bitstream.proofs.Refusing.{words_says}
use Rattle.bitstream.proofs.put_words.Goals as goal

pub returns : goal.returns
returns c = words_says _ _ _ _ _ _ _ _ c.plan_words-planned.ensures c.carry_out.ensures
