-- The search finds this one too; it stands here so that the edit `try_from`, which hands out the empty design, is refused at what is promised.
use Rattle.std.proofs.Common.{rules}
use Rattle.design.proofs.Reading.{empty_readable}
use Rattle.design.proofs.encoded.EncodedTryFromRefSliceU16.try_from.Goals as goal

pub invariant_of-result : goal.invariant_of-result
invariant_of-result c = search (rules, empty_readable)
