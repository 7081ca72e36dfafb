use Rattle.std.proofs.Common.{rules}
use Rattle.design.proofs.Reading.{empty_readable}
use Rattle.design.proofs.encoded.Encoded.new.Goals as goal

pub invariant_of-unwrap_or : goal.invariant_of-unwrap_or
invariant_of-unwrap_or c = search (rules, empty_readable)
