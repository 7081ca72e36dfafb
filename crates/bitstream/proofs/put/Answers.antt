use Rattle.bitstream.proofs.Refusing.{put_says}
use Rattle.bitstream.proofs.put.Goals as goal

pub returns : goal.returns
returns c = put_says _ _ _ _ _ _ _ _ c.plan-planned.ensures c.carry_out.ensures
