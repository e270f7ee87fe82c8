use Rattle.std.proofs.Common.{◌-◌, arith}
use Rattle.reduction.proofs.Claims.{head_next, head_ends}
use Rattle.reduction.proofs.columns.claim_all.Goals as goal

pub loop-j-preserved : goal.loop-j-preserved
loop-j-preserved c = head_next c.loop-j.invariant (c.loop-j.j - 1) (omega arith) _ c.claim.ensures

pub returns : goal.returns
returns c = head_ends c.loop-j.invariant (omega arith)
