-- `claim` does what its definition says, in both ways. Assumes nothing.
use Rattle.std.proofs.Common.{arith}
use Rattle.matrix.proofs.SmallLimits.{side_small}
use Rattle.reduction.specs.Columns.{claims_of}
use Rattle.reduction.proofs.Claims.{claim_loses}
use Rattle.reduction.proofs.columns.claim.Goals as goal

pub overflow_cast-cols : goal.overflow_cast-cols
overflow_cast-cols c = omega (arith, side_small)

pub returns-else-marks-i-eq-UNCLAIMED : goal.returns-else-marks-i-eq-UNCLAIMED
returns-else-marks-i-eq-UNCLAIMED c = let u = c.args in claim_loses u.j (claims_of u.cols.now u.rows.now u.marks.now) c.if-marks-i-eq-UNCLAIMED.false
