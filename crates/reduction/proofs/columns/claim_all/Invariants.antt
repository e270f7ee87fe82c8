-- `claim_all` runs the claims from last to first: before column j has claimed, the columns from j on have. Assumes nothing.
use Rattle.reduction.specs.Columns.{claims_of}
use Rattle.reduction.proofs.Claims.{Head}
use Rattle.reduction.proofs.columns.claim_all.Given as goal

abbrev pub invariant-loop-j : goal.invariant-loop-j
invariant-loop-j l = Head l.n (claims_of l.initial.cols l.initial.rows l.initial.marks) (claims_of l.cols l.rows l.marks) l.j
