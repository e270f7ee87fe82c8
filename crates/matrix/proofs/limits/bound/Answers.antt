-- `bound` answers K. Assumes nothing.
use borrow.Author.Rules.{rules}
use Rattle.matrix.specs.Limits.{K}
use Rattle.matrix.proofs.limits.bound.Goals as goal

pub returns : goal.returns
unfolding K
returns c = search rules
