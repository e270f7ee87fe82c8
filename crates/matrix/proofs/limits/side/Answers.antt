-- `side` answers the limit. Assumes nothing.
use borrow.Author.Rules.{rules}
use Rattle.matrix.specs.Limits.{side}
use Rattle.matrix.proofs.limits.side.Goals as goal

pub returns : goal.returns
unfolding side
returns c = search rules
