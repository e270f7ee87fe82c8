-- `sheet_side` answers the limit. Assumes nothing.
use borrow.Author.Rules.{rules}
use Rattle.matrix.specs.Limits.{sheet_side}
use Rattle.matrix.proofs.limits.sheet_side.Goals as goal

pub returns : goal.returns
unfolding sheet_side
returns c = search rules
