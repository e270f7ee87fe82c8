-- `some_over` adds one column to those passed. Assumes nothing.
use Rattle.std.proofs.Common.{rules}
use Rattle.checker.proofs.Found.{some_more}
use Rattle.checker.proofs.prices.some_over.Goals as goal

pub loop-j-preserved : goal.loop-j-preserved
loop-j-preserved c = some_more _ _ _ _ c.loop-j.invariant (search rules)
