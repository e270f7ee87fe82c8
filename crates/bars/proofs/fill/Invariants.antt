-- `fill` leaves its cost on barred places, row by row: the first i rows are filled. Assumes nothing.
use Rattle.std.proofs.Common.{◌≡◌}
use Rattle.bars.proofs.FilledCosts.{rows_filled}
use Rattle.bars.proofs.fill.Given as goal

abbrev pub invariant-loop-i : goal.invariant-loop-i
invariant-loop-i l = l.costs ≡ rows_filled l.n l.dear l.initial.costs l.bars l.i
