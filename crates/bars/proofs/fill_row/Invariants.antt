-- `fill_row` leaves its cost on barred places: the first j places are filled. Assumes nothing.
use Rattle.std.proofs.Common.{◌≡◌}
use Rattle.bars.proofs.FilledRow.{row_filled}
use Rattle.bars.proofs.fill_row.Given as goal

abbrev pub invariant-loop-j : goal.invariant-loop-j
invariant-loop-j l = l.row ≡ row_filled l.bits l.dear l.initial.row l.j
