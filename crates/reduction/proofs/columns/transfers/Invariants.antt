-- `transfers` does what the definition of the transfer says: before row i, its lists hold the transfer of the rows before. Assumes nothing.
use Rattle.std.proofs.Common.{◌≡◌, ◌≤◌}
use Rattle.reduction.specs.Columns.{transfer_of, transferring}
use Rattle.reduction.proofs.columns.transfers.Given as goal

abbrev pub invariant-loop-i : goal.invariant-loop-i
invariant-loop-i l = (l.count ≤ l.i) × (transfer_of l.v l.frees l.count ≡ transferring l.n l.costs l.cols l.marks l.initial.v l.initial.frees l.i)
