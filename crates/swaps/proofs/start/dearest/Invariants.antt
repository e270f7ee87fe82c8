-- `dearest` answers the highest price of a used column: so far that of the rows passed. Assumes nothing.
use Rattle.std.proofs.Common.{◌≡◌}
use Rattle.lists.specs.Runs.{upward}
use Rattle.lists.specs.Permutations.{at}
use Rattle.assignment.specs.Pairings.{signed_at}
use Rattle.swaps.specs.Second.{higher}
use Rattle.swaps.proofs.start.dearest.Given as goal

abbrev pub invariant-loop-i : goal.invariant-loop-i
invariant-loop-i l = l.top ≡ upward 0 l.i (higher l.vs l.cols) (signed_at l.vs (at l.cols 0))
