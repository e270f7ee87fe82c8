-- `least_other` answers the least but one: before the next column that may change it, it has that of the columns before. Assumes nothing.
use Rattle.reduction.specs.Reduced.{width, reduced_at}
use Rattle.reduction.proofs.Turns.{NextBut, ahead}
use Rattle.reduction.proofs.columns.least_other.Given as goal

abbrev pub invariant-loop-next : goal.invariant-loop-next
invariant-loop-next l = NextBut (reduced_at l.row) (width l.row) l.j l.found l.next

abbrev pub decreases-loop-next : goal.decreases-loop-next
decreases-loop-next l = ahead (width l.row) l.next
