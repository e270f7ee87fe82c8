-- `find_three` finds the first three columns and their limit: before the next column that counts it has found those of the columns before. Assumes nothing.
use Rattle.reduction.specs.Reduced.{width, reduced_at}
use Rattle.reduction.proofs.FirstThree.{NextThree}
use Rattle.reduction.proofs.Turns.{ahead}
use Rattle.reduction.proofs.candidates.find_three.Given as goal

abbrev pub invariant-loop-next : goal.invariant-loop-next
invariant-loop-next l = NextThree (reduced_at l.row) (width l.row) l.three l.next

abbrev pub decreases-loop-next : goal.decreases-loop-next
decreases-loop-next l = ahead (width l.row) l.next
