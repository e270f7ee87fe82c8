-- `find_umins_plain` answers the two lowest: before the next column that counts it has found those of the columns before. Assumes nothing.
use Rattle.reduction.specs.Reduced.{width, reduced_at}
use Rattle.reduction.proofs.Turns.{NextTwo, ahead}
use Rattle.reduction.proofs.lowest.find_umins_plain.Given as goal

abbrev pub invariant-loop-next : goal.invariant-loop-next
invariant-loop-next l = NextTwo (reduced_at l.row) (width l.row) l.lowest l.second l.next

abbrev pub decreases-loop-next : goal.decreases-loop-next
decreases-loop-next l = ahead (width l.row) l.next
