-- `flip_back` flips the pairs back to the start row: the loop is the definition's, a flip a turn, and each leaves fewer to go. Assumes nothing.
use lib.ListN.{length}
use Rattle.augmentation.specs.Augmentation.{open_at}
use Rattle.augmentation.proofs.Flips.{togo, Flipping}
use Rattle.augmentation.proofs.flip_back.Given as goal

abbrev pub invariant-loop-i : goal.invariant-loop-i
invariant-loop-i l = Flipping (length l.initial.rows) l.start l.predecessors l.column l.initial.cols l.initial.rows l.cols l.rows l.j

abbrev pub decreases-loop-i : goal.decreases-loop-i
decreases-loop-i l = togo (length l.initial.rows) l.start l.predecessors (open_at l.j l.cols l.rows)
