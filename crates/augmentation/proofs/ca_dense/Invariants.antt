-- `ca_dense` is the augmentation: the loop is the definition's, a free row a turn. Assumes nothing.
use Rattle.augmentation.proofs.Augmentation.{Augmenting}
use Rattle.augmentation.proofs.ca_dense.Given as goal

abbrev pub invariant-loop-start : goal.invariant-loop-start
invariant-loop-start l = Augmenting l.n l.costs l.left l.initial.cols l.initial.rows l.initial.v l.fn.d l.fn.room l.cols l.rows l.v l.d l.list l.predecessors l.scanned l.start-index
