-- `lower_columns` is a row's view of the columns after the block: the loop is the definition's, a column a turn. Assumes nothing.
use lib.ListN.{length}
use Rattle.augmentation.proofs.Lowering.{Lowering}
use Rattle.augmentation.proofs.lower_columns.Given as goal

abbrev pub invariant-loop-k : goal.invariant-loop-k
invariant-loop-k l = Lowering (length l.rows) l.i l.row l.v l.rows l.h l.minimum l.from l.initial.d l.initial.list l.initial.predecessors l.d l.list l.predecessors l.hi l.k
