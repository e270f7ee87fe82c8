-- `find_dense` makes the block of minima: a turn is the definition's at a place not above the minimum, after the places above it. Assumes
-- nothing.
use Prim.Native.Nat.{◌-◌}
use lib.ListN.{length}
use Rattle.augmentation.proofs.Block.{Blocked}
use Rattle.augmentation.proofs.find_dense.Given as goal

abbrev pub invariant-loop-k : goal.invariant-loop-k
invariant-loop-k l = Blocked (length l.d) l.lo l.d l.initial.list l.list l.hi l.minimum l.from

abbrev pub decreases-loop-k : goal.decreases-loop-k
decreases-loop-k l = length l.d - l.from
