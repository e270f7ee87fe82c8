-- `engine` leaves what its definition says: before each list, what the lists before it leave. Assumes nothing.
use Prim.Native.Nat.{◌-◌, ◌^◌}
use lib.ListN.{length}
use Rattle.plain.proofs.Numbers.{number}
use Rattle.plain.proofs.Steps.{Head}
use Rattle.plain.proofs.engine.Given as goal

abbrev pub invariant-loop-found : goal.invariant-loop-found
invariant-loop-found l = Head l.n (length l.initial.cols) l.costs l.bars l.initial.cols l.list l.cols l.found

abbrev pub decreases-loop-found : goal.decreases-loop-found
decreases-loop-found l = l.n ^ length l.initial.cols - number l.n (length l.initial.cols) l.list
