-- Every cost passed lies in -limit..limit. Assumes nothing.
use Rattle.assignment.specs.Pairings.{signed_at}
use Rattle.matrix.specs.Tests.{outside}
use Rattle.matrix.proofs.First.{Clear}
use Rattle.matrix.proofs.tests.first_cost_outside.Given as goal

abbrev pub invariant-loop-k : goal.invariant-loop-k
invariant-loop-k l = Clear (λ k. outside l.limit (signed_at l.costs k)) l.k
