-- Every price passed lies in -limit..limit. Assumes nothing.
use Rattle.assignment.specs.Pairings.{signed_at}
use Rattle.matrix.specs.Tests.{outside}
use Rattle.matrix.proofs.First.{Clear}
use Rattle.matrix.proofs.tests.first_price_outside.Given as goal

abbrev pub invariant-loop-i : goal.invariant-loop-i
invariant-loop-i l = Clear (λ i. outside l.limit (signed_at l.prices i)) l.i
