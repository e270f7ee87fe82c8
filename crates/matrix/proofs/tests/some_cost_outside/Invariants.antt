-- `some_cost_outside` answers whether a cost lies outside -limit..limit: before place k, whether one of those passed does. Assumes nothing.
use mathlib.Core.Path.{◌≡◌}
use mathlib.Core.Bool.{Bool}
use mathlib.Core.List.{List}
use Prim.Native.Nat.{ℕ, ◌≤◌}
use lib.IntN.{ℤ}
use lib.ListN.{length}
use Rattle.lists.specs.Counts.{some}
use Rattle.assignment.specs.Pairings.{signed_at}
use Rattle.matrix.specs.Tests.{outside}
use Rattle.matrix.proofs.tests.some_cost_outside.Given as goal

abbrev pub test : ℤ → List ℤ → ℕ → Bool
test limit costs k = outside limit (signed_at costs k)

abbrev pub invariant-loop-cost : goal.invariant-loop-cost
invariant-loop-cost l = (l.cost-index ≤ length l.costs) × (l.found ≡ some l.cost-index (test l.limit l.costs))
