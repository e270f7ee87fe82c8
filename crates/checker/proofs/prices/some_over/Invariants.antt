-- `some_over` answers whether the prices are over the cost in a row: before column j, whether they are at one of those passed. Assumes nothing.
use Rattle.std.proofs.Common.{◌≡◌}
use Rattle.lists.specs.Counts.{some}
use Rattle.checker.proofs.Places.{over_at}
use Rattle.checker.proofs.prices.some_over.Given as goal

abbrev pub invariant-loop-j : goal.invariant-loop-j
invariant-loop-j l = l.found ≡ some l.j (over_at l.row l.u l.vs)
