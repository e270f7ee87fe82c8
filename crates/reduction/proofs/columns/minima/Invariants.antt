-- `minima` leaves the minimum of each column and its row: before row i it has those of the rows before. Assumes nothing.
use mathlib.Core.Path.{◌≡◌}
use Rattle.reduction.proofs.Minima.{places, values}
use Rattle.reduction.proofs.columns.minima.Given as goal

abbrev pub invariant-loop-i : goal.invariant-loop-i
invariant-loop-i l = (l.rows ≡ places l.n l.costs l.i) × (l.v ≡ values l.n l.costs l.i)
