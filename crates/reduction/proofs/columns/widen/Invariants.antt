-- `widen` leaves the row: its first j costs stand there already. Assumes nothing.
use Rattle.std.proofs.Common.{◌≡◌, ℕ, ◌<◌}
use Rattle.assignment.specs.Pairings.{signed_at}
use Rattle.reduction.proofs.columns.widen.Given as goal

abbrev pub invariant-loop-j : goal.invariant-loop-j
invariant-loop-j l = (k : ℕ) → k < l.j → signed_at l.v k ≡ signed_at l.row k
