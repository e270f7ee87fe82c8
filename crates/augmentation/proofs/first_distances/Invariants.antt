-- `first_distances` leaves each column as far as the row makes it: the first j are filled. Assumes nothing.
use mathlib.Core.Path.{◌≡◌}
use Prim.Native.Nat.{ℕ, ◌<◌}
use lib.IntN.{◌-ℤ◌}
use Rattle.assignment.specs.Pairings.{signed_at}
use Rattle.augmentation.proofs.first_distances.Given as goal

abbrev pub invariant-loop-j : goal.invariant-loop-j
invariant-loop-j l = (k : ℕ) → k < l.j → signed_at l.d k ≡ signed_at l.row k -ℤ signed_at l.v k
