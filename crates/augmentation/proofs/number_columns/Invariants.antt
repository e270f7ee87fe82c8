-- `number_columns` leaves the columns in their order: the first j are filled. Assumes nothing.
use mathlib.Core.Path.{◌≡◌}
use Prim.Native.Nat.{ℕ, ◌<◌}
use Rattle.lists.specs.Permutations.{at}
use Rattle.augmentation.proofs.number_columns.Given as goal

abbrev pub invariant-loop-j : goal.invariant-loop-j
invariant-loop-j l = (k : ℕ) → k < l.j → at l.list k ≡ k
