-- How large costs are: those of a list at every place, and the total of n. Assumes nothing.
use mathlib.Core.Logic.{inl, inr}
use mathlib.Core.List.{List}
use Prim.Native.Nat.{ℕ, ◌+◌, ◌*◌, ◌<◌}
use native.Mathlib.Omega.{arith}
use lib.IntN.{ℤ, pos}
use lib.ListN.{length, get_or-eq_default}
use Rattle.ints.specs.Parts.{Within}
use Rattle.lists.specs.Permutations.{at}
use Rattle.lists.proofs.Sums.{sum_within}
use Rattle.lists.proofs.Cases.{lt_or_le}
use Rattle.assignment.specs.Pairings.{square, signed_at, total}

-- Past the end of a list of costs or prices stands 0, which lies within any bound.
pub within_everywhere : (K : ℕ) (l : List ℤ) → ((k : ℕ) → k < length l → Within K (signed_at l k)) → (k : ℕ) → Within K (signed_at l k)
within_everywhere K l h k = elim (lt_or_le k (length l)) [
  | inl a ↦ h k a
  | inr a ↦ rw (get_or-eq_default l (pos 0) {n = k} a) (record { low = omega arith; high = omega arith })
]

-- The total of n costs.
pub total_within : (n : ℕ) (costs : List ℤ) (K : ℕ) → ((k : ℕ) → Within K (signed_at costs k)) → (cols : List ℕ) → Within (n * K) (total (square n costs) cols)
total_within n costs K within cols = sum_within n K (λ i. signed_at costs (i * n + at cols i)) (λ i l. within (i * n + at cols i))
