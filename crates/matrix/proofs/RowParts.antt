-- A row of the costs, as the part that `row` hands back. Assumes nothing.
use mathlib.Core.Path.{◌≡◌}
use mathlib.Core.List.{List}
use Prim.Native.Nat.{ℕ, ◌+◌, ◌*◌, ◌≤◌, ◌<◌}
use native.Mathlib.Nat.{mul-le-mul_right}
use native.Mathlib.Omega.{arith}
use lib.IntN.{ℤ, pos}
use lib.ListN.{length}
use Rattle.lists.specs.Parts.{part}
use Rattle.lists.proofs.Parts.{part_length, part_at}
use Rattle.assignment.specs.Pairings.{signed_at}

module _ (n : ℕ) (costs : List ℤ) (i : ℕ) where
  pub row_of_length : i * n + n ≤ length costs → length (part (i * n) n costs) ≡ n
  row_of_length h = part_length (i * n) n costs h

  pub row_length : i < n → length costs ≡ n * n → length (part (i * n) n costs) ≡ n
  row_length l e = row_of_length (omega (arith, mul-le-mul_right n l))

  pub row_at : (j : ℕ) → j < n → signed_at (part (i * n) n costs) j ≡ signed_at costs (i * n + j)
  row_at j l = part_at (i * n) n costs j (pos 0) l
