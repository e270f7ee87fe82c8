-- `least_of` answers the least reduced cost of a row: before column j it has that of the columns before. Assumes nothing.
use mathlib.Core.Path.{◌≡◌}
use mathlib.Core.List.{List}
use Prim.Native.Nat.{ℕ, ◌-◌, ◌≤◌}
use lib.IntN.{ℤ}
use lib.ListN.{length}
use Rattle.rules.specs.Lowest.{lowest}
use Rattle.augmentation.specs.DirectHit.{reduced_in}
use Rattle.augmentation.proofs.direct.least_of.Given as goal

-- x is the least of the columns before j
pub record Least (row v : List ℤ) (x : ℤ) (j : ℕ) : Type 0 where
  pub some : 1 ≤ j
  pub most : j ≤ length row
  pub is : x ≡ (lowest j (reduced_in row v)).value

abbrev pub invariant-loop-j : goal.invariant-loop-j
invariant-loop-j l = Least l.row l.v l.least l.j

abbrev pub decreases-loop-j : goal.decreases-loop-j
decreases-loop-j l = length l.row - l.j

abbrev pub invariant-loop-k : goal.invariant-loop-k
invariant-loop-k l = Least l.row l.v l.least l.k
