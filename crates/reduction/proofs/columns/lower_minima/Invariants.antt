-- `lower_minima` puts row i beside the minima, column by column: beside the first j it stands already. Assumes nothing.
use Rattle.std.proofs.Common.{◌≡◌, ℕ, ◌<◌, ◌≤◌, ℤ, List}
use Rattle.lists.specs.Permutations.{at}
use Rattle.assignment.specs.Pairings.{signed_at}
use Rattle.reduction.specs.Columns.{low_at}
use Rattle.reduction.proofs.columns.lower_minima.Given as goal

pub record Lowered (i : ℕ) (row v₀ : List ℤ) (rows₀ : List ℕ) (v : List ℤ) (rows : List ℕ) (j : ℕ) : Type 0 where
  pub places : (k : ℕ) → k < j → at rows k ≡ (low_at i row v₀ rows₀ k).place
  pub values : (k : ℕ) → k < j → signed_at v k ≡ (low_at i row v₀ rows₀ k).value
  pub places_left : (k : ℕ) → j ≤ k → at rows k ≡ at rows₀ k
  pub values_left : (k : ℕ) → j ≤ k → signed_at v k ≡ signed_at v₀ k

abbrev pub invariant-loop-j : goal.invariant-loop-j
invariant-loop-j l = Lowered l.i l.row l.initial.v l.initial.rows l.v l.rows l.j
