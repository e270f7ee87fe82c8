-- What an input that is repaired is like: "an accepted pairing with its prices and new costs for one row".
use Rattle.std.specs.Prelude.{◌≡◌, ◌≢◌, List, ℕ, ◌*◌, ◌<◌, ℤ}
use Rattle.ints.specs.Parts.{Within}
use Rattle.assignment.specs.Pairings.{Named, signed_at, square}
use Rattle.matrix.specs.Limits.{K}
use Rattle.checker.specs.Proven.{FeasibleBut, TightBut}
use Rattle.lapjv.specs.Solve.{Lent}
use Rattle.lapjv.specs.WithinLimits.{WithinLimits}

-- Within the solver's limits, a row, lists that name each other, and prices within 7K that are feasible and tight but for the row.
pub record Repairable (n : ℕ) (costs : List ℤ) (row : ℕ) (lent : Lent) : Type 0 where
  pub limits : WithinLimits n costs lent
  pub row_below : row < n
  pub named : Named (square n costs) lent.cols lent.rows
  pub row_prices_near : (i : ℕ) → i < n → Within (7 * K) (signed_at lent.prices_of_rows i)
  pub column_prices_near : (j : ℕ) → j < n → Within (7 * K) (signed_at lent.prices_of_columns j)
  pub feasible : FeasibleBut row (square n costs) lent.prices_of_rows lent.prices_of_columns
  pub tight : TightBut row (square n costs) lent.prices_of_rows lent.prices_of_columns lent.cols

-- Costs that differ from the old ones in one row only.
pub record OneRowChanged (n : ℕ) (old costs : List ℤ) (row : ℕ) : Type 0 where
  pub others_same : (i j : ℕ) → i < n → i ≢ row → j < n → (square n costs).cost i j ≡ (square n old).cost i j
