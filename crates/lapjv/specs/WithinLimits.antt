-- What an input that the solver pairs is like: a side within its limit, n*n costs "in -K..K", outputs of "at least n entries", work room of
-- "at least 4n 32-bit indices" and "at least n 64-bit numbers".
use Rattle.std.specs.Prelude.{◌≡◌, List, ℕ, ◌*◌, ◌≤◌, ◌<◌, ℤ, length}
use Rattle.ints.specs.Parts.{Within}
use Rattle.assignment.specs.Pairings.{signed_at}
use Rattle.matrix.specs.Limits.{side, K}
use Rattle.lapjv.specs.Solve.{Lent}

pub record WithinLimits (n : ℕ) (costs : List ℤ) (lent : Lent) : Type 0 where
  pub small : n ≤ side
  pub squared : length costs ≡ n * n
  pub cols_enough : n ≤ length lent.cols
  pub rows_enough : n ≤ length lent.rows
  pub row_prices_enough : n ≤ length lent.prices_of_rows
  pub column_prices_enough : n ≤ length lent.prices_of_columns
  pub indices_enough : 4 * n ≤ length lent.indices
  pub numbers_enough : n ≤ length lent.numbers
  pub costs_within : (k : ℕ) → k < length costs → Within K (signed_at costs k)
