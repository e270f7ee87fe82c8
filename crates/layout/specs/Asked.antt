-- What functions that the entries call ask for.
use Rattle.std.specs.Prelude.{◌≡◌, List, ℕ, ◌≤◌, ℤ, length}
use Rattle.layout.specs.Slips.{body_length, slip_length}

-- What a slip's body is written from: as many row prices as columns by row, and a room that is long enough.
pub record Listed (cols : List ℕ) (prices_of_rows prices_of_columns : List ℤ) (room : List ℕ) : Type 0 where
  pub rows : length prices_of_rows ≡ length cols
  pub roomy : body_length (length cols) (length prices_of_columns) ≤ length room

-- What a slip of an edition is written from.
pub record Slipped (edition : ℕ) (cols : List ℕ) (prices_of_rows prices_of_columns : List ℤ) (room : List ℕ) : Type 0 where
  pub rows : length prices_of_rows ≡ length cols
  pub roomy : slip_length edition (length cols) (length prices_of_columns) ≤ length room
