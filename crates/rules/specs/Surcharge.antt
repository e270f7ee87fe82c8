-- What amounts on the columns make of an answer of the rules.
use Rattle.std.specs.Prelude.{ℕ, ℤ, ◌+ℤ◌}
use Rattle.lists.specs.Sums.{sum}
use Rattle.assignment.specs.Amounts.{risen}
use Rattle.rules.specs.Run.{Result}

-- "The pairing and all counts stay the same, that column's price rises by the amount, and the other prices stay": of any amounts, each column's
-- price rises by its own. The total rises by their sum.
abbrev pub surcharged : ℕ → (ℕ → ℤ) → Result → Result
surcharged n amount a = record {
  cols = a.cols;
  rows = a.rows;
  prices_of_rows = a.prices_of_rows;
  prices_of_columns = risen amount a.prices_of_columns;
  total = a.total +ℤ sum n amount;
  counts = a.counts;
}
