-- The whole run: from a night's costs to its pairing, prices, total and counts.
use Rattle.std.specs.Prelude.{List, ℕ, ℤ}
use Rattle.lists.specs.Permutations.{at, table}
use Rattle.assignment.specs.Pairings.{square, signed_at, total}
use Rattle.rules.specs.declared.Counts.{Counts}
use Rattle.rules.specs.Lowest.{reduced}
use Rattle.rules.specs.Columns.{Stage, column_reduction}
use Rattle.rules.specs.Rows.{Passing, row_reduction, pass_end}
use Rattle.rules.specs.Augmentation.{Progress, augmentation}

-- The run, stage by stage. "At most two passes, the second only if rows remain": a pass over no rows changes nothing.
pub record Stages : Type 0 where
  pub columns : Stage
  pub pass_one : Passing
  pub pass_two : Passing
  pub last : Progress

-- The stages of a night of side n.
unfoldable pub stages : ℕ → (ℕ → ℕ → ℤ) → Stages
stages n cost =
    let columns = column_reduction n cost in
    let one = row_reduction n cost columns in
    let two = row_reduction n cost (pass_end one) in
    record { columns = columns; pass_one = one; pass_two = two; last = augmentation n cost (pass_end two) }

-- "Free rows after column reduction (A); looks in pass one; looks in pass two; rows left (L); columns scanned." And, between the two look counts,
-- "the rows left after pass one".
abbrev pub counts_of : Stages → Counts
counts_of r = record {
  free_rows = r.columns.count;
  looks_one = r.pass_one.pass.looks;
  left_one = r.pass_one.pass.left;
  looks_two = r.pass_two.pass.looks;
  rows_left = r.pass_two.pass.left;
  columns_scanned = r.last.scanned;
}

-- "Row price is cost minus v at the paired column."
abbrev pub prices_of_rows : ℕ → (ℕ → ℕ → ℤ) → List ℕ → List ℤ → List ℤ
prices_of_rows n cost cols v = table n (λ i. reduced cost (signed_at v) i (at cols i))

-- What a night comes to: the column of each row, the row of each column, the prices, the total and the counts.
pub record Result : Type 0 where
  pub cols : List ℕ
  pub rows : List ℕ
  pub prices_of_rows : List ℤ
  pub prices_of_columns : List ℤ
  pub total : ℤ
  pub counts : Counts

-- The answer from the stages. "For side 1, [..] v is the cost and the row price 0": there, rule 3 leaves the price where it is.
abbrev pub answer_of : ℕ → List ℤ → Stages → Result
answer_of n costs r =
    let cols = r.last.pairs.cols in
    record {
      cols = cols;
      rows = r.last.pairs.rows;
      prices_of_rows = prices_of_rows n (square n costs).cost cols r.last.prices;
      prices_of_columns = r.last.prices;
      total = total (square n costs) cols;
      counts = counts_of r;
    }

-- The run on a list of n*n costs in row order.
unfoldable pub run : ℕ → List ℤ → Result
run n costs = answer_of n costs (stages n (square n costs).cost)
