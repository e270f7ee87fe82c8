-- Rule 6, augmentation.
-- "Free rows in list order; pairs flip back along predecessors. The source's answer for more than n flips must be shown never to arise."
use Rattle.std.specs.Prelude.{cond, List, ℕ, ◌+◌, ℤ, eqb}
use Rattle.lists.specs.Runs.{upward, Turn, on, left, until}
use Rattle.lists.specs.Permutations.{at}
use Rattle.assignment.specs.Pairings.{signed_at}
use Rattle.rules.specs.Columns.{Pairs, Stage}
use Rattle.rules.specs.Rows.{take_column}
use Rattle.rules.specs.Search.{Found, search, new_prices}

-- The pairs while they flip, and the column that stands open.
pub record Open : Type 0 where
  pub column : ℕ
  pub pairs : Pairs

-- The row that leads to the open column takes it. Where that row is the start, the pairs are whole; else its old column stands open.
abbrev pub flip : ℕ → List ℕ → Open → Turn Open Pairs
flip s predecessors o =
    let i = at predecessors o.column in
    let pairs = take_column o.pairs i o.column in
    cond (eqb i s) (left pairs) (on (record { column = at o.pairs.cols i; pairs = pairs }))

-- At most m flips, back to row s.
unfoldable pub flips : ℕ → ℕ → List ℕ → Open → Turn Open Pairs
flips m s predecessors o = until 0 m (λ k. flip s predecessors) o

-- The pairs after the flips. (That they are whole within n flips is a law.)
abbrev pub flipped : Turn Open Pairs → Pairs
flipped (left pairs) = pairs
flipped (on o) = o.pairs

-- Pairs, column prices and the columns scanned.
pub record Progress : Type 0 where
  pub pairs : Pairs
  pub prices : List ℤ
  pub scanned : ℕ

-- What a search found changes the prices, and the pairs flip back from its column to row s.
abbrev pub augment_by : ℕ → Progress → ℕ → Found → Progress
augment_by n x s f = record {
  pairs = flipped (flips n s f.work.predecessors (record { column = f.column; pairs = x.pairs }));
  prices = new_prices f x.prices;
  scanned = x.scanned + f.work.scanned;
}

-- Row s gets a column.
abbrev pub augment : ℕ → (ℕ → ℕ → ℤ) → Progress → ℕ → Progress
augment n cost x s = augment_by n x s (search n cost (signed_at x.prices) (at x.pairs.rows) s)

-- The first m rows of the list, in list order.
unfoldable pub augments : ℕ → (ℕ → ℕ → ℤ) → List ℕ → ℕ → Progress → Progress
augments n cost frees m x = upward 0 m (λ k y. augment n cost y (at frees k)) x

-- Rule 6.
unfoldable pub augmentation : ℕ → (ℕ → ℕ → ℤ) → Stage → Progress
augmentation n cost s = augments n cost s.frees s.count (record { pairs = s.pairs; prices = s.prices; scanned = 0 })
