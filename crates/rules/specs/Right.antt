-- What the answer of a run owes: a least pairing, prices that show it, and prices and counts within their bounds.
use Rattle.std.specs.Prelude.{◌≡◌, List, ℕ, ◌+◌, ◌-◌, ◌*◌, ◌≤◌, ◌<◌, ℤ, length}
use Rattle.ints.specs.Parts.{up, down, Within}
use Rattle.lists.specs.Runs.{left}
use Rattle.lists.specs.Permutations.{at}
use Rattle.assignment.specs.Pairings.{Pairing, Least, Named, square, signed_at, total}
use Rattle.assignment.specs.Prices.{Feasible, Tight}
use Rattle.rules.specs.declared.Counts.{Counts}
use Rattle.rules.specs.Search.{search_blocks, search_start, search}
use Rattle.rules.specs.Augmentation.{Progress, flips, augment}
use Rattle.rules.specs.Run.{Result}

-- z is in -a..b, both ends included.
pub record Between (a b : ℕ) (z : ℤ) : Type 0 where
  pub low : down z ≤ up z + a
  pub high : up z ≤ down z + b

-- "A pass over F rows makes F to F*n looks; each search scans at most n-1 columns." "Pass two's looks are shown to lie between [the rows left after
-- pass one] and that number times the side."
pub record CountsRight (n : ℕ) (c : Counts) : Type 0 where
  pub free_few : c.free_rows ≤ n
  pub one_least : c.free_rows ≤ c.looks_one
  pub one_most : c.looks_one ≤ c.free_rows * n
  pub left_one_few : c.left_one ≤ c.free_rows
  pub two_least : c.left_one ≤ c.looks_two
  pub two_most : c.looks_two ≤ c.left_one * n
  pub left_few : c.rows_left ≤ c.left_one
  pub scanned_few : c.columns_scanned ≤ c.rows_left * (n - 1)

-- How a search from row s ends: within n blocks, fewer than n columns scanned, and the pairs flip back within n flips. "The source's answer for
-- more than n flips must be shown never to arise."
pub record SearchEnds (n : ℕ) (cost : ℕ → ℕ → ℤ) (x : Progress) (s : ℕ) : Type 0 where
  pub found_within : let v = signed_at x.prices in let row = at x.pairs.rows in
      search_blocks n cost v row n (search_start n cost v row s) ≡ left (search n cost v row s)
  pub scanned_few : (search n cost (signed_at x.prices) (at x.pairs.rows) s).work.scanned < n
  pub flipped_within : let f = search n cost (signed_at x.prices) (at x.pairs.rows) s in
      flips n s f.work.predecessors (record { column = f.column; pairs = x.pairs }) ≡ left (augment n cost x s).pairs

-- All that the answer of a run owes.
pub record Right (n : ℕ) (costs : List ℤ) (K : ℕ) (a : Result) : Type 0 where
  pub cols_size : length a.cols ≡ n
  pub rows_size : length a.rows ≡ n
  pub row_prices_size : length a.prices_of_rows ≡ n
  pub column_prices_size : length a.prices_of_columns ≡ n
  pub named : Named (square n costs) a.cols a.rows
  pub named_back : Named (square n costs) a.rows a.cols
  pub pairing : Pairing (square n costs) a.cols
  pub feasible : Feasible (square n costs) a.prices_of_rows a.prices_of_columns
  pub tight : Tight (square n costs) a.prices_of_rows a.prices_of_columns a.cols
  pub least : Least (square n costs) a.cols
  pub column_prices_between : (k : ℕ) → k < n → Between (5 * K) K (signed_at a.prices_of_columns k)
  pub row_prices_between : (i : ℕ) → i < n → Between 0 (4 * K) (signed_at a.prices_of_rows i)
  pub total_is : a.total ≡ total (square n costs) a.cols
  pub total_near : Within (n * K) a.total
  pub counts_right : CountsRight n a.counts
