-- What the search and the augmentation ask for: pairs that agree, and prices at which paired rows sit at their minimum. No entry asks for anything.
use Rattle.std.specs.Prelude.{◌≡◌, ◌≢◌, ℕ, ◌<◌, ℤ, ◌≤ℤ◌, length}
use Rattle.lists.specs.Permutations.{at}
use Rattle.assignment.specs.Pairings.{signed_at}
use Rattle.rules.specs.Lowest.{reduced}
use Rattle.rules.specs.Columns.{Pairs}
use Rattle.rules.specs.Augmentation.{Progress}

-- Row i is paired: the column that it names names it back.
abbrev pub Paired : Pairs → ℕ → Type 0
Paired p i = at p.rows (at p.cols i) ≡ i

-- Row i has no column.
abbrev pub Unpaired : ℕ → Pairs → ℕ → Type 0
Unpaired n p i = (k : ℕ) → k < n → at p.rows k ≢ i

-- Lists of n entries, in which each row that a column names names it back.
pub record Agree (n : ℕ) (p : Pairs) : Type 0 where
  pub cols_size : length p.cols ≡ n
  pub rows_size : length p.rows ≡ n
  pub cols_below : (i : ℕ) → i < n → at p.cols i < n
  pub named_back : (k : ℕ) → k < n → at p.rows k < n → at p.cols (at p.rows k) ≡ k

module _ (n : ℕ) (cost : ℕ → ℕ → ℤ) where
  -- Row i sits at its minimum on column j: no column has a lower reduced cost.
  pub record AtMinimum (v : ℕ → ℤ) (i j : ℕ) : Type 0 where
    pub no_less : (k : ℕ) → k < n → reduced cost v i j ≤ℤ reduced cost v i k

  -- Paired rows sit at their minimum. `row j` is the row of column j, n or more where j is free.
  pub record Fair (v : ℕ → ℤ) (row : ℕ → ℕ) : Type 0 where
    pub paired_at_minimum : (j : ℕ) → j < n → row j < n → AtMinimum v (row j) j

-- A state from which row s can get a column.
pub record Can (n : ℕ) (cost : ℕ → ℕ → ℤ) (x : Progress) (s : ℕ) : Type 0 where
  pub agree : Agree n x.pairs
  pub prices_size : length x.prices ≡ n
  pub fair : Fair n cost (signed_at x.prices) (at x.pairs.rows)
  pub start_below : s < n
  pub start_unpaired : Unpaired n x.pairs s
