-- What functions that the checker's entries call ask for. No entry asks for anything.
use Rattle.std.specs.Prelude.{◌≡◌, List, ℕ, ◌*◌, ◌≤◌, ℤ, length}
use Rattle.lists.specs.Permutations.{at}
use Rattle.matrix.specs.Limits.{side}
use Rattle.checker.specs.Proven.{Prices}

-- The costs of m rows and n columns within the limit, with the prices of the rows and of the columns.
pub record Priced (m n : ℕ) (costs us vs : List ℤ) : Type 0 where
  pub rows_small : m ≤ side
  pub small : n ≤ side
  pub filled : length costs ≡ m * n
  pub row_prices : Prices m us
  pub column_prices : Prices n vs

-- Where a row has bars, a number has a bit for each column.
abbrev pub BitsFit : ℕ → List ℕ → Type 0
BitsFit n bars = (i : ℕ) → ¬ (at bars i ≡ 0) → n ≤ 64
