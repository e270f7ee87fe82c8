-- What a night is, what a pairing of it is and costs, and when a pairing is least. Nothing here runs a solver.
-- Rows are authorisations, columns are completions. Rows and columns are numbered from 0.
use Rattle.std.specs.Prelude.{◌≡◌, Bool, true, List, ℕ, ◌+◌, ◌*◌, ◌<◌, ℤ, pos, ◌≤ℤ◌, length, get_or}
use Rattle.lists.specs.Permutations.{at}
use Rattle.lists.specs.Sums.{sum}

-- A night: so many rows and so many columns; what each row costs against each column; and which places may be paired. With fewer columns than
-- rows it has no pairing (`pigeonhole`).
pub record Night : Type 0 where
  pub row_count : ℕ
  pub column_count : ℕ
  pub cost : ℕ → ℕ → ℤ
  pub allowed : ℕ → ℕ → Bool

-- A pairing: a column for each row, at an allowed place, and no two rows share a column.
pub record Pairing (night : Night) (cols : List ℕ) : Type 0 where
  pub size : length cols ≡ night.row_count
  pub inside : (i : ℕ) → i < night.row_count → at cols i < night.column_count
  pub apart : (i k : ℕ) → i < night.row_count → k < night.row_count → at cols i ≡ at cols k → i ≡ k
  pub permitted : (i : ℕ) → i < night.row_count → night.allowed i (at cols i) ≡ true

-- What a pairing costs: the sum over the rows of each row's cost at its column.
abbrev pub total : Night → List ℕ → ℤ
total night cols = sum night.row_count (λ i. night.cost i (at cols i))

-- A least pairing: no pairing of the same night costs less.
pub record Least (night : Night) (cols : List ℕ) : Type 0 where
  pub pairing : Pairing night cols
  pub least : (other : List ℕ) → Pairing night other → total night cols ≤ℤ total night other

-- A column is used where a row is paired with it; else it is spare.
abbrev pub Spare : Night → List ℕ → ℕ → Type 0
Spare night cols j = (i : ℕ) → i < night.row_count → at cols i ≡ j → ⊥

-- Columns and rows name each other: the column of each row is a column, and the row listed for that column is this row.
pub record Named (night : Night) (cols rows : List ℕ) : Type 0 where
  pub inside : (i : ℕ) → i < night.row_count → at cols i < night.column_count
  pub back : (i : ℕ) → i < night.row_count → at rows (at cols i) ≡ i

-- What stands at i in a list of signed numbers, as costs, prices and distances are: 0 past its end.
abbrev pub signed_at : List ℤ → ℕ → ℤ
signed_at l i = get_or l i (pos 0)

-- The square night of side n: its n * n costs in row order, every place allowed.
abbrev pub square : ℕ → List ℤ → Night
square n costs = record {
  row_count = n;
  column_count = n;
  cost = λ i j. signed_at costs (i * n + j);
  allowed = λ i j. true;
}
