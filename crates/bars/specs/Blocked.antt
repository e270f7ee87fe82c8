-- Sets of rows whose allowed columns are fewer than the rows: they show that a night has no pairing. And the night in which every place is allowed
-- and the barred places are dear: its least pairing is a least one of the night, or leads to such a set.
use Rattle.std.specs.Prelude.{Bool, true, false, cond, not, ◌&&◌, ◌||◌, List, ℕ, ◌<◌, eqb, ℤ, get_or}
use Rattle.lists.specs.Runs.{upward, first}
use Rattle.lists.specs.Permutations.{at, table}
use Rattle.lists.specs.Counts.{count, some}
use Rattle.assignment.specs.Pairings.{Night}

-- The columns that are allowed to a row of the set.
abbrev pub columns_of : Night → (ℕ → Bool) → ℕ → Bool
columns_of night rows j = some night.row_count (λ i. rows i && night.allowed i j)

-- "a set of rows whose allowed columns are fewer than the rows, by counting ones"
pub record Blocked (night : Night) (rows : ℕ → Bool) : Type 0 where
  pub fewer : count night.column_count (columns_of night rows) < count night.row_count rows

-- The night with every place allowed, and this cost on barred places.
abbrev pub filled : ℤ → Night → Night
filled dear night = record {
  row_count = night.row_count;
  column_count = night.column_count;
  cost = λ i j. cond (night.allowed i j) (night.cost i j) dear;
  allowed = λ i j. true;
}

-- The first row that is paired at a barred place; the number of rows where none is.
abbrev pub barred_row : Night → List ℕ → ℕ
barred_row night cols = first night.row_count (λ i. not (night.allowed i (at cols i)))

-- Whether row i is in a set.
abbrev pub has : List Bool → ℕ → Bool
has set i = get_or set i false

-- With the rows of a set, those that are paired with a column allowed to one of them.
abbrev pub grow : Night → List ℕ → List Bool → List Bool
grow night cols set = table night.row_count (λ k. has set k || columns_of night (has set) (at cols k))

-- The rows reached from row i, over allowed places and back over the pairing. (That as many rounds as rows are enough is a law.)
unfoldable pub reached_from : Night → List ℕ → ℕ → List Bool
reached_from night cols i = upward 0 night.row_count (λ r. grow night cols) (table night.row_count (λ k. eqb k i))
