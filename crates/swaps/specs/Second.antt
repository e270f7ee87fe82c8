-- A second least pairing, given a least one and prices that show it; or that there is only one.
-- The rows are the nodes of a walk, and all spare columns together are one more. A row goes over a column at which it could as well be paired,
-- to the row that uses this column. Where such a walk is closed, each of its rows moves to the column over which it went.
use Rattle.std.specs.Prelude.{◌≡◌, Bool, cond, not, ◌&&◌, ◌||◌, ◌≢◌, List, ℕ, suc, ltb, eqb, ℤ}
use Rattle.std.specs.Int.Signed.{le_z, lt_z}
use Rattle.lists.specs.Runs.{Turn, on, left, upward, first}
use Rattle.lists.specs.Permutations.{at, table}
use Rattle.assignment.specs.Pairings.{Night, Pairing, total, signed_at}
use Rattle.assignment.specs.Prices.{priced}
use Rattle.swaps.specs.Walks.{Walk, Closed, on_closed, choice, walk}

-- "either "only one" or a second pairing with the same total"
pub data Answer : Type 0 where
  only : Answer
  also : List ℕ → Answer

-- Another pairing with the same total.
pub record Another (night : Night) (cols other : List ℕ) : Type 0 where
  pub pairing : Pairing night other
  pub same : total night other ≡ total night cols
  pub differs : other ≢ cols

-- What an answer promises.
abbrev pub Right : Night → List ℕ → Answer → Type 0
Right night cols only = (other : List ℕ) → Pairing night other → total night other ≡ total night cols → other ≡ cols
Right night cols (also other) = Another night cols other

-- The rows, and one node more where there are spare columns.
abbrev pub nodes : Night → ℕ
nodes night = cond (ltb night.row_count night.column_count) (suc night.row_count) night.row_count

-- The node behind a column: the row that uses it; the number of rows where it is spare.
abbrev pub behind : Night → List ℕ → ℕ → ℕ
behind night cols j = first night.row_count (λ i. eqb (at cols i) j)

-- The highest price of a used column: the first row's, and then that of each row where it is higher.
abbrev pub higher : List ℤ → List ℕ → ℕ → ℤ → ℤ
higher vs cols i t = cond (lt_z t (signed_at vs (at cols i))) (signed_at vs (at cols i)) t

unfoldable pub dearest : Night → List ℤ → List ℕ → ℤ
dearest night vs cols = upward 0 night.row_count (higher vs cols) (signed_at vs (at cols 0))

module _ (night : Night) (us vs : List ℤ) (cols : List ℕ) where
  -- Row i could be paired with column j: the place is allowed and its prices are not below its cost; and where j is spare, its price is not above
  -- the highest of a used one.
  abbrev pub fits : ℕ → ℕ → Bool
  fits i j =
      night.allowed i j && le_z (night.cost i j) (priced us vs i j)
      && (ltb (behind night cols j) night.row_count || le_z (signed_at vs j) (dearest night vs cols))

  -- From row i over column j to the node behind it, unless that is row i itself.
  abbrev pub row_way : ℕ → ℕ → ℕ
  row_way i j = cond (not (eqb (behind night cols j) i) && fits i j) (behind night cols j) (nodes night)

  -- From the spare columns to a row whose column's price is not below the highest of a used one.
  abbrev pub spare_way : ℕ → ℕ
  spare_way i = cond (ltb i night.row_count && le_z (dearest night vs cols) (signed_at vs (at cols i))) i (nodes night)

  abbrev pub way : ℕ → ℕ → ℕ
  way x j = cond (ltb x night.row_count) (row_way x j) (spare_way j)

  -- Each row of a closed walk moves to the column that it chose.
  abbrev pub moved : Closed → List ℕ
  moved z = table night.row_count (λ i. cond (on_closed z i) (choice (nodes night) night.column_count way z.walk i) (at cols i))

  abbrev pub answer : Turn Walk Closed → Answer
  answer (on w) = only
  answer (left z) = also (moved z)

  -- A second pairing with the total of this one, or that no other has it.
  unfoldable pub second : Answer
  second = answer (walk (nodes night) night.column_count way)
