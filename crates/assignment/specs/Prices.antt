-- Prices of rows and columns, and what makes them show that a pairing is least.
use Rattle.std.specs.Prelude.{◌≡◌, true, List, ℕ, ◌<◌, ℤ, ◌+ℤ◌, ◌≤ℤ◌}
use Rattle.lists.specs.Permutations.{at}
use Rattle.assignment.specs.Pairings.{Night, Spare, signed_at}

-- The prices of a place: its row's and its column's, added.
abbrev pub priced : List ℤ → List ℤ → ℕ → ℕ → ℤ
priced us vs i j = signed_at us i +ℤ signed_at vs j

-- Feasible: at every allowed place the prices are at most the cost.
pub record Feasible (night : Night) (us vs : List ℤ) : Type 0 where
  pub under : (i j : ℕ) → i < night.row_count → j < night.column_count → night.allowed i j ≡ true → priced us vs i j ≤ℤ night.cost i j

-- Tight on a pairing: at every paired place the prices are the cost.
pub record Tight (night : Night) (us vs : List ℤ) (cols : List ℕ) : Type 0 where
  pub met : (i : ℕ) → i < night.row_count → priced us vs i (at cols i) ≡ night.cost i (at cols i)

-- No spare column's price is below a used one's. (A square night has no spare column.)
pub record SparesNotBelow (night : Night) (vs : List ℤ) (cols : List ℕ) : Type 0 where
  pub not_below : (i j : ℕ) → i < night.row_count → j < night.column_count → Spare night cols j → signed_at vs (at cols i) ≤ℤ signed_at vs j
