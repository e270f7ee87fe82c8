-- Amounts that are added to all costs of a column, or of a row ("a surcharge"): what stays of the night, and what rises.
use Rattle.std.specs.Prelude.{◌≡◌, true, cond, List, ℕ, ◌<◌, eqb, ℤ, pos, ◌+ℤ◌, length}
use Rattle.lists.specs.Permutations.{table}
use Rattle.assignment.specs.Pairings.{Night, signed_at}

-- The night with other costs: the same rows, columns and allowed places.
abbrev pub with_costs : Night → (ℕ → ℕ → ℤ) → Night
with_costs night cost = record { row_count = night.row_count; column_count = night.column_count; cost = cost; allowed = night.allowed }

-- Costs with an amount on each column: at every allowed place the night's cost and the amount of its column.
pub record ColumnAmounts (night : Night) (amount : ℕ → ℤ) (cost : ℕ → ℕ → ℤ) : Type 0 where
  pub added : (i j : ℕ) → i < night.row_count → j < night.column_count → night.allowed i j ≡ true → cost i j ≡ night.cost i j +ℤ amount j

-- Costs with an amount on each row: at every allowed place the night's cost and the amount of its row.
pub record RowAmounts (night : Night) (amount : ℕ → ℤ) (cost : ℕ → ℕ → ℤ) : Type 0 where
  pub added : (i j : ℕ) → i < night.row_count → j < night.column_count → night.allowed i j ≡ true → cost i j ≡ night.cost i j +ℤ amount i

-- One amount: a on column (or row) c, and 0 on every other.
abbrev pub only : ℕ → ℤ → ℕ → ℤ
only c a k = cond (eqb k c) a (pos 0)

-- Prices, each higher by its column's amount.
unfoldable pub risen : (ℕ → ℤ) → List ℤ → List ℤ
risen amount prices = table (length prices) (λ j. signed_at prices j +ℤ amount j)
