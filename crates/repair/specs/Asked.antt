-- What functions that the entry calls ask for, and what they leave. The entry asks for nothing.
use Rattle.std.specs.Prelude.{◌≡◌, List, ℕ, ◌+◌, ◌*◌, ◌≤◌, ◌<◌, ℤ, pos, length, replicate}
use Rattle.ints.specs.Parts.{Within}
use Rattle.assignment.specs.Pairings.{Named, signed_at, square}
use Rattle.matrix.specs.Limits.{side, K}
use Rattle.rules.specs.Columns.{Pairs}
use Rattle.checker.specs.Proven.{FeasibleBut, TightBut}
use Rattle.repair.specs.Repair.{Repaired, repaired_by, mended}

-- Lists of n entries: a pairing whose prices are fair but for one row.
pub record FairBut (n : ℕ) (costs : List ℤ) (row : ℕ) (p : Pairs) (us vs : List ℤ) : Type 0 where
  pub row_below : row < n
  pub cols_size : length p.cols ≡ n
  pub rows_size : length p.rows ≡ n
  pub prices_size : length vs ≡ n
  pub named : Named (square n costs) p.cols p.rows
  pub feasible : FeasibleBut row (square n costs) us vs
  pub tight : TightBut row (square n costs) us vs p.cols

-- What can be mended: a square of costs within the limits, column prices within 7K, rooms as large as the solver's, and such a pairing.
pub record CanMend (n : ℕ) (costs : List ℤ) (row : ℕ) (p : Pairs) (v : List ℤ) (room : List ℕ) (d : List ℤ) : Type 0 where
  pub small : n ≤ side
  pub squared : length costs ≡ n * n
  pub costs_within : (k : ℕ) → Within K (signed_at costs k)
  pub prices_near : (j : ℕ) → j < n → Within (7 * K) (signed_at v j)
  pub room_size : length room ≡ n + n + n + n
  pub distances_size : length d ≡ n
  pub us : List ℤ
  pub fair : FairBut n costs row p us v

abbrev pub repaired_in : List ℕ → List ℕ → List ℤ → List ℤ → ℤ → Repaired
repaired_in cols rows us vs total = record { cols = cols; rows = rows; prices_of_rows = us; prices_of_columns = vs; total = total }

-- The pairing is repaired, and the rooms are cleared.
pub record RepairedBy (n : ℕ) (costs : List ℤ) (row : ℕ) (p : Pairs) (v₀ : List ℤ) (cols rows : List ℕ) (us v : List ℤ) (room : List ℕ) (d : List ℤ) (total : ℤ) : Type 0 where
  pub repaired : repaired_in cols rows us v total ≡ repaired_by n costs (mended n (square n costs).cost p v₀ row)
  pub room_cleared : room ≡ replicate (4 * n) 0
  pub distances_cleared : d ≡ replicate n (pos 0)
