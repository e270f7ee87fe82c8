-- The stages as they lie in lent memory: what they ask for, and what they leave.
use Rattle.std.specs.Prelude.{◌≡◌, List, ℕ, ◌+◌, ◌*◌, ◌≤◌, ℤ, pos, length, replicate}
use Rattle.ints.specs.Parts.{Within}
use Rattle.lists.specs.Parts.{part}
use Rattle.assignment.specs.Pairings.{signed_at, square}
use Rattle.matrix.specs.Limits.{side, K}
use Rattle.rules.specs.Columns.{column_reduction}
use Rattle.rules.specs.Rows.{Passing, row_reduction, pass_end}
use Rattle.rules.specs.Run.{Result, run}
use Rattle.reduction.specs.Columns.{stage_at}
use Rattle.rules.specs.declared.Counts.{Counts}
use Rattle.lapjv.specs.declared.Sums.{Sums}

-- A night of side 1 or more that can be paired.
pub record Pairable (n : ℕ) (costs : List ℤ) : Type 0 where
  pub some : 1 ≤ n
  pub small : n ≤ side
  pub squared : length costs ≡ n * n
  pub within : (k : ℕ) → Within K (signed_at costs k)

-- Lists of n entries, and a room of 4n.
pub record Sized (n : ℕ) (cols rows : List ℕ) (v : List ℤ) (room : List ℕ) : Type 0 where
  pub cols_size : length cols ≡ n
  pub rows_size : length rows ≡ n
  pub prices_size : length v ≡ n
  pub room_size : length room ≡ n + n + n + n

-- The first pass of a night, and the second.
abbrev pub pass_one : ℕ → List ℤ → Passing
pass_one n costs = row_reduction n (square n costs).cost (column_reduction n (square n costs).cost)

abbrev pub pass_two : ℕ → List ℤ → Passing
pass_two n costs = row_reduction n (square n costs).cost (pass_end (pass_one n costs))

-- Rules 3 and 4 have run: the stage that the second pass leaves, with the counts on the way.
pub record ReducedBy (n : ℕ) (costs : List ℤ) (cols rows : List ℕ) (v : List ℤ) (room : List ℕ) (r : Counts) : Type 0 where
  pub stage : stage_at cols rows v (part 0 n room) r.rows_left ≡ pass_end (pass_two n costs)
  pub free_rows : r.free_rows ≡ (column_reduction n (square n costs).cost).count
  pub looks_one : r.looks_one ≡ (pass_one n costs).pass.looks
  pub left_one : r.left_one ≡ (pass_one n costs).pass.left
  pub looks_two : r.looks_two ≡ (pass_two n costs).pass.looks
  pub room_size : length room ≡ n + n + n + n

-- The answer that lent lists and the total with its counts hold.
abbrev pub answer_in : List ℕ → List ℕ → List ℤ → List ℤ → Sums → Result
answer_in cols rows us v night = record { cols = cols; rows = rows; prices_of_rows = us; prices_of_columns = v; total = night.total; counts = night.counts }

-- The night is paired, and the rooms are cleared.
pub record PairedBy (n : ℕ) (costs : List ℤ) (cols rows : List ℕ) (us v : List ℤ) (room : List ℕ) (d : List ℤ) (night : Sums) : Type 0 where
  pub answer : answer_in cols rows us v night ≡ run n costs
  pub room_cleared : room ≡ replicate (4 * n) 0
  pub distances_cleared : d ≡ replicate n (pos 0)
