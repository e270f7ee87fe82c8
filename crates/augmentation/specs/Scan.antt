-- The work of a search as it lies in lent lists, and what one row that sees the columns leaves there.
use Rattle.std.specs.Prelude.{◌≡◌, List, ℕ, ◌+◌, ◌≤◌, ◌<◌, ℤ, length}
use Rattle.std.specs.declared.ops.ControlFlow.{ControlFlow}
use Rattle.std.specs.declared.ops.ControlFlow.TheVariants.{Continue, Break}
use Rattle.ints.specs.Parts.{Within}
use Rattle.lists.specs.Runs.{Turn, on, left, until}
use Rattle.lists.specs.Permutations.{at, Permutation}
use Rattle.assignment.specs.Pairings.{signed_at, square}
use Rattle.matrix.specs.Limits.{side, near}
use Rattle.rules.specs.Search.{Work, work_of, Hit, scan_column, scan_row}

-- What one row leaves: the code's answer, and the work but for the block's end where a column was hit.
pub record Seen : Type 0 where
  pub answer : ControlFlow ℕ ℕ
  pub list : List ℕ
  pub distances : List ℤ
  pub predecessors : List ℕ
  pub scanned : ℕ

-- What the code leaves.
abbrev pub seen_in : ControlFlow ℕ ℕ → List ℕ → List ℤ → List ℕ → ℕ → Seen
seen_in answer list distances predecessors scanned = record {
  answer = answer;
  list = list;
  distances = distances;
  predecessors = predecessors;
  scanned = scanned;
}

-- What the definition leaves.
abbrev pub seen : Turn Work Hit → Seen
seen (on w) = seen_in (Continue w.hi) w.list w.distances w.predecessors w.scanned
seen (left hit) = seen_in (Break hit.column) hit.work.list hit.work.distances hit.work.predecessors hit.work.scanned

-- What lies in lent memory while a search runs: sizes, a list that is a permutation, and prices that are near.
pub record Lent (n : ℕ) (v : List ℤ) (rows : List ℕ) (d : List ℤ) (list predecessors : List ℕ) : Type 0 where
  pub small : n ≤ side
  pub prices_size : length v ≡ n
  pub rows_size : length rows ≡ n
  pub distances_size : length d ≡ n
  pub predecessors_size : length predecessors ≡ n
  pub listed : Permutation n list
  pub prices_near : (j : ℕ) → Within near (signed_at v j)

-- Row i, whose costs are given, sees the columns from place hi on; `scanned` columns were scanned. The costs of other rows do not
-- count.
pub record ColumnsLowered (n i : ℕ) (row v : List ℤ) (rows : List ℕ) (h minimum : ℤ) (hi : ℕ) (d₀ : List ℤ) (list₀ predecessors₀ : List ℕ)
    (r : ControlFlow ℕ ℕ) (d : List ℤ) (list predecessors : List ℕ) : Type 0 where
  pub same : (cost : ℕ → ℕ → ℤ) → ((j : ℕ) → j < n → cost i j ≡ signed_at row j) → (scanned : ℕ)
      → seen_in r list d predecessors scanned
      ≡ seen (until hi n (scan_column n cost (signed_at v) (at rows) minimum h i) (work_of hi list₀ d₀ predecessors₀ scanned))

-- The row of the column at place lo sees the columns from place hi on.
pub record Scanned (n : ℕ) (costs v : List ℤ) (rows : List ℕ) (lo hi : ℕ) (d₀ : List ℤ) (list₀ predecessors₀ : List ℕ) (r : ControlFlow ℕ ℕ)
    (d : List ℤ) (list predecessors : List ℕ) : Type 0 where
  pub same : (scanned : ℕ) → seen_in r list d predecessors (scanned + 1)
      ≡ seen (scan_row n (square n costs).cost (signed_at v) (at rows) lo (work_of hi list₀ d₀ predecessors₀ scanned))
