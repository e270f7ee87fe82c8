-- What the flips and the augmentation ask for, and what the augmentation leaves in lent memory.
use Rattle.std.specs.Prelude.{◌≡◌, List, ℕ, ◌+◌, ◌*◌, ◌≤◌, ◌<◌, ℤ, length}
use Rattle.ints.specs.Parts.{Within}
use Rattle.lists.specs.Runs.{left}
use Rattle.lists.specs.Permutations.{at}
use Rattle.assignment.specs.Pairings.{signed_at, square}
use Rattle.matrix.specs.Limits.{side, near}
use Rattle.rules.specs.Columns.{Pairs, Stage}
use Rattle.rules.specs.Augmentation.{Open, flips, Progress, augment, augments, augmentation}
use Rattle.rules.specs.Asked.{Can}
use Rattle.augmentation.specs.Room.{frees_in, marks_in}

abbrev pub pairs_of : List ℕ → List ℕ → Pairs
pairs_of cols rows = record { cols = cols; rows = rows }

-- Pairs in which column j stands open.
abbrev pub open_at : ℕ → List ℕ → List ℕ → Open
open_at j cols rows = record { column = j; pairs = pairs_of cols rows }

-- The pairs can flip back from column j to row s: the predecessors are rows, the rows have columns, and the flips come to their end.
pub record CanFlip (n s j : ℕ) (predecessors cols rows : List ℕ) : Type 0 where
  pub small : n ≤ side
  pub column_below : j < n
  pub predecessors_size : length predecessors ≡ n
  pub cols_size : length cols ≡ n
  pub rows_size : length rows ≡ n
  pub predecessors_below : (k : ℕ) → k < n → at predecessors k < n
  pub cols_below : (i : ℕ) → i < n → at cols i < n
  pub whole : Pairs
  pub ends : flips n s predecessors (open_at j cols rows) ≡ left whole

-- A stage whose lists lie in lent memory.
abbrev pub stage_in : ℕ → List ℕ → List ℕ → List ℤ → List ℕ → ℕ → Stage
stage_in n cols rows v room count = record { pairs = pairs_of cols rows; prices = v; frees = frees_in n room; count = count }

-- What the augmentation comes to.
abbrev pub state_of : List ℕ → List ℕ → List ℤ → ℕ → Progress
state_of cols rows v scanned = record { pairs = pairs_of cols rows; prices = v; scanned = scanned }

-- Row s can get a column from state x (`Can`: the pairs agree, prices are fair, and the row has no column), and prices are near.
pub record CanTurn (n : ℕ) (costs : List ℤ) (x : Progress) (s : ℕ) : Type 0 where
  pub can : Can n (square n costs).cost x s
  pub prices_near : (k : ℕ) → Within near (signed_at x.prices k)

-- The same of row s, with all that is lent for it.
pub record CanAugmentRow (n : ℕ) (costs : List ℤ) (s : ℕ) (cols rows : List ℕ) (v d : List ℤ) (list predecessors : List ℕ) : Type 0 where
  pub small : n ≤ side
  pub costs_size : length costs ≡ n * n
  pub costs_near : (k : ℕ) → Within near (signed_at costs k)
  pub distances_size : length d ≡ n
  pub list_size : length list ≡ n
  pub predecessors_size : length predecessors ≡ n
  pub turn : CanTurn n costs (state_of cols rows v 0) s

-- Row s has its column: the pairs and prices are the definition's, and so is the count, from any count on.
pub record RowAugmented (n : ℕ) (costs : List ℤ) (s : ℕ) (cols₀ rows₀ : List ℕ) (v₀ : List ℤ) (cols rows : List ℕ) (v : List ℤ) (r : ℕ) : Type 0 where
  pub same : (scanned : ℕ) → state_of cols rows v (scanned + r) ≡ augment n (square n costs).cost (state_of cols₀ rows₀ v₀ scanned) s
  pub few : r < n

-- The first `count` free rows can get their columns: each can, from the state that the rows before it leave.
pub record CanAugment (n : ℕ) (costs : List ℤ) (count : ℕ) (cols rows : List ℕ) (v d : List ℤ) (room : List ℕ) : Type 0 where
  pub small : n ≤ side
  pub few : count ≤ n
  pub costs_size : length costs ≡ n * n
  pub costs_near : (k : ℕ) → Within near (signed_at costs k)
  pub cols_size : length cols ≡ n
  pub rows_size : length rows ≡ n
  pub prices_size : length v ≡ n
  pub distances_size : length d ≡ n
  pub room_size : length room ≡ n + n + n + n
  pub turn : (m : ℕ) → m < count
      → CanTurn n costs (augments n (square n costs).cost (frees_in n room) m (state_of cols rows v 0)) (at (frees_in n room) m)

-- The pairs, prices and count are the definition's; the free rows and the marks are as they were.
pub record Augmented (n : ℕ) (costs : List ℤ) (count : ℕ) (cols₀ rows₀ : List ℕ) (v₀ : List ℤ) (room₀ cols rows : List ℕ) (v : List ℤ) (room : List ℕ)
    (scanned : ℕ) : Type 0 where
  pub same : state_of cols rows v scanned ≡ augmentation n (square n costs).cost (stage_in n cols₀ rows₀ v₀ room₀ count)
  pub frees_kept : frees_in n room ≡ frees_in n room₀
  pub marks_kept : marks_in n room ≡ marks_in n room₀
