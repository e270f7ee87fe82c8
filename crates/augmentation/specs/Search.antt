-- What a search and its steps ask for, and what they leave in lent memory.
use Rattle.std.specs.Prelude.{◌≡◌, List, [], ℕ, ◌*◌, ◌≤◌, ◌<◌, ℤ, length}
use Rattle.ints.specs.Parts.{Within}
use Rattle.lists.specs.Permutations.{at, Permutation}
use Rattle.assignment.specs.Pairings.{signed_at, square}
use Rattle.matrix.specs.Limits.{side, near}
use Rattle.rules.specs.declared.Reached.{Reached}
use Rattle.rules.specs.Search.{Found, search_start, search, new_prices, work_of}
use Rattle.rules.specs.Asked.{Fair}
use Rattle.augmentation.specs.Scan.{Lent}

-- Before a search starts.
pub record CanStart (n : ℕ) (costs : List ℤ) (start : ℕ) (v d : List ℤ) (list predecessors : List ℕ) : Type 0 where
  pub small : n ≤ side
  pub start_below : start < n
  pub costs_size : length costs ≡ n * n
  pub prices_size : length v ≡ n
  pub distances_size : length d ≡ n
  pub list_size : length list ≡ n
  pub predecessors_size : length predecessors ≡ n
  pub prices_near : (j : ℕ) → Within near (signed_at v j)

-- A search has started: the columns in their order, each as far as the start row makes it. No column's row is asked.
pub record Started (n : ℕ) (costs : List ℤ) (start : ℕ) (v d : List ℤ) (list predecessors : List ℕ) : Type 0 where
  pub same : work_of 0 list d predecessors 0 ≡ search_start n (square n costs).cost (signed_at v) (λ j. n) start

-- The column at place lo has a row, and its distance is within twice near.
pub record CanScan (n : ℕ) (costs : List ℤ) (rows : List ℕ) (lo hi : ℕ) (v d : List ℤ) (list predecessors : List ℕ) : Type 0 where
  pub lent : Lent n v rows d list predecessors
  pub costs_size : length costs ≡ n * n
  pub place : (lo < n) × (hi ≤ n)
  pub taken : at rows (at list lo) < n
  pub minimum_near : Within (2 * near) (signed_at d (at list lo))

-- What was found, as far as the prices ask: the first lo columns of the list are ready, and the last block starts at lo.
abbrev pub ready_at : ℕ → List ℕ → List ℤ → Found
ready_at lo list d = record { column = 0; ready = lo; cursor = record { lo = lo; hi = lo }; work = work_of lo list d [] 0 }

-- The first lo columns of a list of n are ready; distances and prices are near.
pub record CanChange (n lo : ℕ) (list : List ℕ) (d v : List ℤ) : Type 0 where
  pub small : n ≤ side
  pub ready_below : lo < n
  pub listed : Permutation n list
  pub distances_size : length d ≡ n
  pub distances_near : (j : ℕ) → Within (2 * near) (signed_at d j)
  pub prices_near : (j : ℕ) → Within near (signed_at v j)

-- Some column is free.
pub record HasFree (n : ℕ) (rows : List ℕ) : Type 0 where
  pub column : ℕ
  pub below : column < n
  pub free : n ≤ at rows column

-- A search can be made from row `start`: fair prices, and a column that is free.
pub record CanSearch (n : ℕ) (costs : List ℤ) (rows : List ℕ) (start : ℕ) (v : List ℤ) : Type 0 where
  pub small : n ≤ side
  pub start_below : start < n
  pub costs_size : length costs ≡ n * n
  pub prices_size : length v ≡ n
  pub rows_size : length rows ≡ n
  pub costs_near : (k : ℕ) → Within near (signed_at costs k)
  pub prices_near : (j : ℕ) → Within near (signed_at v j)
  pub fair : Fair n (square n costs).cost (signed_at v) (at rows)
  pub has_free : HasFree n rows

-- What a search finds.
abbrev pub found_from : ℕ → List ℤ → List ℕ → ℕ → List ℤ → Found
found_from n costs rows start v = search n (square n costs).cost (signed_at v) (at rows) start

-- What a search leaves: its answer, the new prices, the distances, the column list and the predecessors.
pub record Searched (f : Found) (v₀ : List ℤ) (r : Reached) (v d : List ℤ) (list predecessors : List ℕ) : Type 0 where
  pub column : r.column ≡ f.column
  pub scanned : r.scanned ≡ f.work.scanned
  pub prices : v ≡ new_prices f v₀
  pub distances : d ≡ f.work.distances
  pub listed : list ≡ f.work.list
  pub predecessors_are : predecessors ≡ f.work.predecessors
