-- Rule 5, scan and search. `v j` is the price of column j and `row j` the row that it is paired with: n or more where j is free.
use Rattle.std.specs.Prelude.{Bool, false, cond, List, ℕ, ◌+◌, ℤ, ◌+ℤ◌, ◌-ℤ◌, set, ltb, Option, Some, None}
use Rattle.std.specs.Int.Signed.{lt_z, le_z}
use Rattle.lists.specs.Runs.{upward, Turn, on, left, until}
use Rattle.lists.specs.Permutations.{at, table, exchange}
use Rattle.assignment.specs.Pairings.{signed_at}
use Rattle.rules.specs.declared.Cursor.{Cursor}
use Rattle.rules.specs.Lowest.{reduced}
use Rattle.rules.specs.Block.{block}

-- A search under way: where the block ends, the column list, the distances, the row that leads to each column, and the columns scanned.
pub record Work : Type 0 where
  pub hi : ℕ
  pub list : List ℕ
  pub distances : List ℤ
  pub predecessors : List ℕ
  pub scanned : ℕ

-- A search with these.
abbrev pub work_of : ℕ → List ℕ → List ℤ → List ℕ → ℕ → Work
work_of hi list distances predecessors scanned =
    record { hi = hi; list = list; distances = distances; predecessors = predecessors; scanned = scanned }

-- A scan is left: the free column that was reached, and the work as it stands then.
pub record Hit : Type 0 where
  pub column : ℕ
  pub work : Work

-- What a search hands out: the free column; how many columns are ready, those listed before the last block; the cursor; and the work.
pub record Found : Type 0 where
  pub column : ℕ
  pub ready : ℕ
  pub cursor : Cursor
  pub work : Work

-- Two distances are equal.
abbrev pub same : ℤ → ℤ → Bool
same x y = cond (le_z x y) (le_z y x) false

-- ---- "In a scan, the first free column whose lowered distance equals the block's minimum ends the search; [..]. Distances change only
-- when strictly lower."

-- Row i leads to column j, at distance x.
abbrev pub reach_by : Work → ℕ → ℕ → ℤ → Work
reach_by w i j x = work_of w.hi w.list (set w.distances j x) (set w.predecessors j i) w.scanned

-- The column at place k is swapped to the block's end.
abbrev pub join : Work → ℕ → Work
join w k = work_of (w.hi + 1) (exchange w.list k w.hi) w.distances w.predecessors w.scanned

-- One more column's row is used in a scan.
abbrev pub count_one : Work → Work
count_one w = work_of w.hi w.list w.distances w.predecessors (w.scanned + 1)

-- Column j, at place k, has been lowered to x: at the block's minimum it ends the search if it is free, and else joins the block.
abbrev pub after_lowering : ℕ → (ℕ → ℕ) → ℤ → ℕ → ℕ → ℤ → Work → Turn Work Hit
after_lowering n row minimum k j x w =
    cond (same x minimum) (cond (ltb (row j) n) (on (join w k)) (left (record { column = j; work = w }))) (on w)

module _ (n : ℕ) (cost : ℕ → ℕ → ℤ) (v : ℕ → ℤ) (row : ℕ → ℕ) where
  -- The column at place k, as row i sees it: h is what the reduced cost of the scanned column is above the minimum.
  abbrev pub scan_column : ℤ → ℤ → ℕ → ℕ → Work → Turn Work Hit
  scan_column minimum h i k w =
      let j = at w.list k in
      let x = reduced cost v i j -ℤ h in
      cond (lt_z x (signed_at w.distances j)) (after_lowering n row minimum k j x (reach_by w i j x)) (on w)

  -- The row of the column at place k sees all columns after the block.
  abbrev pub scan_row : ℕ → Work → Turn Work Hit
  scan_row k w =
      let j = at w.list k in
      let minimum = signed_at w.distances j in
      until w.hi n (scan_column minimum (reduced cost v (row j) j -ℤ minimum) (row j)) (count_one w)

  -- The columns of the block from place lo on, those that join it included.
  unfoldable pub scan : ℕ → Work → Turn Work Hit
  scan lo w = until lo n (λ k x. cond (ltb k x.hi) (scan_row k x) (on x)) w

-- ---- "The search ends by handing out the free column it reached. Among free columns of a fresh block the last in the list is taken; the
-- source has no early exit. [..] lo and hi then keep their values from before that scan."

-- The last free column of the places from lo up to hi.
unfoldable pub last_free : ℕ → (ℕ → ℕ) → List ℕ → ℕ → ℕ → Option ℕ
last_free n row list lo hi = upward lo hi (λ k found. cond (ltb (row (at list k)) n) found (Some (at list k))) None

-- The work with its block of minima from lo on.
abbrev pub fresh_block : ℕ → ℕ → Work → Work
fresh_block n lo w = let b = block n w.distances lo w.list in work_of b.hi b.list w.distances w.predecessors w.scanned

-- What is found from a block that starts at lo.
abbrev pub found : ℕ → Cursor → ℕ → Work → Found
found lo cursor j w = record { column = j; ready = lo; cursor = cursor; work = w }

-- After the scan of the block from lo to hi: the next block starts where this one ended; or a free column was reached, and lo and hi keep
-- their values.
abbrev pub after_scan : ℕ → ℕ → Turn Work Hit → Turn Work Found
after_scan lo hi (on w) = on w
after_scan lo hi (left hit) = left (found lo (record { lo = lo; hi = hi }) hit.column hit.work)

-- What was found. (That a search is left within n blocks is a law.)
abbrev pub found_at : Turn Work Found → Found
found_at (left f) = f
found_at (on w) = found 0 (record { lo = 0; hi = 0 }) 0 w

module _ (n : ℕ) (cost : ℕ → ℕ → ℤ) (v : ℕ → ℤ) (row : ℕ → ℕ) where
  -- A fresh block, from lo on: it has a free column, or it is scanned.
  abbrev pub after_block : ℕ → Work → Option ℕ → Turn Work Found
  after_block lo w (Some j) = left (found lo (record { lo = lo; hi = w.hi }) j w)
  after_block lo w None = after_scan lo w.hi (scan n cost v row lo w)

  -- One block. Between two blocks lo and hi are the same.
  abbrev pub search_block : Work → Turn Work Found
  search_block w = let lo = w.hi in let b = fresh_block n lo w in after_block lo b (last_free n row b.list lo b.hi)

  -- At most m blocks.
  unfoldable pub search_blocks : ℕ → Work → Turn Work Found
  search_blocks m w = until 0 m (λ k x. search_block x) w

  -- Before the first block: the columns in their order, each as far as row s makes it.
  abbrev pub search_start : ℕ → Work
  search_start s = work_of 0 (table n (λ j. j)) (table n (reduced cost v s)) (table n (λ j. s)) 0

  -- The search from row s.
  unfoldable pub search : ℕ → Found
  search s = found_at (search_blocks n (search_start s))

-- ---- "Then each ready column (those listed before the last block) has its distance minus that block's minimum added to v."

-- A column's price, with its distance minus the minimum added.
abbrev pub add_distance : List ℤ → ℤ → ℕ → List ℤ → List ℤ
add_distance distances minimum j v = set v j (signed_at v j +ℤ (signed_at distances j -ℤ minimum))

-- The prices after a search.
unfoldable pub new_prices : Found → List ℤ → List ℤ
new_prices f v =
    let w = f.work in
    upward 0 f.ready (λ k. add_distance w.distances (signed_at w.distances (at w.list f.cursor.lo)) (at w.list k)) v
