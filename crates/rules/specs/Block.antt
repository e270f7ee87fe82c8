-- Rule 2, the block of minima.
-- "Over the column list from lo: a smaller distance restarts the block at lo; an equal one is swapped to the block's end. Position order
-- is part of the rule."
use Rattle.std.specs.Prelude.{cond, List, ℕ, ◌+◌, ℤ}
use Rattle.std.specs.Int.Signed.{lt_z, le_z}
use Rattle.lists.specs.Runs.{upward}
use Rattle.lists.specs.Permutations.{at, exchange}
use Rattle.assignment.specs.Pairings.{signed_at}

-- The column list, with the block from lo up to, not including, hi; and the block's minimum.
pub record Block : Type 0 where
  pub hi : ℕ
  pub minimum : ℤ
  pub list : List ℕ

-- The column at place k, of distance h, joins a block that ends at hi.
abbrev pub block_with : Block → ℕ → ℤ → ℕ → Block
block_with b k h hi = record { hi = hi + 1; minimum = h; list = exchange b.list k hi }

-- The column at place k: a smaller distance restarts the block at lo, an equal one is swapped to its end.
abbrev pub block_step : List ℤ → ℕ → ℕ → Block → Block
block_step distances lo k b =
    let h = signed_at distances (at b.list k) in
    cond (le_z h b.minimum) (block_with b k h (cond (lt_z h b.minimum) lo b.hi)) b

-- Before the places after lo are passed.
abbrev pub block_start : List ℤ → ℕ → List ℕ → Block
block_start distances lo list = record { hi = lo + 1; minimum = signed_at distances (at list lo); list = list }

-- The block of minima of a list of n columns from lo on.
unfoldable pub block : ℕ → List ℤ → ℕ → List ℕ → Block
block n distances lo list = upward (lo + 1) n (block_step distances lo) (block_start distances lo list)
