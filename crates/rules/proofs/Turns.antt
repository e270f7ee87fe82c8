-- One turn of each loop of rules 5 and 6, for code that runs them: the rest of a scan, of a search and of the flips from any state. Assumes nothing.
use mathlib.Core.Path.{◌≡◌, ap, ◌∙◌}
use mathlib.Core.Bool.{Bool, cond}
use mathlib.Core.List.{List}
use Prim.Native.Nat.{ℕ, suc, ◌≤◌, ◌<◌}
use native.Mathlib.Omega.{arith}
use borrow.Author.Tests.{lt-ltb, le-ltb}
use lib.Dec.{ltb}
use lib.IntN.{ℤ}
use Rattle.lists.specs.Runs.{Turn, on, and_then, until}
use Rattle.lists.proofs.Runs.{upward_idle, until-first}
use Rattle.lists.proofs.Leaving.{repeat_first}
use Rattle.rules.specs.Search.{Work, Hit, scan_row, scan, search_block, search_blocks}
use Rattle.rules.specs.Augmentation.{Open, flip, flips}

-- ---- the scan from place k on

module _ (n : ℕ) (cost : ℕ → ℕ → ℤ) (v : ℕ → ℤ) (row : ℕ → ℕ) where
  abbrev turn : ℕ → Work → Turn Work Hit
  turn k x = cond (ltb k x.hi) (scan_row n cost v row k x) (on x)

  -- A column of the block is left: it is scanned, and then the rest.
  pub scan_more : (k : ℕ) (w : Work) → k < n → k < w.hi → scan n cost v row k w ≡ and_then (scan_row n cost v row k w) (scan n cost v row (suc k))
  unfolding scan
  scan_more k w l h =
      until-first k n turn w l
      ∙ ap (λ (b : Bool). and_then (cond b (scan_row n cost v row k w) (on w)) (until (suc k) n turn)) (lt-ltb k w.hi h)

  -- None is left.
  pub scan_done : (k : ℕ) (w : Work) → w.hi ≤ k → scan n cost v row k w ≡ on w
  unfolding scan until
  scan_done k w h =
      upward_idle k n (λ i t. and_then t (turn i)) (on w)
      (λ i l m. ap (λ (b : Bool). cond b (scan_row n cost v row i w) (on w)) (le-ltb i w.hi (omega arith)))

  -- ---- the search, block by block

  pub blocks_first : (m : ℕ) (w : Work) → search_blocks n cost v row (suc m) w ≡ and_then (search_block n cost v row w) (search_blocks n cost v row m)
  unfolding search_blocks
  blocks_first m w = repeat_first (search_block n cost v row) m w

-- ---- the flips, one by one

pub flips-first : (m s : ℕ) (predecessors : List ℕ) (o : Open) → flips (suc m) s predecessors o ≡ and_then (flip s predecessors o) (flips m s predecessors)
unfolding flips
flips-first m s predecessors o = repeat_first (flip s predecessors) m o
