-- Every search of the run ends: within n blocks, with fewer than n columns scanned, and its flips within n. Assumes nothing.
use Prim.Native.Nat.{ℕ, ◌+◌, ◌*◌, ◌≤◌, ◌<◌}
use mathlib.Core.List.{List}
use lib.IntN.{ℤ}
use Rattle.ints.specs.Parts.{Within}
use Rattle.lists.specs.Permutations.{at}
use Rattle.assignment.specs.Pairings.{signed_at, square}
use Rattle.rules.specs.Columns.{free}
use Rattle.rules.specs.Rows.{pass_end}
use Rattle.rules.specs.Search.{search}
use Rattle.rules.specs.Augmentation.{Progress, augments}
use Rattle.rules.specs.Run.{stages}
use Rattle.rules.specs.Right.{SearchEnds}
use Rattle.rules.specs.Asked.{Can}
use Rattle.rules.proofs.Pairs.{free_column}
use Rattle.rules.proofs.Search.{search_left}
use Rattle.rules.proofs.Flips.{flips_left}
use Rattle.rules.proofs.Augment.{floor_of, floor_under, Tree, rank, rooted, flipping, one, found_good}
use Rattle.rules.proofs.Stages.{stages_right, search_ready}

-- From any state from which row s can get a column.
pub can_ends : (n : ℕ) (cost : ℕ → ℕ → ℤ) (x : Progress) (s : ℕ) → Can n cost x s → SearchEnds n cost x s
can_ends n cost x s C =
    let v = signed_at x.prices in
    let row = at x.pairs.rows in
    let some = one n cost x s C in
    let floor = floor_of n cost v s some in
    let y = free_column n x.pairs C.agree s C.start_below C.start_unpaired in
    let f = search n cost v row s in
    let μ = (found_good n cost x s C).0 in
    let E = (found_good n cost x s C).1 in
    let below = C.start_below in
    record {
      found_within = search_left n cost v row s floor C.fair y.0 y.1 y.2 (floor_under n cost v s some);
      scanned_few = E.counted_few;
      flipped_within =
          flips_left n s below f.work.predecessors x.pairs (Tree n cost v x.pairs s floor below f μ E) (rank n cost v x.pairs s floor below f μ E)
          (rooted n cost v x.pairs s floor below f μ E) (record { column = f.column; pairs = x.pairs })
          (flipping n cost v x.pairs s floor below f μ E C.agree C.start_unpaired);
    }

-- Search m of the run, for each of the rows left after both passes.
pub run_searches_end : (n : ℕ) → 1 ≤ n → n ≤ free → (costs : List ℤ) (K : ℕ) → ((k : ℕ) → Within K (signed_at costs k)) → (m : ℕ)
    → let cost = (square n costs).cost in
    let s = pass_end (stages n cost).pass_two in
    m < s.count → SearchEnds n cost (augments n cost s.frees m (record { pairs = s.pairs; prices = s.prices; scanned = 0 })) (at s.frees m)
run_searches_end n some room costs K within m l =
    let cost = (square n costs).cost in
    let near : (i j : ℕ) → Within K (cost i j) = λ i j. within (i * n + j) in
    let s = pass_end (stages n cost).pass_two in
    let good = (stages_right n cost some K near room).pass_two.good in
    can_ends n cost (augments n cost s.frees m (record { pairs = s.pairs; prices = s.prices; scanned = 0 })) (at s.frees m)
    (search_ready n cost some K near s good m l).can
