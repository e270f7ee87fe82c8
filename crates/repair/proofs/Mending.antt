-- One search from the freed row, over plain lists: what `ca_dense` asks for with one free row, and what it leaves; then the row prices and the total
-- can be taken, and what stands then is the repair. Assumes nothing.
use mathlib.Core.Path.{◌≡◌, sym, ap, ap₂, ◌∙◌, subst}
use mathlib.Core.List.{List}
use Prim.Native.Nat.{ℕ, ◌+◌, ◌*◌, ◌≤◌, ◌<◌}
use native.Mathlib.Omega.{arith}
use lib.IntN.{ℤ, pos}
use lib.ListN.{length, set, length-set, replicate}
use lib.Seq.{get_or-set_same}
use Rattle.ints.specs.Parts.{Within}
use Rattle.ints.proofs.Ranges.{within_mono}
use Rattle.lists.specs.Permutations.{at}
use Rattle.lists.proofs.Runs.{upward_none, upward-last}
use Rattle.lists.proofs.Parts.{part_at}
use Rattle.assignment.specs.Pairings.{signed_at, square, total}
use Rattle.matrix.specs.Limits.{K, near}
use Rattle.matrix.specs.Asked.{Listed}
use Rattle.matrix.proofs.SmallLimits.{K_small}
use Rattle.rules.specs.Columns.{free}
use Rattle.rules.specs.Augmentation.{Progress, augment, augments, augmentation}
use Rattle.rules.specs.Run.{prices_of_rows}
use Rattle.rules.proofs.Augment.{Gain}
use Rattle.rules.proofs.Sizes.{within_everywhere}
use Rattle.augmentation.specs.Room.{frees_in}
use Rattle.augmentation.specs.Augmentation.{CanAugment, CanTurn, Augmented, state_of, pairs_of}
use Rattle.lapjv.specs.Asked.{CanPrice}
use Rattle.lapjv.proofs.Ready.{side-free}
use Rattle.repair.specs.Repair.{unpaired, mended, repaired_by}
use Rattle.repair.specs.Asked.{CanMend, repaired_in, RepairedBy}
use Rattle.repair.proofs.Mended.{mend_can, mend_gain, mend_column_between}

module _ (n : ℕ) (costs : List ℤ) (row : ℕ) (cols rows : List ℕ) (v : List ℤ) (room : List ℕ) (d : List ℤ)
    (C : CanMend n costs row (pairs_of cols rows) v room d) where
  abbrev cost : ℕ → ℕ → ℤ
  cost = (square n costs).cost

  -- The rows with the column given up, and the room with the row to start from.
  abbrev freed_rows : List ℕ
  freed_rows = set rows (at cols row) free

  abbrev started : List ℕ
  started = set room 0 row

  abbrev x : Progress
  x = state_of cols freed_rows v 0

  some : 1 ≤ n
  some = omega (arith, C.fair.row_below)

  under : n ≤ free
  under = omega (arith, side-free, C.small)

  first-free : at (frees_in n started) 0 ≡ row
  first-free = part_at 0 n started 0 0 some ∙ get_or-set_same room 0 row 0 (omega (arith, C.room_size, some))

  prices_near_lem : (k : ℕ) → Within near (signed_at v k)
  prices_near_lem =
      within_everywhere near v (λ k l. within_mono (omega (arith, K_small)) (C.prices_near k (omega (arith, C.fair.prices_size))))

  pub can_augment : CanAugment n costs 1 cols freed_rows v d started
  unfolding augments
  can_augment = record {
    small = C.small;
    few = some;
    costs_size = C.squared;
    costs_near = λ k. within_mono (omega (arith, K_small)) (C.costs_within k);
    cols_size = C.fair.cols_size;
    rows_size = length-set rows (at cols row) free ∙ C.fair.rows_size;
    prices_size = C.fair.prices_size;
    distances_size = C.distances_size;
    room_size = length-set room 0 row ∙ C.room_size;
    turn = λ m l.
        let e : m ≡ 0 = omega arith in
        subst (λ (k : ℕ). CanTurn n costs (augments n cost (frees_in n started) k x) (at (frees_in n started) k)) (sym e)
        (subst (λ (y : Progress). CanTurn n costs y (at (frees_in n started) 0))
        (sym (upward_none 0 0 (λ k y. augment n cost y (at (frees_in n started) k)) x (omega arith)))
        (subst (λ (i : ℕ). CanTurn n costs x i) (sym first-free)
        (record { can = mend_can n costs row (pairs_of cols rows) C.us v under C.fair; prices_near = prices_near_lem })));
  }

  pub mended_by : (cols' rows' : List ℕ) (v' : List ℤ) (room' : List ℕ) (scanned : ℕ) → Augmented n costs 1 cols freed_rows v started cols' rows' v' room' scanned
      → state_of cols' rows' v' scanned ≡ mended n cost (pairs_of cols rows) v row
  unfolding augmentation augments mended
  mended_by cols' rows' v' room' scanned A =
      A.same
      ∙ upward-last 0 0 (λ k y. augment n cost y (at (frees_in n started) k)) x (omega arith)
      ∙ ap₂ (augment n cost) (upward_none 0 0 (λ k y. augment n cost y (at (frees_in n started) k)) x (omega arith)) first-free

  -- After the search.
  module _ (cols' rows' : List ℕ) (v' : List ℤ) (scanned : ℕ) (e : state_of cols' rows' v' scanned ≡ mended n cost (pairs_of cols rows) v row) where
    gain : Gain n cost (unpaired (pairs_of cols rows) v row) row (state_of cols' rows' v' scanned)
    unfolding mended
    gain = subst (Gain n cost (unpaired (pairs_of cols rows) v row) row) (sym e) (mend_gain n costs row (pairs_of cols rows) C.us v under C.fair)

    pub sizes : (length cols' ≡ n) × (length rows' ≡ n) × (length v' ≡ n)
    sizes = (gain.agree.cols_size, gain.agree.rows_size, gain.prices_size)

    prices_close : (j : ℕ) → j < n → Within near (signed_at v' j)
    unfolding mended
    prices_close j l =
        let b = mend_column_between n costs row (pairs_of cols rows) C.us v under C.fair K (7 * K) C.costs_within C.prices_near j l in
        let s = ap (λ (y : Progress). signed_at y.prices j) e in
        rw s (record { low = omega (arith, K_small, b); high = omega (arith, K_small, b) })

    pub can_price : (us : List ℤ) → length us ≡ n → CanPrice n costs cols' v' us
    can_price us f = record {
      small = C.small;
      squared = C.squared;
      cols_size = sizes.0;
      v_size = sizes.2;
      us_size = f;
      inside = gain.agree.cols_below;
      prices_near = prices_close;
    }

    pub can_total : Listed n costs n cols'
    can_total = record { small = C.small; squared = C.squared; rows = omega arith; listed = omega (arith, sizes.0); inside = gain.agree.cols_below }

    pub repaired_by_lem : (us : List ℤ) (room' room'' : List ℕ) (d' d'' : List ℤ) (t : ℤ) → us ≡ prices_of_rows n cost cols' v' → t ≡ total (square n costs) cols'
        → room'' ≡ replicate (length room') 0 → length room' ≡ n + n + n + n → d'' ≡ replicate (length d') (pos 0) → length d' ≡ n
        → RepairedBy n costs row (pairs_of cols rows) v cols' rows' us v' room'' d'' t
    repaired_by_lem us room' room'' d' d'' t eu et er el ed dl = record {
      repaired = ap₂ (λ (a : List ℤ) (b : ℤ). repaired_in cols' rows' a v' b) eu et ∙ ap (repaired_by n costs) e;
      room_cleared = er ∙ ap (λ (k : ℕ). replicate k 0) (let z : length room' ≡ 4 * n = omega arith in z);
      distances_cleared = ed ∙ ap (λ (k : ℕ). replicate k (pos 0)) dl;
    }
