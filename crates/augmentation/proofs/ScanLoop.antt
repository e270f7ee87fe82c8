-- The turns of the scan's loop: what a scan of one column is asked with, and what it leaves. Assumes nothing.
use mathlib.Core.Path.{◌≡◌, refl, sym, ap, ◌∙◌}
use mathlib.Core.Logic.{◌≢◌}
use mathlib.Core.Bool.{cond}
use mathlib.Core.List.{List}
use Prim.Native.Nat.{ℕ, suc, ◌+◌, ◌≤◌, ◌<◌}
use native.Mathlib.Numerals.{add-one}
use native.Mathlib.Omega.{arith}
use lib.Dec.{ltb}
use lib.IntN.{ℤ, ◌-ℤ◌}
use lib.Signed.{lt_z}
use Rattle.lists.specs.Runs.{Turn, on, left, and_then}
use Rattle.lists.specs.Permutations.{at}
use Rattle.lists.proofs.Leaving.{until_keeps, Either, goes_on, is_left_lem}
use Rattle.lists.proofs.Cases.{cond_cases}
use Rattle.assignment.specs.Pairings.{signed_at, square}
use Rattle.std.specs.declared.ops.ControlFlow.{ControlFlow}
use Rattle.rules.specs.Lowest.{reduced, lowest}
use Rattle.rules.specs.Search.{same, reach_by, join, count_one, after_lowering, scan_column, Work, work_of, Hit, Found, scan_row, scan, search_blocks}
use Rattle.rules.proofs.Scan.{Sound}
use Rattle.rules.proofs.Scans.{Counted, LeftAt, scan_row_counted_or_left}
use Rattle.rules.proofs.Turns.{scan_more, scan_done}
use Rattle.std.specs.declared.ops.ControlFlow.TheVariants.{Continue, Break}
use Rattle.augmentation.specs.Scan.{seen_in, Scanned}
use Rattle.augmentation.specs.Search.{CanSearch, CanScan}
use Rattle.augmentation.proofs.Loops.{distances_near, seen_on, seen_hit, either_on, InScan}

-- ---- a block only grows while it is scanned

-- One row goes on with no smaller block.
abbrev Grown : ℕ → Turn Work Hit → Type 0
Grown hi t = Either (λ (x : Work). hi ≤ x.hi) (λ (h : Hit). h.column ≡ h.column) t

module _ (n : ℕ) (cost : ℕ → ℕ → ℤ) (v : ℕ → ℤ) (row : ℕ → ℕ) where
  column_grows : (minimum h : ℤ) (i k hi : ℕ) (w : Work) → hi ≤ w.hi → Grown hi (scan_column n cost v row minimum h i k w)
  column_grows minimum h i k hi w l =
      let j = at w.list k in
      let x = reduced cost v i j -ℤ h in
      let r = reach_by w i j x in
      let out : Turn Work Hit = left (record { column = j; work = r }) in
      cond_cases (lt_z x (signed_at w.distances j)) (Grown hi) (after_lowering n row minimum k j x r) (on w)
      (λ a. cond_cases (same x minimum) (Grown hi) (cond (ltb (row j) n) (on (join r k)) out) (on r)
      (λ b. cond_cases (ltb (row j) n) (Grown hi) (on (join r k)) out (λ c. goes_on (omega arith)) (λ c. is_left_lem refl))
      (λ b. goes_on l))
      (λ a. goes_on l)

  row_grows : (k : ℕ) (w : Work) → w.hi ≤ n → Grown w.hi (scan_row n cost v row k w)
  row_grows k w l =
      let j = at w.list k in
      let minimum = signed_at w.distances j in
      until_keeps (λ t x. w.hi ≤ x.hi) (λ h. h.column ≡ h.column) w.hi n (scan_column n cost v row minimum (reduced cost v (row j) j -ℤ minimum) (row j)) (count_one w) l
      (omega arith) (λ t x a b g. column_grows minimum (reduced cost v (row j) j -ℤ minimum) (row j) t w.hi x g)

module _ (n : ℕ) (costs : List ℤ) (rows : List ℕ) (start : ℕ) (v : List ℤ) where
  abbrev cost : ℕ → ℕ → ℤ
  cost = (square n costs).cost

  abbrev floor : ℤ
  floor = (lowest n (reduced cost (signed_at v) start)).value

  abbrev blocks : ℕ → Work → Turn Work Found
  blocks m w = search_blocks n cost (signed_at v) (at rows) m w

  abbrev rest : ℕ → Work → Turn Work Hit
  rest k w = scan n cost (signed_at v) (at rows) k w

  module _ (C : CanSearch n costs rows start v) {d₁ : List ℤ} {list₁ predecessors₁ : List ℕ} {lo₁ hi₁ m₁ : ℕ} {d : List ℤ} {list predecessors : List ℕ} {lo hi m : ℕ}
      (M : InScan n costs rows start v d₁ list₁ predecessors₁ lo₁ hi₁ m₁ d list predecessors lo hi m) where
    abbrev w : Work
    w = work_of hi list d predecessors m

    S : Sound n cost (signed_at v) (at rows) start floor w
    S = M.counted.scanning.sound

    hi_below : hi ≤ n
    hi_below = M.counted.scanning.order.2

    module _ (go : lo ≢ hi) where
      lo_in : (lo < hi) × (lo < n)
      lo_in = omega (arith, M.place, hi_below)

      pub can_scan : CanScan n costs rows lo hi v d list predecessors
      can_scan = record {
        lent = record {
          small = C.small;
          prices_size = C.prices_size;
          rows_size = C.rows_size;
          distances_size = S.distances_size;
          predecessors_size = S.predecessors_size;
          listed = S.permutation;
          prices_near = C.prices_near;
        };
        costs_size = C.costs_size;
        place = (lo_in.1, hi_below);
        taken = M.counted.scanning.paired lo lo_in.0;
        minimum_near = distances_near n costs rows start v C w S (at list lo);
      }

      -- The column at lo is scanned, and then the rest.
      turn : and_then (scan_row n cost (signed_at v) (at rows) lo w) (rest (suc lo)) ≡ rest lo₁ (work_of hi₁ list₁ d₁ predecessors₁ m₁)
      turn = sym (scan_more n cost (signed_at v) (at rows) lo w lo_in.1 lo_in.0) ∙ M.same

      kept : Either (Counted n cost (signed_at v) (at rows) start floor lo₁ M.minimum (suc lo)) (LeftAt n cost (signed_at v) (at rows) start floor lo₁ M.minimum)
          (scan_row n cost (signed_at v) (at rows) lo w)
      kept = scan_row_counted_or_left n cost (signed_at v) (at rows) start floor C.fair lo₁ M.minimum lo w M.counted lo_in.0

      module _ {r : ControlFlow ℕ ℕ} {d' : List ℤ} {list' predecessors' : List ℕ} (R : Scanned n costs v rows lo hi d list predecessors r d' list' predecessors') where
        -- The scan goes on, with the block's end e.
        pub scan_on : (e : ℕ) → r ≡ Continue e → InScan n costs rows start v d₁ list₁ predecessors₁ lo₁ hi₁ m₁ d' list' predecessors' (lo + 1) e (m + 1)
        scan_on e q =
            let x : Work = work_of e list' d' predecessors' (m + 1) in
            let t : scan_row n cost (signed_at v) (at rows) lo w ≡ on x =
            seen_on e list' d' predecessors' (m + 1) (scan_row n cost (signed_at v) (at rows) lo w)
            (ap (λ (y : ControlFlow ℕ ℕ). seen_in y list' d' predecessors' (m + 1)) (sym q) ∙ R.same m) in
            let D : Counted n cost (signed_at v) (at rows) start floor lo₁ M.minimum (suc lo) x = either_on (rw t at kept) in
            let g : hi ≤ e = either_on (rw t at (row_grows n cost (signed_at v) (at rows) lo w hi_below)) in
            record {
              minimum = M.minimum;
              place = omega (arith, lo_in);
              counted = rw (add-one lo) D;
              same = rw (add-one lo) (ap (λ (y : Turn Work Hit). and_then y (rest (suc lo))) (sym t) ∙ turn);
            }

        -- The scan is left at a free column.
        pub scan_left : (j : ℕ) → r ≡ Break j
            → (e : ℕ) × (rest lo₁ (work_of hi₁ list₁ d₁ predecessors₁ m₁) ≡ left (record { column = j; work = work_of e list' d' predecessors' (m + 1) }))
        scan_left j q =
            let h = seen_hit j list' d' predecessors' (m + 1) (scan_row n cost (signed_at v) (at rows) lo w)
            (ap (λ (y : ControlFlow ℕ ℕ). seen_in y list' d' predecessors' (m + 1)) (sym q) ∙ R.same m) in
            (h.0, sym turn ∙ ap (λ (y : Turn Work Hit). and_then y (rest (suc lo))) h.1)

    -- None is left of the block.
    pub scan_over : lo ≡ hi → rest lo₁ (work_of hi₁ list₁ d₁ predecessors₁ m₁) ≡ on w
    scan_over e = sym M.same ∙ scan_done n cost (signed_at v) (at rows) lo w (omega arith)
