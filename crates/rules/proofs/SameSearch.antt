-- Rule 5 sees costs and prices only through reduced costs of rows and columns below n: where these are equal, so are the searches. No matter whether
-- prices are fair or a column is free. Assumes nothing.
use mathlib.Core.Path.{◌≡◌, refl, sym, ap, ◌∙◌, subst}
use mathlib.Core.Logic.{◌⊎◌, inl, inr}
use mathlib.Core.Bool.{cond}
use mathlib.Core.List.{List}
use Prim.Native.Nat.{ℕ, suc, ◌+◌, ◌≤◌, ◌<◌}
use native.Mathlib.Decide.{ℕ_discrete}
use native.Mathlib.Omega.{arith}
use borrow.Author.Tests.{ltb-true, lt-ltb, le-ltb}
use lib.Dec.{ltb}
use lib.IntN.{ℤ, ◌-ℤ◌}
use lib.Signed.{lt_z}
use lib.ListN.{length}
use Rattle.std.specs.Prelude.{Option, Some, None}
use Rattle.lists.specs.Runs.{Turn, on, left, until}
use Rattle.lists.specs.Permutations.{at, table, Permutation}
use Rattle.lists.proofs.Runs.{upward_none, until_none}
use Rattle.lists.proofs.Leaving.{Either, goes_on, is_left_lem, either_map}
use Rattle.lists.proofs.InStep.{until-same}
use Rattle.lists.proofs.Tables.{length-table, get_d_table, table_cong}
use Rattle.lists.proofs.Permutations.{exchange_second, exchange_other, exchange_permutation}
use Rattle.lists.proofs.Cases.{cond_cases, lt_or_le}
use Rattle.rules.specs.Lowest.{reduced}
use Rattle.rules.specs.Block.{Block, block_step, block_start, block}
use Rattle.rules.specs.Search.{Work, Hit, work_of, same, reach_by, join, count_one, after_lowering, scan_column, scan_row, scan, last_free, fresh_block, after_scan, after_block, search_block, search_blocks, search_start, found_at, search}
use Rattle.rules.proofs.Block.{block_of_minima}
use Rattle.rules.proofs.FreeColumns.{Sought, last_free_sought}
use Rattle.rules.proofs.Scan.{place, far}

-- The columns in some order, and those of a block that starts at lo are paired.
pub record InBlock (n : ℕ) (row : ℕ → ℕ) (lo : ℕ) (w : Work) : Type 0 where
  pub permutation : Permutation n w.list
  pub few : w.hi ≤ n
  pub paired : (t : ℕ) → lo ≤ t → t < w.hi → row (place w t) < n

-- The same, while the columns from hi up to k have been seen.
record Seen (n : ℕ) (row : ℕ → ℕ) (lo k : ℕ) (w : Work) : Type 0 where
  in_block : InBlock n row lo w
  to : w.hi ≤ k

-- A result of which nothing is asked.
abbrev Any : {R : Type 0} → R → Type 0
Any r = Unit {0}

joined : (n : ℕ) (row : ℕ → ℕ) (lo k : ℕ) (w : Work) → Seen n row lo k w → k < n → row (place w k) < n → Seen n row lo (suc k) (join w k)
joined n row lo k w S l h =
    let P = S.in_block.permutation in
    let b = w.hi in
    let lb : b < n = omega (arith, S.to) in
    let size : length w.list ≡ n = P.size in
    record {
      in_block = record {
        permutation = exchange_permutation P k b l lb;
        few = omega arith;
        paired = λ t a m. elim (ℕ_discrete t b) [
          | yes z ↦ subst (λ (y : ℕ). row (place (join w k) y) < n) (sym z)
              (subst (λ (y : ℕ). row y < n) (sym (exchange_second w.list k b (omega arith))) h)
          | no d ↦ subst (λ (y : ℕ). row y < n) (sym (exchange_other w.list k b t (λ z. omega (arith, S.to)) d)) (S.in_block.paired t a (omega arith))
        ];
      };
      to = omega (arith, S.to);
    }

-- Whatever costs and prices are, a scan keeps what is said above.
module _ (n : ℕ) (cost : ℕ → ℕ → ℤ) (v : ℕ → ℤ) (row : ℕ → ℕ) (lo : ℕ) where
  column_keeps : (minimum h : ℤ) (i k : ℕ) (w : Work) → Seen n row lo k w → k < n → Either (Seen n row lo (suc k)) Any (scan_column n cost v row minimum h i k w)
  column_keeps minimum h i k w S l =
      cond_cases (lt_z x (far w j)) G (after_lowering n row minimum k j x q) (on w)
      (λ a. cond_cases (same x minimum) G (cond (ltb (row j) n) (on (join q k)) (left (record { column = j; work = q }))) (on q)
      (λ b. cond_cases (ltb (row j) n) G (on (join q k)) (left (record { column = j; work = q }))
      (λ d. goes_on (joined n row lo k q reached l (ltb-true (row j) n d)))
      (λ d. is_left_lem tt))
      (λ b. goes_on (more q reached)))
      (λ a. goes_on (more w S))
    where
      G : Turn Work Hit → Type 0
      G = Either (Seen n row lo (suc k)) Any

      j : ℕ
      j = place w k

      x : ℤ
      x = reduced cost v i j -ℤ h

      q : Work
      q = reach_by w i j x

      reached : Seen n row lo k q
      reached = record {
        in_block = record { permutation = S.in_block.permutation; few = S.in_block.few; paired = S.in_block.paired };
        to = S.to;
      }

      more : (y : Work) → Seen n row lo k y → Seen n row lo (suc k) y
      more y M = record { in_block = M.in_block; to = omega (arith, M.to) }

-- From place n on there is no block and no scan.
block_past : (n : ℕ) (d : List ℤ) (lo : ℕ) (list : List ℕ) → n ≤ lo → (block n d lo list).list ≡ list
unfolding block
block_past n d lo list h = ap (λ (b : Block). b.list) (upward_none (lo + 1) n (block_step d lo) (block_start d lo list) (omega arith))

scan_past : (n : ℕ) (cost : ℕ → ℕ → ℤ) (v : ℕ → ℤ) (row : ℕ → ℕ) (lo : ℕ) (w : Work) → n ≤ lo → scan n cost v row lo w ≡ on w
unfolding scan
scan_past n cost v row lo w h = until_none lo n (λ k x. cond (ltb k x.hi) (scan_row n cost v row k x) (on x)) w h

module _ (n : ℕ) (cost cost' : ℕ → ℕ → ℤ) (v v' : ℕ → ℤ) (row : ℕ → ℕ)
    (E : (i j : ℕ) → i < n → j < n → reduced cost v i j ≡ reduced cost' v' i j) where
  column_same : (minimum h : ℤ) (i k : ℕ) (w : Work) → i < n → Permutation n w.list → k < n
      → scan_column n cost v row minimum h i k w ≡ scan_column n cost' v' row minimum h i k w
  column_same minimum h i k w li P l =
      let j = place w k in
      ap (λ (y : ℤ). cond (lt_z (y -ℤ h) (far w j)) (after_lowering n row minimum k j (y -ℤ h) (reach_by w i j (y -ℤ h))) (on w)) (E i j li (P.injective.below k l))

  row_same : (lo k : ℕ) (w : Work) → InBlock n row lo w → lo ≤ k → k < w.hi
      → Either (InBlock n row lo) Any (scan_row n cost v row k w) × (scan_row n cost v row k w ≡ scan_row n cost' v' row k w)
  row_same lo k w B a l =
      let j = place w k in
      let m = far w j in
      let lj : j < n = B.permutation.injective.below k (omega (arith, B.few)) in
      let li : row j < n = B.paired k a l in
      let h = reduced cost v (row j) j -ℤ m in
      let r = until-same (Seen n row lo) Any w.hi n (scan_column n cost v row m h (row j)) (scan_column n cost' v' row m h (row j)) (count_one w) B.few
      (record { in_block = record { permutation = B.permutation; few = B.few; paired = B.paired }; to = omega arith })
      (λ t x b c S. (column_keeps n cost v row lo m h (row j) t x S c, column_same m h (row j) t x li S.in_block.permutation c)) in (
        either_map r.0 (λ x S. S.in_block) (λ y q. q),
        r.1 ∙ ap (λ (y : ℤ). until w.hi n (scan_column n cost' v' row m (y -ℤ m) (row j)) (count_one w)) (E (row j) j li lj),
      )

  scan_same : (lo : ℕ) (w : Work) → InBlock n row lo w → lo ≤ n
      → Either (InBlock n row lo) Any (scan n cost v row lo w) × (scan n cost v row lo w ≡ scan n cost' v' row lo w)
  unfolding scan
  scan_same lo w B l =
      until-same (λ k. InBlock n row lo) Any lo n (λ k x. cond (ltb k x.hi) (scan_row n cost v row k x) (on x))
      (λ k x. cond (ltb k x.hi) (scan_row n cost' v' row k x) (on x)) w l B
      (λ k x a m D. turn k x a D (lt_or_le k x.hi))
    where
      turn : (k : ℕ) (x : Work) → lo ≤ k → InBlock n row lo x → (k < x.hi) ⊎ (x.hi ≤ k)
          → Either (InBlock n row lo) Any (cond (ltb k x.hi) (scan_row n cost v row k x) (on x))
          × (cond (ltb k x.hi) (scan_row n cost v row k x) (on x) ≡ cond (ltb k x.hi) (scan_row n cost' v' row k x) (on x))
      turn k x a D (inl h) = rw (lt-ltb k x.hi h) (row_same lo k x D a h)
      turn k x a D (inr h) = rw (le-ltb k x.hi h) (goes_on D, refl)

  -- ---- one block

  -- Between two blocks.
  abbrev Listed : Work → Type 0
  Listed w = Permutation n w.list

  after : (lo hi : ℕ) (t : Turn Work Hit) → Either (InBlock n row lo) Any t → Either Listed Any (after_scan lo hi t)
  after lo hi (on x) (goes_on B) = goes_on B.permutation
  after lo hi (left h) (is_left_lem q) = is_left_lem q

  block_same : (w : Work) → Listed w → Either Listed Any (search_block n cost v row w) × (search_block n cost v row w ≡ search_block n cost' v' row w)
  block_same w P = elim (lt_or_le w.hi n) [ inl l ↦ within l | inr l ↦ past l ]
    where
      q : Work
      q = fresh_block n w.hi w

      Goal : Option ℕ → Type 0
      Goal o = Either Listed Any (after_block n cost v row w.hi q o) × (after_block n cost v row w.hi q o ≡ after_block n cost' v' row w.hi q o)

      within : w.hi < n → Goal (last_free n row q.list w.hi q.hi)
      within l =
          let B = block_of_minima n w.distances w.hi w.list P l in
          by (last_free n row q.list w.hi q.hi) (last_free_sought n row q.list w.hi q.hi (omega (arith, B.order)))
        where
          by : (o : Option ℕ) → Sought n row q.list w.hi q.hi o → Goal o
          by (Some j) S = (is_left_lem tt, refl)
          by None S =
              let B = block_of_minima n w.distances w.hi w.list P l in
              let r = scan_same w.hi q (record { permutation = B.permutation; few = omega (arith, B.order); paired = S }) (omega arith) in
              (after w.hi q.hi (scan n cost v row w.hi q) r.0, ap (after_scan w.hi q.hi) r.1)

      -- No place is left, and nothing is scanned.
      past : n ≤ w.hi → Goal (last_free n row q.list w.hi q.hi)
      past l = by (last_free n row q.list w.hi q.hi)
        where
          by : (o : Option ℕ) → Goal o
          by (Some j) = (is_left_lem tt, refl)
          by None = (
            subst (λ (t : Turn Work Hit). Either Listed Any (after_scan w.hi q.hi t)) (sym (scan_past n cost v row w.hi q l))
                (goes_on (subst (Permutation n) (sym (block_past n w.distances w.hi w.list l)) P)),
            ap (after_scan w.hi q.hi) (scan_past n cost v row w.hi q l ∙ sym (scan_past n cost' v' row w.hi q l)),
          )

  -- ---- the search

  pub search_same : (s : ℕ) → s < n → search n cost v row s ≡ search n cost' v' row s
  unfolding search search_blocks
  search_same s l =
      ap found_at
      (until-same (λ k. Listed) Any 0 n (λ k x. search_block n cost v row x) (λ k x. search_block n cost' v' row x) (search_start n cost v row s) (omega arith) start
      (λ k x a m P. block_same x P)).1
      ∙ ap (λ (d : List ℤ). found_at (until 0 n (λ k x. search_block n cost' v' row x) (work_of 0 (table n (λ j. j)) d (table n (λ j. s)) 0)))
      (table_cong n (reduced cost v s) (reduced cost' v' s) (λ j m. E s j l m))
    where
      own : (i : ℕ) → i < n → at (table n (λ j. j)) i ≡ i
      own i m = get_d_table n (λ j. j) 0 i m

      start : Permutation n (table n (λ j. j))
      start = record {
        size = length-table n (λ j. j);
        injective = record { below = λ i m. omega (arith, own i m); once = λ i k m h e. omega (arith, own i m, own k h) };
      }
