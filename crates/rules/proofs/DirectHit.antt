-- Rule 5, a direct hit: where a free column stands at the start row's least reduced cost, the search ends in its first block, at the last such
-- column, with no column scanned and no price changed; and the start row takes that column. Assumes nothing.
use mathlib.Core.Path.{◌≡◌, refl, sym, ap, ◌∙◌, subst}
use mathlib.Core.Logic.{◌≢◌, inl, inr}
use mathlib.Core.Bool.{cond}
use mathlib.Core.List.{List}
use Prim.Native.Nat.{ℕ, suc, ◌+◌, ◌≤◌, ◌<◌}
use native.Mathlib.Decide.{ℕ_discrete}
use native.Mathlib.Nat.{add-zero}
use native.Mathlib.Omega.{arith}
use borrow.Author.Tests.{lt-ltb, le-ltb, eq-eqb}
use lib.IntN.{ℤ, pos}
use lib.Signed.{◌≤ℤ◌, ◌<ℤ◌, lt_z, le_z}
use lib.ListN.{length}
use lib.Dec.{ltb}
use Rattle.std.specs.Prelude.{Option, Some, None}
use Rattle.ints.proofs.Ranges.{zarith}
use Rattle.lists.specs.Runs.{Turn, left, and_then, upward, until}
use Rattle.lists.specs.Permutations.{at, table, exchange}
use Rattle.lists.proofs.Runs.{upward_none, upward-last, upward_keeps, upward_stays, until-first}
use Rattle.lists.proofs.Tables.{length-table, get_d_table}
use Rattle.lists.proofs.Permutations.{length-exchange, exchange_second, exchange_other}
use Rattle.lists.proofs.Cases.{cond_cases, below_suc, lt_or_le}
use Rattle.assignment.specs.Pairings.{signed_at}
use Rattle.rules.specs.Lowest.{reduced}
use Rattle.rules.specs.Block.{Block, block_with, block_step, block_start, block}
use Rattle.rules.specs.Search.{Work, Found, last_free, fresh_block, found, after_block, search_block, search_blocks, search_start, found_at, search, new_prices, add_distance}
use Rattle.rules.specs.Rows.{take_column}
use Rattle.rules.specs.Augmentation.{flip, flips, Progress, augment_by, augment}
use Rattle.rules.specs.Columns.{Pairs}

-- ---- the first block

module _ (n : ℕ) (d : List ℤ) where
  -- The places before k of a list that was 0, 1, .., n - 1 have been passed: the block has the columns at the minimum, in rising order.
  record Rising (k : ℕ) (b : Block) : Type 0 where
    size : length b.list ≡ n
    order : (0 < b.hi) × (b.hi ≤ k) × (k ≤ n)
    ahead : (t : ℕ) → k ≤ t → t < n → at b.list t ≡ t
    least : (j : ℕ) → j < k → b.minimum ≤ℤ signed_at d j
    passed : (t : ℕ) → t < b.hi → at b.list t < k
    level : (t : ℕ) → t < b.hi → signed_at d (at b.list t) ≡ b.minimum
    rises : (t u : ℕ) → t < u → u < b.hi → at b.list t < at b.list u
    listed : (j : ℕ) → j < k → signed_at d j ≡ b.minimum → (t : ℕ) × (t < b.hi) × (at b.list t ≡ j)

  -- Column k joins the block at place p, and the columns of its distance before it are those before place p.
  rising_joined : (k p : ℕ) (b : Block) → Rising k b → k < n → p ≤ b.hi → signed_at d k ≤ℤ b.minimum → ((t : ℕ) → t < p → b.minimum ≡ signed_at d k)
      → ((j : ℕ) → j < k → signed_at d j ≡ signed_at d k → (t : ℕ) × (t < p) × (at b.list t ≡ j))
      → Rising (suc k) (block_with b k (signed_at d k) p)
  rising_joined k p b R l g e same were =
      let xs = b.list in
      let ys = exchange xs k p in
      let here : at ys p ≡ k = exchange_second xs k p (omega (arith, R.size, R.order)) ∙ R.ahead k (omega arith) l in
      let other : (t : ℕ) → t ≢ k → t ≢ p → at ys t ≡ at xs t = exchange_other xs k p in
      let front : (t : ℕ) → t < p → at ys t ≡ at xs t = λ t m. other t (λ z. omega (arith, R.order)) (λ z. omega arith) in
      record {
        size = length-exchange xs k p ∙ R.size;
        order = omega (arith, R.order);
        ahead = λ t a m. other t (λ z. omega arith) (λ z. omega (arith, R.order)) ∙ R.ahead t (omega arith) m;
        least = below_suc (λ j. signed_at d k ≤ℤ signed_at d j) (λ j m. omega (zarith, R.least j m)) (omega zarith);
        passed = λ t m. elim (ℕ_discrete t p) [
          | yes z ↦ omega (arith, ap (at ys) z, here)
          | no z ↦ omega (arith, front t (omega arith), R.passed t (omega arith))
        ];
        level = λ t m. elim (ℕ_discrete t p) [
          | yes z ↦ ap (signed_at d) (ap (at ys) z ∙ here)
          | no z ↦ ap (signed_at d) (front t (omega arith)) ∙ R.level t (omega arith) ∙ same t (omega arith)
        ];
        rises = λ t u m a. elim (ℕ_discrete u p) [
          | yes z ↦ omega (arith, ap (at ys) z, here, front t (omega arith), R.passed t (omega arith))
          | no z ↦ omega (arith, front t (omega arith), front u (omega arith), R.rises t u m (omega arith))
        ];
        listed = below_suc (λ j. signed_at d j ≡ signed_at d k → (t : ℕ) × (t < p + 1) × (at ys t ≡ j))
            (λ j m q. let w = were j m q in (w.0, omega (arith, w.1), front w.0 w.1 ∙ w.2)) (λ q. (p, omega arith, here));
      }

  rising_more : (k : ℕ) (b : Block) → Rising k b → k < n → Rising (suc k) (block_step d 0 k b)
  rising_more k b R l = subst (λ (x : ℤ). Rising (suc k) (stepped x)) (sym (ap (signed_at d) (R.ahead k (omega arith) l))) by
    where
      -- the step of a column of distance x
      stepped : ℤ → Block
      stepped x = cond (le_z x b.minimum) (block_with b k x (cond (lt_z x b.minimum) 0 b.hi)) b

      h : ℤ
      h = signed_at d k

      by : Rising (suc k) (stepped h)
      by =
          cond_cases (le_z h b.minimum) (Rising (suc k)) (block_with b k h (cond (lt_z h b.minimum) 0 b.hi)) b
          (λ e. cond_cases (lt_z h b.minimum) (λ p. Rising (suc k) (block_with b k h p)) 0 b.hi
          (λ a. rising_joined k 0 b R l (omega arith) (omega zarith) (λ t m. absurd (omega arith))
          (λ j m q. absurd (omega (zarith, R.least j m, q))))
          (λ a. rising_joined k b.hi b R l (omega arith) (omega zarith) (λ t m. omega zarith)
          (λ j m q. R.listed j m (omega (zarith, q)))))
          (λ e. record {
            size = R.size;
            order = omega (arith, R.order);
            ahead = λ t a m. R.ahead t (omega arith) m;
            least = below_suc (λ j. b.minimum ≤ℤ signed_at d j) R.least (omega zarith);
            passed = λ t m. omega (arith, R.passed t m);
            level = R.level;
            rises = R.rises;
            listed = below_suc (λ j. signed_at d j ≡ b.minimum → (t : ℕ) × (t < b.hi) × (at b.list t ≡ j)) R.listed
                (λ q. absurd (omega (zarith, q)));
          })

  abbrev columns : List ℕ
  columns = table n (λ j. j)

  rising_first : 1 ≤ n → Rising 1 (block_start d 0 columns)
  rising_first l =
      let own : (t : ℕ) → t < n → at columns t ≡ t = get_d_table n (λ j. j) 0 in
      let zeroth : at columns 0 ≡ 0 = own 0 (omega arith) in
      record {
        size = length-table n (λ j. j);
        order = omega arith;
        ahead = λ t a m. own t m;
        least = λ j m. let e : j ≡ 0 = omega arith in rw (zeroth, e) (omega zarith);
        passed = λ t m. omega (arith, own t (omega arith));
        level = λ t m. let e : t ≡ 0 = omega arith in ap (λ (y : ℕ). signed_at d (at columns y)) e;
        rises = λ t u m a. absurd (omega arith);
        listed = λ j m q. (0, omega arith, let e : j ≡ 0 = omega arith in zeroth ∙ sym e);
      }

  block_rises : 1 ≤ n → Rising n (block n d 0 columns)
  unfolding block
  block_rises l = upward_keeps Rising 1 n (block_step d 0) (block_start d 0 columns) l (rising_first l) (λ k b a m R. rising_more k b R m)

-- ---- the search

module _ (n : ℕ) (cost : ℕ → ℕ → ℤ) (v : ℕ → ℤ) (row : ℕ → ℕ) (s : ℕ) where
  -- Column j is free and no column's reduced cost in row s is below its own; no later column is free at that cost.
  pub record Hits (j : ℕ) : Type 0 where
    pub below : j < n
    pub free : n ≤ row j
    pub least : (k : ℕ) → k < n → reduced cost v s j ≤ℤ reduced cost v s k
    pub last : (k : ℕ) → j < k → k < n → n ≤ row k → reduced cost v s j <ℤ reduced cost v s k

  module _ (j : ℕ) (H : Hits j) where
    abbrev w : Work
    w = search_start n cost v row s

    abbrev b : Block
    b = block n w.distances 0 w.list

    R : Rising n w.distances n b
    R = block_rises n w.distances (omega (arith, H.below))

    far : (k : ℕ) → k < n → signed_at w.distances k ≡ reduced cost v s k
    far k l = get_d_table n (reduced cost v s) (pos 0) k l

    -- The block's minimum is the reduced cost of column j.
    minimum_is : signed_at w.distances j ≡ b.minimum
    minimum_is =
        let first = at b.list 0 in
        let l : first < n = R.passed 0 R.order.0 in
        omega (zarith, R.least j H.below, R.level 0 R.order.0, far first l, far j H.below, H.least first l)

    place : (t : ℕ) × (t < b.hi) × (at b.list t ≡ j)
    place = R.listed j H.below minimum_is

    -- No column of the block after column j is free.
    rest_taken : (t : ℕ) → place.0 < t → t < b.hi → row (at b.list t) < n
    rest_taken t a m = elim (lt_or_le (row k) n) [
      | inl l ↦ l
      | inr l ↦ absurd (omega (zarith, H.last k later lk l, far k lk, far j H.below, R.level t m, minimum_is))
    ]
      where
        k : ℕ
        k = at b.list t

        lk : k < n
        lk = R.passed t m

        later : j < k
        later = omega (arith, place.2, R.rises place.0 t a m)

    last_free_is : last_free n row b.list 0 b.hi ≡ Some j
    unfolding last_free
    last_free_is =
        let t = place.0 in
        let f : ℕ → Option ℕ → Option ℕ = λ k found. cond (ltb (row (at b.list k)) n) found (Some (at b.list k)) in
        let e : upward 0 (suc t) f None ≡ Some j =
        upward-last 0 t f None (omega arith)
        ∙ ap (λ (y : ℕ). cond (ltb (row y) n) (upward 0 t f None) (Some y)) place.2 ∙ rw (le-ltb (row j) n H.free) in
        sym (upward_stays 0 (suc t) b.hi f None (Some j) (omega arith) (omega (arith, place.1)) (sym e)
        (λ k a m. rw (lt-ltb (row (at b.list k)) n (rest_taken k (omega arith) m))))

    -- THE SEARCH ends in its first block, at column j.
    pub search_hits : search n cost v row s ≡ found 0 (record { lo = 0; hi = b.hi }) j (fresh_block n 0 w)
    unfolding search search_blocks
    search_hits =
        ap found_at
        (until-first 0 n (λ k x. search_block n cost v row x) w (omega (arith, H.below))
        ∙ ap (λ (t : Turn Work Found). and_then t (until 1 n (λ k x. search_block n cost v row x)))
        (ap (after_block n cost v row 0 (fresh_block n 0 w)) last_free_is))

-- ---- the row

-- The one flip: the row of a predecessor list that is s everywhere takes the open column.
flips_once : (n s j : ℕ) (p : Pairs) → j < n → flips n s (table n (λ k. s)) (record { column = j; pairs = p }) ≡ left (take_column p s j)
unfolding flips
flips_once n s j p l =
    until-first 0 n (λ k. flip s (table n (λ k. s))) (record { column = j; pairs = p }) (omega arith)
    ∙ rw (get_d_table n (λ k. s) 0 j l, eq-eqb s s refl)

-- Where no column is ready the prices stay.
prices_kept : (f : Found) (v : List ℤ) → f.ready ≡ 0 → new_prices f v ≡ v
unfolding new_prices
prices_kept f v e =
    let w = f.work in
    upward_none 0 f.ready (λ k. add_distance w.distances (signed_at w.distances (at w.list f.cursor.lo)) (at w.list k)) v (omega arith)

-- THE ROW takes the column that is hit; prices and count stay.
module _ (n : ℕ) (cost : ℕ → ℕ → ℤ) (x : Progress) (s j : ℕ) (H : Hits n cost (signed_at x.prices) (at x.pairs.rows) s j) where
  -- what the search finds
  abbrev f : Found
  f =
      found 0 (record { lo = 0; hi = (b n cost (signed_at x.prices) (at x.pairs.rows) s j H).hi }) j
      (fresh_block n 0 (search_start n cost (signed_at x.prices) (at x.pairs.rows) s))

  pub augment_hits : augment n cost x s ≡ record { pairs = take_column x.pairs s j; prices = x.prices; scanned = x.scanned }
  augment_hits =
      ap (augment_by n x s) (search_hits n cost (signed_at x.prices) (at x.pairs.rows) s j H)
      ∙ rw (flips_once n s j x.pairs H.below, prices_kept f x.prices refl, add-zero x.scanned)
