-- One row gets its column, over plain variables: a row that can get one can be searched from, the pairs can flip back from what was found, and what
-- a search or a direct hit leaves is the definition's. Assumes nothing.
use mathlib.Core.Path.{◌≡◌, refl, sym, ap, ap₂, ◌∙◌, subst}
use mathlib.Core.Bool.{Bool, true, false, cond, true≢false}
use mathlib.Core.Logic.{⊎_elim}
use mathlib.Core.List.{List}
use Prim.Native.Nat.{ℕ, ◌+◌, ◌<◌}
use native.Mathlib.Nat.{add-zero}
use native.Mathlib.Omega.{arith}
use borrow.Author.Tests.{ltb-false, le-ltb}
use lib.IntN.{ℤ, ◌-ℤ◌}
use lib.Signed.{◌≤ℤ◌, le_z}
use lib.ListN.{length, set}
use lib.Dec.{ltb}
use Rattle.std.specs.Prelude.{Some}
use Rattle.ints.proofs.Orders.{le_z_true, le_z_false}
use Rattle.ints.proofs.Ranges.{zarith}
use Rattle.lists.specs.Permutations.{at}
use Rattle.lists.proofs.Injections.{reached}
use Rattle.assignment.specs.Pairings.{signed_at, square}
use Rattle.rules.specs.declared.Reached.{Reached}
use Rattle.rules.specs.Lowest.{reduced, lowest}
use Rattle.rules.specs.Columns.{Pairs}
use Rattle.rules.specs.Search.{Found}
use Rattle.rules.specs.Augmentation.{flips, flipped, Progress}
use Rattle.rules.specs.Asked.{Can}
use Rattle.rules.proofs.Pairs.{free_column}
use Rattle.rules.proofs.Lowest.{lowest_is}
use Rattle.rules.proofs.Scan.{place}
use Rattle.rules.proofs.Search.{Ended}
use Rattle.rules.proofs.Flips.{flips_left}
use Rattle.rules.proofs.Augment.{one, floor_of, found_good, Tree, rank, rooted, flipping, column_below}
use Rattle.rules.proofs.DirectHit.{Hits, augment_hits}
use Rattle.augmentation.specs.Search.{CanSearch, Searched, found_from}
use Rattle.augmentation.specs.DirectHit.{reduced_of, free_at, LastOf}
use Rattle.augmentation.specs.Augmentation.{pairs_of, open_at, CanFlip, state_of, CanAugmentRow, RowAugmented}
use Rattle.augmentation.proofs.Scan.{row_cost}

-- The two flags of a test that holds, and of one that fails.
both : (t u : Bool) → cond t false u ≡ true → (t ≡ false) × (u ≡ true)
both true u e = absurd (true≢false (sym e))
both false u e = (refl, e)

second_fails : (t u : Bool) → cond t false u ≡ false → t ≡ false → u ≡ false
second_fails true u e q = absurd (true≢false q)
second_fails false u e q = e

module _ {n : ℕ} {costs : List ℤ} {s : ℕ} {cols rows : List ℕ} {v d : List ℤ} {list predecessors : List ℕ} (R : CanAugmentRow n costs s cols rows v d list predecessors) where
  abbrev cost : ℕ → ℕ → ℤ
  cost = (square n costs).cost

  abbrev x : Progress
  x = state_of cols rows v 0

  C : Can n cost x s
  C = R.turn.can

  abbrev f : Found
  f = found_from n costs rows s v

  pub can_search : CanSearch n costs rows s v
  can_search =
      let y = free_column n (pairs_of cols rows) C.agree s C.start_below C.start_unpaired in
      record {
        small = R.small;
        start_below = C.start_below;
        costs_size = R.costs_size;
        prices_size = C.prices_size;
        rows_size = C.agree.rows_size;
        costs_near = R.costs_near;
        prices_near = R.turn.prices_near;
        fair = C.fair;
        has_free = record { column = y.0; below = y.1; free = y.2 };
      }

  -- ---- by a search

  abbrev μ : ℤ
  μ = (found_good n cost x s C).0

  abbrev fl : ℤ
  fl = floor_of n cost (signed_at v) s (one n cost x s C)

  E : Ended n cost (signed_at v) (at rows) s fl f μ
  E = (found_good n cost x s C).1

  predecessors_size : length f.work.predecessors ≡ n
  predecessors_size = E.sound.predecessors_size

  -- The row that leads to a column is the start row, or that of a column.
  leads_below : (k : ℕ) → k < n → at f.work.predecessors k < n
  leads_below k l =
      let r = reached E.sound.permutation.injective k l in
      subst (λ (y : ℕ). at f.work.predecessors y < n) r.2 (go r.0 r.1)
    where
      go : (t : ℕ) → t < n → at f.work.predecessors (place f.work t) < n
      go t m = ⊎_elim (λ a. omega (arith, a.leads, C.start_below)) (λ a. omega (arith, a.3.leads, a.2.0)) (E.root t m)

  -- The pairs can flip back.
  can_flip : CanFlip n s f.column f.work.predecessors cols rows
  can_flip =
      let p = pairs_of cols rows in
      let ls = C.start_below in
      record {
        small = R.small;
        column_below = column_below n cost (signed_at v) p s fl ls f μ E;
        predecessors_size = predecessors_size;
        cols_size = C.agree.cols_size;
        rows_size = C.agree.rows_size;
        predecessors_below = leads_below;
        cols_below = C.agree.cols_below;
        whole = flipped (flips n s f.work.predecessors (open_at f.column cols rows));
        ends =
            flips_left n s ls f.work.predecessors p (Tree n cost (signed_at v) p s fl ls f μ E) (rank n cost (signed_at v) p s fl ls f μ E)
            (rooted n cost (signed_at v) p s fl ls f μ E) (open_at f.column cols rows) (flipping n cost (signed_at v) p s fl ls f μ E C.agree C.start_unpaired);
      }

  -- What a search leaves.
  module _ {r : Reached} {v' d' : List ℤ} {list' predecessors' : List ℕ} (S : Searched f v r v' d' list' predecessors') where
    pub way_back : CanFlip n s r.column predecessors' cols rows
    way_back = rw (S.predecessors_are, S.column) can_flip

    pub searched_row : {cols' rows' : List ℕ} → pairs_of cols' rows' ≡ flipped (flips n s predecessors' (open_at r.column cols rows))
        → RowAugmented n costs s cols rows v cols' rows' v' r.scanned
    searched_row {cols'} {rows'} e =
        let q : pairs_of cols' rows' ≡ flipped (flips n s f.work.predecessors (open_at f.column cols rows)) = rw (S.predecessors_are, S.column) at e in
        record {
          same = λ m.
              ap₂ (λ (p : Pairs) (k : ℕ). record { pairs = p; prices = v'; scanned = m + k }) q S.scanned
              ∙ ap (λ (y : List ℤ). record { pairs = flipped (flips n s f.work.predecessors (open_at f.column cols rows)); prices = y; scanned = m + f.work.scanned }) S.prices;
          few = omega (arith, S.scanned, E.counted_few);
        }

  -- ---- by a direct hit

  abbrev g : ℕ → ℤ
  g = reduced_of n costs v s

  module _ (j : ℕ) (H : LastOf n (free_at n g (at rows) (lowest n g).value) (Some j)) where
    g_is : (k : ℕ) → k < n → g k ≡ reduced cost (signed_at v) s k
    g_is k m = ap (λ (z : ℤ). z -ℤ signed_at v k) (sym (row_cost n costs s k m))

    abbrev low : ℤ
    low = (lowest n g).value

    held : (ltb (at rows j) n ≡ false) × (le_z (g j) low ≡ true)
    held = both (ltb (at rows j) n) (le_z (g j) low) H.1

    at_low : g j ≤ℤ low
    at_low = omega (zarith, le_z_true (g j) low held.1)

    hits : Hits n cost (signed_at v) (at rows) s j
    hits = record {
      below = H.0;
      free = ltb-false (at rows j) n held.0;
      least = λ k m. omega (zarith, at_low, (lowest_is n g (omega arith)).no_lower k m, g_is j H.0, g_is k m);
      last = λ k a m q.
          let e = second_fails (ltb (at rows k) n) (le_z (g k) low) (H.2 k a m) (le-ltb (at rows k) n q) in
          omega (zarith, at_low, le_z_false (g k) low e, g_is j H.0, g_is k m);
    }

    pub hit_row : RowAugmented n costs s cols rows v (set cols s j) (set rows j s) v 0
    hit_row = record {
      same = λ m. ap (λ (k : ℕ). state_of (set cols s j) (set rows j s) v k) (add-zero m) ∙ sym (augment_hits n cost (state_of cols rows v m) s j hits);
      few = omega (arith, H.0);
    }
