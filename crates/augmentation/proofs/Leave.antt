-- Where the search is left: what was found is what the search finds, and the prices can be changed. Assumes nothing.
use mathlib.Core.Path.{◌≡◌, sym, ap, ◌∙◌, subst}
use mathlib.Core.List.{List}
use Prim.Native.Nat.{ℕ}
use lib.IntN.{ℤ}
use lib.ListN.{length}
use Rattle.lists.specs.Runs.{Turn, left}
use Rattle.lists.specs.Permutations.{at}
use Rattle.assignment.specs.Pairings.{signed_at, square}
use Rattle.rules.specs.Lowest.{reduced, lowest}
use Rattle.rules.specs.Search.{Work, work_of, Found, found, search_blocks, search, found_at, new_prices}
use Rattle.rules.proofs.Scan.{Sound}
use Rattle.rules.proofs.Search.{Good, search_left, search_good}
use Rattle.rules.proofs.Augment.{floor_under}
use Rattle.augmentation.specs.Search.{CanSearch, CanChange, Started, Searched, ready_at}
use Rattle.augmentation.proofs.Loops.{one, distances_near, Leaving}

module _ (n : ℕ) (costs : List ℤ) (rows : List ℕ) (start : ℕ) (v : List ℤ) where
  abbrev cost : ℕ → ℕ → ℤ
  cost = (square n costs).cost

  abbrev floor : ℤ
  floor = (lowest n (reduced cost (signed_at v) start)).value

  abbrev blocks : ℕ → Work → Turn Work Found
  blocks m w = search_blocks n cost (signed_at v) (at rows) m w

  module _ (C : CanSearch n costs rows start v) where
    module _ {d₁ : List ℤ} {list₁ predecessors₁ : List ℕ} (T : Started n costs start v d₁ list₁ predecessors₁) {d : List ℤ} {list predecessors : List ℕ} {lo m column : ℕ}
        (L : Leaving n costs rows start v d₁ list₁ predecessors₁ d list predecessors lo m column) where
      abbrev f : Found
      f = found lo (record { lo = lo; hi = L.end }) column (work_of L.hi list d predecessors m)

      left_same : (x y : Found) → ◌≡◌ {A = Turn Work Found} (left x) (left y) → x ≡ y
      left_same x y e = ap (found_at) e

      -- What was found is what the search finds.
      found_is : f ≡ search n cost (signed_at v) (at rows) start
      found_is =
          left_same f (search n cost (signed_at v) (at rows) start)
          (sym L.same ∙ ap (blocks n) T.same
          ∙ search_left n cost (signed_at v) (at rows) start floor C.fair C.has_free.column C.has_free.below C.has_free.free
          (floor_under n cost (signed_at v) start (one n costs rows start v C)))

      good : Good n cost (signed_at v) (at rows) start floor f
      good =
          subst (Good n cost (signed_at v) (at rows) start floor) (sym found_is)
          (search_good n cost (signed_at v) (at rows) start floor C.fair C.has_free.column C.has_free.below C.has_free.free
          (floor_under n cost (signed_at v) start (one n costs rows start v C)))

      S : Sound n cost (signed_at v) (at rows) start floor f.work
      S = good.1.sound

      -- The prices can be changed.
      pub can_change : CanChange (length v) lo list d v
      can_change = rw C.prices_size (record {
        small = C.small;
        ready_below = good.1.ready_below;
        listed = S.permutation;
        distances_size = S.distances_size;
        distances_near = distances_near n costs rows start v C f.work S;
        prices_near = C.prices_near;
      })

      pub searched : (v' : List ℤ) → v' ≡ new_prices (ready_at lo list d) v
          → Searched (search n cost (signed_at v) (at rows) start) v (record { column = column; scanned = m }) v' d list predecessors
      unfolding new_prices
      searched v' e = record {
        column = ap (λ (x : Found). x.column) found_is;
        scanned = ap (λ (x : Found). x.work.scanned) found_is;
        prices = e ∙ ap (λ (x : Found). new_prices x v) found_is;
        distances = ap (λ (x : Found). x.work.distances) found_is;
        listed = ap (λ (x : Found). x.work.list) found_is;
        predecessors_are = ap (λ (x : Found). x.work.predecessors) found_is;
      }
