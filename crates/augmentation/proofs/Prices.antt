-- The price change of the ready columns: its turns, and how far the prices come, so that no sum wraps. Assumes nothing.
use mathlib.Core.Path.{◌≡◌, refl, sym, ap, ap₂, ◌∙◌, subst}
use mathlib.Core.List.{List}
use Prim.Native.Nat.{ℕ, suc, ◌+◌, ◌*◌, ◌^◌, ◌≤◌, ◌<◌}
use native.Mathlib.Numerals.{add-one}
use native.Mathlib.Omega.{arith}
use lib.IntN.{ℤ, pos, ◌+ℤ◌, ◌-ℤ◌}
use lib.ListN.{length, set, take, length-set}
use Rattle.std.proofs.lemmas.List.{length-take-le, get_or-take}
use lib.Seq.{get_or-set_same, get_or-set_other}
use mir.Syntax.{w64}
use mir.Val.{SFits, to_z, of_z}
use mir.Facts.{to_z-of_z}
use Rattle.ints.specs.Parts.{Within}
use Rattle.ints.proofs.Sums.{sum, dif}
use Rattle.ints.proofs.Shapes.{zlin}
use Rattle.lists.specs.Runs.{upward}
use Rattle.lists.proofs.Runs.{upward_none, upward-last, upward_keeps}
use Rattle.lists.specs.Permutations.{at}
use Rattle.lists.proofs.Cases.{here_or_elsewhere}
use Rattle.assignment.specs.Pairings.{signed_at}
use Rattle.matrix.specs.Limits.{near}
use Rattle.matrix.proofs.SmallLimits.{side_small}
use Rattle.rules.specs.Search.{add_distance, new_prices}
use Rattle.rules.proofs.Sizes.{within_everywhere}
use Rattle.augmentation.specs.Search.{ready_at, CanChange}

-- A store of a near number in a list of near numbers.
set_within : (b : ℕ) (l : List ℤ) (j : ℕ) (x : ℤ) → ((k : ℕ) → Within b (signed_at l k)) → Within b x → (k : ℕ) → Within b (signed_at (set l j x) k)
set_within b l j x h w =
    within_everywhere b (set l j x)
    (here_or_elsewhere (λ k. k < length (set l j x) → Within b (signed_at (set l j x) k)) j
    (λ s. let a : j < length l = omega (arith, length-set l j x) in rw (get_or-set_same l j x (pos 0) a) w)
    (λ k d s. rw (get_or-set_other l j k x (pos 0) d) (h k)))

module _ (list : List ℕ) (d : List ℤ) (minimum : ℤ) (v₀ : List ℤ) where
  -- The prices after the first k columns.
  abbrev pub prices : ℕ → List ℤ
  prices k = upward 0 k (λ k. add_distance d minimum (at list k)) v₀

  prices_length : (k : ℕ) → length (prices k) ≡ length v₀
  prices_length k =
      upward_keeps (λ m v. length v ≡ length v₀) 0 k (λ m. add_distance d minimum (at list m)) v₀ (omega arith) refl
      (λ m v l g e. length-set v (at list m) (signed_at v (at list m) +ℤ (signed_at d (at list m) -ℤ minimum)) ∙ e)

  prices_within_lem : ((j : ℕ) → Within near (signed_at v₀ j)) → ((j : ℕ) → Within (2 * near) (signed_at d j)) → Within (2 * near) minimum
      → (k j : ℕ) → Within (near * (4 * k + 1)) (signed_at (prices k) j)
  prices_within_lem h g m k =
      upward_keeps (λ i v. (j : ℕ) → Within (near * (4 * i + 1)) (signed_at v j)) 0 k (λ i. add_distance d minimum (at list i)) v₀ (omega arith) (λ j. h j)
      (λ i v l u w. set_within (near * (4 * suc i + 1)) v (at list i) (signed_at v (at list i) +ℤ (signed_at d (at list i) -ℤ minimum))
      (λ j. let x = w j in omega arith) (added_within i (signed_at v (at list i)) (signed_at d (at list i)) (w (at list i)) (g (at list i))))
    where
      added_within : (i : ℕ) (x y : ℤ) → Within (near * (4 * i + 1)) x → Within (2 * near) y → Within (near * (4 * suc i + 1)) (x +ℤ (y -ℤ minimum))
      added_within i x y a b = omega (zlin, dif y minimum, sum x (y -ℤ minimum), m)

module _ (x y m : ℤ) (a : Within (2 * near) y) (b : Within (2 * near) m) where
  near_fits : SFits w64 y
  near_fits = omega (zlin, a)

  near_difference : SFits w64 (y -ℤ m)
  near_difference = omega (zlin, a, b)

  near-sum : Within (2 ^ 60) x → SFits w64 (x +ℤ (y -ℤ m))
  near-sum w = omega (zlin, a, b, dif y m)

prices_wide : (k : ℕ) (z : ℤ) → k < 2 ^ 16 → Within (near * (4 * k + 1)) z → Within (2 ^ 60) z
prices_wide k z s w = omega arith

-- The first k ready columns have their new prices.
pub record Changing (n lo : ℕ) (list : List ℕ) (d v₀ : List ℤ) (minimum : ℤ) (v : List ℤ) (k : ℕ) : Type 0 where
  pub can : CanChange n lo list d v₀
  pub prices_size : length v₀ ≡ n
  pub minimum_within : Within (2 * near) minimum
  pub reach : k ≤ lo
  pub so_far : v ≡ prices list d minimum v₀ k

module _ {n lo : ℕ} {list : List ℕ} {d v : List ℤ} (can : CanChange n lo list d v) where
  -- The last block's minimum, as code reads it.
  abbrev minimum_read : ℤ
  minimum_read = to_z w64 (of_z w64 (signed_at d (at list lo)))

  pub minimum_is : to_z w64 (of_z w64 (signed_at d (at list lo))) ≡ signed_at d (at list lo)
  minimum_is = let f : SFits w64 (signed_at d (at list lo)) = omega (zlin, can.distances_near (at list lo)) in to_z-of_z f

  pub first_change : length v ≡ n → Changing n lo list d v (to_z w64 (of_z w64 (signed_at d (at list lo)))) v 0
  first_change size = record {
    can = can;
    prices_size = size;
    minimum_within = subst (Within (2 * near)) (sym minimum_is) (can.distances_near (at list lo));
    reach = omega arith;
    so_far = sym (upward_none 0 0 (λ k. add_distance d minimum_read (at list k)) v (omega arith));
  }

module _ {n lo : ℕ} {list : List ℕ} {d v₀ : List ℤ} {minimum : ℤ} {v : List ℤ} {k : ℕ} (C : Changing n lo list d v₀ minimum v k) where
  pub size : length v ≡ n
  size = ap length C.so_far ∙ prices_length list d minimum v₀ k ∙ C.prices_size

  listed_length : length (take lo list) ≡ lo
  listed_length = length-take-le lo list (omega (arith, C.can.ready_below, C.can.listed.size))

  pub changed : length (take lo list) ≤ k → minimum ≡ signed_at d (at list lo) → v ≡ new_prices (ready_at lo list d) v₀
  unfolding new_prices
  changed l e =
      let z : k ≡ lo = omega (arith, C.reach, listed_length) in
      C.so_far ∙ ap (prices list d minimum v₀) z ∙ ap (λ (m : ℤ). prices list d m v₀ lo) e

  -- The next ready column, as code reads it.
  module _ (l : k < length (take lo list)) where
    abbrev j : ℕ
    j = at (take lo list) k

    below : k < lo
    below = omega (arith, listed_length)

    listed : j ≡ at list k
    listed = get_or-take lo list k 0 below

    abbrev x : ℤ
    x = signed_at v j

    abbrev y : ℤ
    y = signed_at d j

    x_within : Within (2 ^ 60) x
    x_within =
        subst (λ (s : List ℤ). Within (2 ^ 60) (signed_at s j)) (sym C.so_far)
        (prices_wide k (signed_at (prices list d minimum v₀ k) j) (omega (arith, below, C.can.ready_below, C.can.small, side_small))
        (prices_within_lem list d minimum v₀ C.can.prices_near C.can.distances_near C.minimum_within k j))

    x_fits : SFits w64 x
    x_fits = omega (zlin, x_within)

    y_fits : SFits w64 y
    y_fits = near_fits x y minimum (C.can.distances_near j) C.minimum_within

    difference_fits : SFits w64 (y -ℤ minimum)
    difference_fits = near_difference x y minimum (C.can.distances_near j) C.minimum_within

    sum_fits : SFits w64 (x +ℤ (y -ℤ minimum))
    sum_fits = near-sum x y minimum (C.can.distances_near j) C.minimum_within x_within

    pub add_fits : SFits w64 (to_z w64 (of_z w64 x) +ℤ to_z w64 (of_z w64 (to_z w64 (of_z w64 y) -ℤ minimum)))
    add_fits = rw (to_z-of_z x_fits, to_z-of_z y_fits, to_z-of_z difference_fits) sum_fits

    pub next : Changing n lo list d v₀ minimum (set v j (to_z w64 (of_z w64 (to_z w64 (of_z w64 x) +ℤ to_z w64 (of_z w64 (to_z w64 (of_z w64 y) -ℤ minimum)))))) (k + 1)
    next = record {
      can = C.can;
      prices_size = C.prices_size;
      minimum_within = C.minimum_within;
      reach = omega (arith, below);
      so_far =
          rw (to_z-of_z x_fits, to_z-of_z y_fits, to_z-of_z difference_fits, to_z-of_z sum_fits, add-one k)
          (ap₂ (add_distance d minimum) listed C.so_far ∙ sym (upward-last 0 k (λ i. add_distance d minimum (at list i)) v₀ (omega arith)));
    }
