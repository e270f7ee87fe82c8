-- The turns of the loops over a block: a column restarts the block or joins it, and those above its minimum are passed by; and a column of a
-- fresh block is free or taken. Assumes nothing.
use mathlib.Core.Path.{◌≡◌, sym, ap, ◌∙◌}
use mathlib.Core.Bool.{true, false}
use mathlib.Core.List.{List}
use Prim.Native.Nat.{ℕ, ◌+◌, ◌≤◌, ◌<◌}
use native.Mathlib.Numerals.{add-one}
use native.Mathlib.Omega.{arith}
use lib.IntN.{ℤ}
use lib.Signed.{lt_z, le_z}
use lib.ListN.{length}
use Rattle.std.specs.List.{swap}
use Rattle.std.proofs.lemmas.List.Edits.{swap_is}
use Rattle.ints.proofs.Shapes.{zlin}
use Rattle.lists.specs.Runs.{upward}
use Rattle.lists.proofs.Runs.{upward_none, upward-last, upward_stays}
use Rattle.lists.specs.Permutations.{at, exchange, Permutation}
use Rattle.lists.proofs.Permutations.{exchange_permutation}
use Rattle.assignment.specs.Pairings.{signed_at}
use Rattle.rules.specs.Block.{Block, block_step, block_start, block}
use Rattle.augmentation.specs.Block.{distance_at}

abbrev block_of : ℕ → ℤ → List ℕ → Block
block_of hi minimum list = record { hi = hi; minimum = minimum; list = list }

-- The places from lo up to k have been passed.
pub record Blocked (n lo : ℕ) (d : List ℤ) (list₀ list : List ℕ) (hi : ℕ) (minimum : ℤ) (k : ℕ) : Type 0 where
  pub past : lo < k
  pub within : k ≤ n
  pub listed : Permutation n list
  pub block_end : (lo < hi) × (hi ≤ k)
  pub same : block_of hi minimum list ≡ upward (lo + 1) k (block_step d lo) (block_start d lo list₀)

pub first_block : (n lo : ℕ) (d : List ℤ) (list : List ℕ) (minimum : ℤ) → Permutation n list → lo < n → minimum ≡ signed_at d (at list lo)
    → Blocked n lo d list list (lo + 1) minimum (lo + 1)
first_block n lo d list minimum p l e = record {
  past = omega arith;
  within = omega arith;
  listed = p;
  block_end = omega arith;
  same = ap (λ (x : ℤ). block_of (lo + 1) x list) e ∙ sym (upward_none (lo + 1) (lo + 1) (block_step d lo) (block_start d lo list) (omega arith));
}

module _ {n lo : ℕ} {d : List ℤ} {list₀ list : List ℕ} {hi : ℕ} {minimum : ℤ} {k : ℕ} (B : Blocked n lo d list₀ list hi minimum k) where
  -- After the last place.
  pub whole-block : n ≤ k → block_of hi minimum list ≡ block n d lo list₀
  unfolding block
  whole-block l = let e : k ≡ n = omega (arith, B.within) in B.same ∙ ap (λ (m : ℕ). upward (lo + 1) m (block_step d lo) (block_start d lo list₀)) e

  -- The places up to r are above the minimum.
  pub pass_by : (r : ℕ) → k ≤ r → r ≤ n → ((m : ℕ) → k ≤ m → m < r → false ≡ le_z (distance_at d list m) minimum) → Blocked n lo d list₀ list hi minimum r
  pass_by r on most passed = record {
    past = omega (arith, B.past);
    within = most;
    listed = B.listed;
    block_end = omega (arith, B.block_end);
    same =
        upward_stays (lo + 1) k r (block_step d lo) (block_start d lo list₀) (block_of hi minimum list) (omega (arith, B.past)) on B.same
        (λ m l h. rw (sym (passed m l h)));
  }

  module _ (l : k < n) where
    turn : block_step d lo k (block_of hi minimum list) ≡ upward (lo + 1) (k + 1) (block_step d lo) (block_start d lo list₀)
    turn =
        ap (block_step d lo k) B.same ∙ sym (upward-last (lo + 1) k (block_step d lo) (block_start d lo list₀) (omega (arith, B.past)))
        ∙ ap (λ (m : ℕ). upward (lo + 1) m (block_step d lo) (block_start d lo list₀)) (sym (add-one k))

    pub restart : lt_z (signed_at d (at list k)) minimum ≡ true → true ≡ le_z (signed_at d (at list k)) minimum
        → Blocked n lo d list₀ (exchange list k lo) (lo + 1) (signed_at d (at list k)) (k + 1)
    restart e f = record {
      past = omega (arith, B.past);
      within = omega arith;
      listed = exchange_permutation B.listed k lo l (omega (arith, B.past));
      block_end = omega (arith, B.past);
      same = rw (sym f, e) at turn;
    }

    pub join : lt_z (signed_at d (at list k)) minimum ≡ false → true ≡ le_z (signed_at d (at list k)) minimum
        → Blocked n lo d list₀ (exchange list k hi) (hi + 1) minimum (k + 1)
    join e f =
        let le : le_z (signed_at d (at list k)) minimum ≡ true = sym f in
        let z : signed_at d (at list k) ≡ minimum = omega zlin in
        record {
          past = omega (arith, B.past);
          within = omega arith;
          listed = exchange_permutation B.listed k hi l (omega (arith, B.block_end));
          block_end = omega (arith, B.block_end);
          same = ap (λ (x : ℤ). block_of (hi + 1) x (exchange list k hi)) (sym z) ∙ (rw (sym f, e) at turn);
        }

-- What `swap` leaves is the exchange of the definition.
pub swapped : (l : List ℕ) (a b : ℕ) → a < length l → b < length l → swap l a b ≡ exchange l a b
swapped l a b ha hb = sym (swap_is l a b 0 ha hb)

-- The same, at equal values.
pub blocked_at : {n lo : ℕ} {d : List ℤ} {list₀ list : List ℕ} {hi : ℕ} {minimum : ℤ} {k : ℕ} → Blocked n lo d list₀ list hi minimum k
    → {list' : List ℕ} {hi' : ℕ} {minimum' : ℤ} → list' ≡ list → hi' ≡ hi → minimum' ≡ minimum → Blocked n lo d list₀ list' hi' minimum' k
blocked_at B a b c = rw (a, b, c) B
