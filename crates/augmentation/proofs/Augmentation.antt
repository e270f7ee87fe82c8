-- The turns of augmentation's loop, over plain variables: the next row can get its column, and the next state is the definition's. Assumes nothing.
use mathlib.Core.Path.{◌≡◌, sym, ap, ap₂, ◌∙◌, subst}
use mathlib.Core.List.{List}
use Prim.Native.Nat.{ℕ, ◌+◌, ◌*◌, ◌^◌, ◌≤◌, ◌<◌}
use native.Mathlib.Numerals.{add-one}
use native.Mathlib.Omega.{arith}
use lib.IntN.{ℤ}
use lib.ListN.{length, take}
use Rattle.std.proofs.lemmas.List.{length-take, get_or-take}
use Rattle.lists.proofs.Runs.{upward_none, upward-last}
use Rattle.lists.specs.Permutations.{at}
use Rattle.assignment.specs.Pairings.{square}
use Rattle.matrix.proofs.SmallLimits.{side_small}
use Rattle.rules.specs.Augmentation.{Progress, augment, augments, augmentation}
use Rattle.augmentation.specs.Room.{frees_in, marks_in}
use Rattle.augmentation.specs.Augmentation.{state_of, CanTurn, CanAugmentRow, RowAugmented, CanAugment, Augmented}

-- The first k rows of the list have their columns.
pub record Augmenting (n : ℕ) (costs : List ℤ) (count : ℕ) (cols₀ rows₀ : List ℕ) (v₀ d₀ : List ℤ) (room₀ cols rows : List ℕ) (v d : List ℤ) (list predecessors : List ℕ)
    (scanned k : ℕ) : Type 0 where
  pub can : CanAugment n costs count cols₀ rows₀ v₀ d₀ room₀
  pub reach : k ≤ count
  pub same : state_of cols rows v scanned ≡ augments n (square n costs).cost (frees_in n room₀) k (state_of cols₀ rows₀ v₀ 0)
  pub sizes : (length d ≡ n) × (length list ≡ n) × (length predecessors ≡ n)
  pub few : scanned ≤ k * 2 ^ 16

pub first_turn : {n : ℕ} {costs : List ℤ} {count : ℕ} {cols rows : List ℕ} {v d : List ℤ} {room list predecessors : List ℕ} → CanAugment n costs count cols rows v d room
    → length list ≡ n → length predecessors ≡ n → Augmenting n costs count cols rows v d room cols rows v d list predecessors 0 0
unfolding augments
first_turn {n} {costs} {count} {cols} {rows} {v} {d} {room} C list_size predecessors_size = record {
  can = C;
  reach = omega arith;
  same = sym (upward_none 0 0 (λ k y. augment n (square n costs).cost y (at (frees_in n room) k)) (state_of cols rows v 0) (omega arith));
  sizes = (C.distances_size, list_size, predecessors_size);
  few = omega arith;
}

module _ {n : ℕ} {costs : List ℤ} {count : ℕ} {cols₀ rows₀ : List ℕ} {v₀ d₀ : List ℤ} {room₀ cols rows : List ℕ} {v d : List ℤ} {list predecessors : List ℕ} {scanned k : ℕ}
    (A : Augmenting n costs count cols₀ rows₀ v₀ d₀ room₀ cols rows v d list predecessors scanned k) where
  pub augmented : {room : List ℕ} → count ≤ k → frees_in n room ≡ frees_in n room₀ → marks_in n room ≡ marks_in n room₀
      → Augmented n costs count cols₀ rows₀ v₀ room₀ cols rows v room scanned
  unfolding augmentation
  augmented l frees marks =
      let e : k ≡ count = omega (arith, A.reach) in
      record {
        same = A.same ∙ ap (λ (m : ℕ). augments n (square n costs).cost (frees_in n room₀) m (state_of cols₀ rows₀ v₀ 0)) e;
        frees_kept = frees;
        marks_kept = marks;
      }

  -- Row s is the next free row, as code reads it.
  module _ (frees : List ℕ) (front : frees ≡ take n room₀) (l₀ : k < length (take count frees)) where
    abbrev s : ℕ
    s = at (take count frees) k

    l : k < count
    l = omega (arith, l₀, length-take count frees)

    next : s ≡ at (frees_in n room₀) k
    next = get_or-take count frees k 0 l ∙ ap (λ (r : List ℕ). at r k) front

    turn : CanTurn n costs (state_of cols rows v scanned) s
    turn =
        subst (CanTurn n costs (state_of cols rows v scanned)) (sym next)
        (subst (λ (y : Progress). CanTurn n costs y (at (frees_in n room₀) k)) (sym A.same) (A.can.turn k l))

    pub can_augment_row : CanAugmentRow n costs (at (take count frees) k) cols rows v d list predecessors
    can_augment_row =
        let C = turn.can in
        record {
          small = A.can.small;
          costs_size = A.can.costs_size;
          costs_near = A.can.costs_near;
          distances_size = A.sizes.0;
          list_size = A.sizes.1;
          predecessors_size = A.sizes.2;
          turn = record {
            can = record { agree = C.agree; prices_size = C.prices_size; fair = C.fair; start_below = C.start_below; start_unpaired = C.start_unpaired };
            prices_near = turn.prices_near;
          };
        }

    pub next_turn : {cols' rows' : List ℕ} {v' d' : List ℤ} {list' predecessors' : List ℕ} {r : ℕ} → RowAugmented n costs (at (take count frees) k) cols rows v cols' rows' v' r
        → (length d' ≡ n) × (length list' ≡ n) × (length predecessors' ≡ n)
        → Augmenting n costs count cols₀ rows₀ v₀ d₀ room₀ cols' rows' v' d' list' predecessors' (scanned + r) (k + 1)
    unfolding augments
    next_turn {r = r} N sizes = record {
      can = A.can;
      reach = omega (arith, l);
      same =
          N.same scanned ∙ ap₂ (augment n (square n costs).cost) A.same next
          ∙ sym (upward-last 0 k (λ m y. augment n (square n costs).cost y (at (frees_in n room₀) m)) (state_of cols₀ rows₀ v₀ 0) (omega arith))
          ∙ ap (λ (m : ℕ). augments n (square n costs).cost (frees_in n room₀) m (state_of cols₀ rows₀ v₀ 0)) (sym (add-one k));
      sizes = sizes;
      few = omega (arith, N.few, A.few, A.can.small, side_small);
    }
