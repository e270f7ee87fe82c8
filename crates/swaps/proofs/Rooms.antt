-- The choices beside a walk: what they keep when the last node comes to its choice, when a node joins the path and when the last one is done.
-- Assumes nothing.
use mathlib.Core.Path.{◌≡◌, sym, ap, ◌∙◌}
use mathlib.Core.Logic.{◌≢◌}
use mathlib.Core.List.{List}
use Prim.Native.Nat.{ℕ, suc, ◌-◌, ◌<◌}
use native.Mathlib.Decide.{ℕ_discrete}
use native.Mathlib.Omega.{arith}
use lib.ListN.{set, length-set}
use lib.Seq.{get_or-set_same, get_or-set_other}
use Rattle.lists.specs.Permutations.{at}
use Rattle.lists.proofs.Runs.{first_le, first_before, first-at}
use Rattle.swaps.specs.Walks.{Walk, mark, place, last, enter, finish, live, choice}
use Rattle.swaps.specs.Rooms.{Holds}
use Rattle.swaps.proofs.Walks.{Sound, live_make, place-last, place_other, enter_dead, finish_dead}

module _ (N n : ℕ) (go : ℕ → ℕ → ℕ) (w : Walk) (choices : List ℕ) (h : Holds N n go w choices) (s : Sound N n go w) where
  -- ---- the last node comes to its choice

  module _ (some : 0 < w.size) where
    abbrev c : ℕ
    c = choice N n go w (last w)

    abbrev next : List ℕ
    next = set choices (last w) c

    last-below : last w < N
    last-below = s.inside (w.size - 1) (omega arith)

    pub come_here : at next (last w) ≡ c
    come_here = get_or-set_same choices (last w) c 0 (omega (arith, h.choices_size, last-below))

    come_other : (y : ℕ) → y ≢ last w → at next y ≡ at choices y
    come_other y d = get_or-set_other choices (last w) y c 0 d

    not_here : (t : ℕ) → suc t < w.size → place w t ≢ last w
    not_here t l e = omega (arith, s.apart t (w.size - 1) (omega arith) (omega arith) e)

    pub holds_advanced : Holds N n go w next
    holds_advanced = record {
      choices_size = length-set choices (last w) c ∙ h.choices_size;
      bounded = λ y l. elim (ℕ_discrete y (last w)) [
        | yes e ↦ omega (arith, ap (at next) e, come_here, first_le (λ k. live N w (go (last w) k)) n)
        | no d ↦ omega (arith, come_other y d, h.bounded y l)
      ];
      passed = λ y a l b. elim (ℕ_discrete y (last w)) [
        | yes e ↦ rw e (first_before (λ k. live N w (go (last w) k)) n a (omega (arith, come_here, ap (at next) e)))
        | no d ↦ h.passed y a l (omega (arith, come_other y d))
      ];
      went = λ t l. rw (come_other (place w t) (not_here t l)) (h.went t l);
    }

    -- ---- the last node is done

    pub holds_finished : Holds N n go (finish (last w) w) choices
    holds_finished = record {
      choices_size = h.choices_size;
      bounded = h.bounded;
      passed = λ a b g q. finish_dead N n go w s some (go a b) (h.passed a b g q);
      went = λ t b. h.went t (omega arith);
    }

  -- ---- a node joins the path

  module _ (y : ℕ) (l : y < N) (new : mark w y ≡ 0) (comes : 0 < w.size → (at choices (last w) < n) × (go (last w) (at choices (last w)) ≡ y)) where
    went_on : (t : ℕ) → suc t < suc w.size
        → (at choices (place (enter y w) t) < n) × (go (place (enter y w) t) (at choices (place (enter y w) t)) ≡ place (enter y w) (suc t))
    went_on t b = elim (ℕ_discrete (suc t) w.size) [
      | yes e ↦
          let q : w.size - 1 ≡ t = omega arith in
          let z : place (enter y w) (suc t) ≡ y = ap (place (enter y w)) e ∙ place-last N n go w s y l new in
          rw (place_other N n go w s y l new t (omega arith), z) (rw q at (comes (omega arith)))
      | no d ↦ rw (place_other N n go w s y l new t (omega arith), place_other N n go w s y l new (suc t) (omega arith)) (h.went t (omega arith))
    ]

    pub holds_entered : Holds N n go (enter y w) choices
    holds_entered = record {
      choices_size = h.choices_size;
      bounded = h.bounded;
      passed = λ a b g q. enter_dead N n go w s y l new (go a b) (h.passed a b g q);
      went = went_on;
    }

  -- ---- each node of the path but the last has come to its choice

  pub come_chosen : (t : ℕ) → suc t < w.size → at choices (place w t) ≡ choice N n go w (place w t)
  come_chosen t l =
      let g = h.went t l in
      sym
      (first-at (λ k. live N w (go (place w t) k)) n (at choices (place w t)) g.0
      (ap (live N w) g.1 ∙ live_make N n go w (place w (suc t)) (s.inside (suc t) l) (λ e. omega (arith, s.on_path (suc t) l)))
      (λ k b. h.passed (place w t) k (s.inside t (omega arith)) b))
