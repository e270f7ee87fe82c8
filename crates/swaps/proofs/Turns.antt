-- The turns of a walk: within twice as many as there are nodes it is left with a closed walk, or all nodes are done; and then what holds of a
-- node wherever it holds of all nodes to which a choice leads from it holds of every node. Assumes nothing.
use mathlib.Core.Path.{◌≡◌, refl, sym, ap, ◌∙◌, subst}
use mathlib.Core.Bool.{Bool, not, true≢false}
use mathlib.Core.Logic.{◌≢◌}
use Prim.Native.Nat.{ℕ, zero, suc, ◌+◌, ◌≤◌, ◌<◌}
use native.Mathlib.Decide.{ℕ_discrete, dec_lt}
use native.Mathlib.Omega.{arith}
use lib.Dec.{eqb}
use lib.IntN.{pos}
use lib.ListN.{length-replicate, get_or-replicate}
use borrow.Author.Tests.{eqb-true, eqb-false, not-true, not-false, lt-ltb, le-ltb}
use Rattle.ints.proofs.Shapes.{zlin}
use Rattle.lists.specs.Runs.{Turn, on, left, until, first}
use Rattle.lists.specs.Sums.{sum}
use Rattle.lists.proofs.Cases.{cond_cases}
use Rattle.lists.proofs.Runs.{first_le, first_holds, first_before}
use Rattle.lists.proofs.Leaving.{Either, goes_on, is_left_lem, either_map, until_keeps}
use Rattle.lists.proofs.Sums.{sum_zero, sum_cong, sum_le_tight}
use Rattle.lists.proofs.Injections.{source_of}
use Rattle.swaps.specs.Walks.{Walk, Closed, mark, place_of, last, is_done, enter, finish, unseen, live, choice, begin, go_from, turn, walk}
use Rattle.swaps.proofs.Walks.{marked, Leads, Sound, IsClosed, live-read, live_make, path_injective, enter_sound, enter-marked, enter_done, last_inside, finish_sound, finish-marked, finish_done}

-- Twice as many as the numbers below n.
twos : (n : ℕ) → sum n (λ i. pos 2) ≡ pos (n + n)
unfolding sum
twos zero = refl
twos (suc n) = omega (zlin, twos n)

module _ (nodes width : ℕ) (way : ℕ → ℕ → ℕ) where
  -- After k turns.
  pub record State (k : ℕ) (w : Walk) : Type 0 where
    pub sound : Sound nodes width way w
    pub turns : marked nodes w ≡ pos k

  -- An empty path: not all nodes are done, since each would have been marked twice.
  pub open_node : (k : ℕ) (w : Walk) → State k w → k < nodes + nodes → w.size ≡ 0
      → (first nodes (λ y. not (is_done w y)) < nodes) × (mark w (first nodes (λ y. not (is_done w y))) ≡ 0)
  open_node k w S h z = by (dec_lt x nodes)
    where
      s : Sound nodes width way w
      s = S.sound

      test : ℕ → Bool
      test y = not (is_done w y)

      x : ℕ
      x = first nodes test

      all : (x < nodes → ⊥) → (y : ℕ) → y < nodes → mark w y ≡ 2
      all l y m = eqb-true (mark w y) 2 (not-false (is_done w y) (first_before test nodes y (omega (arith, first_le test nodes))))

      by : Dec (x < nodes) → (x < nodes) × (mark w x ≡ 0)
      by (yes l) =
          let a = eqb-false (mark w x) 2 (not-true (is_done w x) (first_holds test nodes l)) in
          let b : mark w x ≢ 1 = λ m. let p = s.placed x l m in omega (arith, p.1) in
          (l, omega (arith, s.known x l, a, b))
      by (no l) =
          absurd (omega (
            zlin,
            S.turns,
            twos nodes,
            sum_cong nodes (λ y. pos (mark w y)) (λ y. pos 2) (λ y m. ap pos (all l y m)),
          ))

  -- P holds of every node that is done.
  abbrev Proved : (ℕ → Type 0) → Walk → Type 0
  Proved P w = (x : ℕ) → x < nodes → mark w x ≡ 2 → P x

  module _ (P : ℕ → Type 0) (step : (x : ℕ) → x < nodes → ((c : ℕ) → c < width → way x c < nodes → P (way x c)) → P x) where
    abbrev Next : ℕ → Turn Walk Closed → Type 0
    Next k = Either (λ t. State (suc k) t × Proved P t) (IsClosed nodes width way)

    module _ (k : ℕ) (w : Walk) (S : State k w) (proved : Proved P w) where
      s : Sound nodes width way w
      s = S.sound

      -- A node that is neither done nor on the path has not been seen.
      not_seen : (x : ℕ) → x < nodes → mark w x ≢ 2 → mark w x ≢ 1 → mark w x ≡ 0
      not_seen x l a b = omega (arith, s.known x l)

      entered : (x : ℕ) → x < nodes → mark w x ≡ 0 → (0 < w.size → Leads nodes width way w (last w) x) → State (suc k) (enter x w) × Proved P (enter x w)
      entered x l new g = (
        record {
          sound = enter_sound nodes width way w s x l new g;
          turns = omega (zlin, S.turns, enter-marked nodes width way w s x l new);
        },
        enter_done nodes width way w s x l new P proved,
      )

      finished : 0 < w.size → P (last w) → State (suc k) (finish (last w) w) × Proved P (finish (last w) w)
      finished l p = (
        record { sound = finish_sound nodes width way w s l; turns = omega (zlin, S.turns, finish-marked nodes width way w s l) },
        finish_done nodes width way w s l P proved p,
      )

      begins : k < nodes + nodes → w.size ≡ 0 → State (suc k) (begin nodes w) × Proved P (begin nodes w)
      begins h z = let o = open_node k w S h z in entered (first nodes (λ y. not (is_done w y))) o.0 o.1 (λ g. absurd (omega arith))

      goes : 0 < w.size → Next k (go_from nodes width way (last w) w)
      goes h = by (dec_lt c width)
        where
          c : ℕ
          c = choice nodes width way w (last w)

          y : ℕ
          y = way (last w) c

          test : ℕ → Bool
          test a = live nodes w (way (last w) a)

          closes : y < nodes → mark w y ≡ 1 → Leads nodes width way w (last w) y → IsClosed nodes width way (record { from = place_of w y; walk = w })
          closes l m g =
              let p = s.placed y l m in
              let q : place_of w y ≡ p.0 = ap (place_of w) (sym p.2) ∙ source_of (path_injective nodes width way w s) p.0 p.1 in
              record { sound = s; from_below = omega (arith, p.1); back = rw (q, p.2) g }

          dead : (c < width → ⊥) → (a : ℕ) → a < width → way (last w) a < nodes → mark w (way (last w) a) ≡ 2
          dead l a m n = elim (ℕ_discrete (mark w (way (last w) a)) 2) [
            | yes e ↦ e
            | no d ↦
                absurd (true≢false
                (sym (live_make nodes width way w (way (last w) a) n d) ∙ first_before test width a (omega (arith, first_le test width))))
          ]

          by : Dec (c < width) → Next k (go_from nodes width way (last w) w)
          by (yes l) =
              let r = live-read nodes width way w y (first_holds test width l) in
              let g : Leads nodes width way w (last w) y = record { below = l; there = refl } in
              rw (lt-ltb c width l)
              (cond_cases (eqb (mark w y) 1) (Next k) (left (record { from = place_of w y; walk = w })) (on (enter y w))
              (λ e. is_left_lem (closes r.0 (eqb-true (mark w y) 1 e) g))
              (λ e. goes_on (entered y r.0 (not_seen y r.0 r.1 (eqb-false (mark w y) 1 e)) (λ m. g))))
          by (no l) =
              rw (le-ltb c width (omega arith))
              (goes_on (finished h
              (step (last w) (last_inside nodes width way w s h) (λ a m n. proved (way (last w) a) n (dead l a m n)))))

      turn_all : k < nodes + nodes → Next k (turn nodes width way w)
      turn_all h =
          cond_cases (eqb w.size 0) (Next k) (on (begin nodes w)) (go_from nodes width way (last w) w)
          (λ e. goes_on (begins h (eqb-true w.size 0 e))) (λ e. goes (let d = eqb-false w.size 0 e in omega arith))

  -- A turn goes on or closes the walk. (What code keeps in its loop.)
  pub turn_ok : (k : ℕ) (w : Walk) → State k w → k < nodes + nodes → Either (State (suc k)) (IsClosed nodes width way) (turn nodes width way w)
  turn_ok k w S h = either_map (turn_all (λ x. Unit) (λ x l a. tt) k w S (λ x l e. tt) h) (λ t a. a.0) (λ z c. c)

  -- ---- the whole walk

  pub start_ok : State 0 (unseen nodes)
  start_ok = record {
    sound = record {
      path_size = length-replicate {A = ℕ} nodes 0;
      marks_size = length-replicate {A = ℕ} nodes 0;
      known = λ x l. omega (arith, get_or-replicate {A = ℕ} nodes x 0 0 l);
      inside = λ k l. absurd (omega arith);
      on_path = λ k l. absurd (omega arith);
      apart = λ i k l m e. absurd (omega arith);
      placed = λ x l e. absurd (omega (arith, get_or-replicate {A = ℕ} nodes x 0 0 l));
      linked = λ k l. absurd (omega arith);
    };
    turns = sum_zero nodes (λ x. pos (mark (unseen nodes) x)) (λ x l. ap pos (get_or-replicate {A = ℕ} nodes x 0 0 l));
  }

  -- What holds of a walk after so many turns.
  pub state_after : (k : ℕ) (w : Walk) → k ≤ nodes + nodes → until 0 k (λ t. turn nodes width way) (unseen nodes) ≡ on w → State k w
  state_after k w h e =
      by
      (subst (Either (State k) (IsClosed nodes width way)) e
      (until_keeps State (IsClosed nodes width way) 0 k (λ t. turn nodes width way) (unseen nodes) (omega arith) start_ok
      (λ i t l m S. turn_ok i t S (omega arith))))
    where
      by : Either (State k) (IsClosed nodes width way) (on w) → State k w
      by (goes_on S) = S

  -- It is left with a closed walk; or P holds of every node.
  pub walk_ok : (P : ℕ → Type 0) → ((x : ℕ) → x < nodes → ((c : ℕ) → c < width → way x c < nodes → P (way x c)) → P x)
      → Either (λ w. (x : ℕ) → x < nodes → P x) (IsClosed nodes width way) (walk nodes width way)
  unfolding walk
  walk_ok P step =
      either_map
      (until_keeps (λ k w. State k w × Proved P w) (IsClosed nodes width way) 0 (nodes + nodes) (λ k. turn nodes width way) (unseen nodes) (omega arith)
      (start_ok, λ x l e. absurd (omega (arith, get_or-replicate {A = ℕ} nodes x 0 0 l))) (λ k w l m a. turn_all P step k w a.0 a.1 m))
      (λ w a x l. a.1 x l (done w a.0 x l)) (λ z c. c)
    where
      done : (w : Walk) → State (nodes + nodes) w → (x : ℕ) → x < nodes → mark w x ≡ 2
      done w S x l =
          let e = sum_le_tight nodes (λ y. pos (mark w y)) (λ y. pos 2) (λ y m. omega (zlin, S.sound.known y m)) (omega (zlin, twos nodes, S.turns)) x l in
          omega (zlin, e)
