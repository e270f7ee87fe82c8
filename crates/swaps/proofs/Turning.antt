-- One turn of the walk: what the stores of a turn leave is what the walk's turn makes. Assumes nothing.
use mathlib.Core.Path.{◌≡◌, refl, sym, ap, ◌∙◌, subst}
use mathlib.Core.Bool.{Bool, cond, not}
use mathlib.Core.Logic.{◌≢◌}
use mathlib.Core.List.{List}
use Rattle.std.proofs.Common.{Option, Some, None, unwrap_or}
use Prim.Native.Nat.{ℕ, suc, ◌-◌, ◌^◌, ◌≤◌, ◌<◌}
use native.Mathlib.Decide.{ℕ_discrete, dec_lt}
use native.Mathlib.Nat.{sub-zero}
use native.Mathlib.Omega.{arith}
use lib.Dec.{eqb}
use lib.IntN.{ℤ}
use lib.ListN.{length, set, take}
use lib.Seq.{length-take-le, get_or-take}
use borrow.Author.Tests.{lt-ltb, le-ltb, eq-eqb, ne_eqb}
use Rattle.std.specs.declared.ops.ControlFlow.{ControlFlow}
use Rattle.std.specs.declared.ops.ControlFlow.TheVariants.{Continue, Break}
use Rattle.lists.specs.Runs.{Turn, on, left, first, Finds}
use Rattle.lists.specs.Permutations.{at}
use Rattle.lists.proofs.Found.{first_of}
use Rattle.lists.proofs.Runs.{first_none, first-at}
use Rattle.lists.proofs.Injections.{pigeonhole}
use Rattle.matrix.proofs.SmallLimits.{side_small}
use Rattle.matrix.proofs.First.{first_cong}
use Rattle.swaps.specs.Walks.{Walk, Closed, mark, place, place_of, last, is_done, enter, finish, live, choice, begin, go_to, go_from, turn}
use Rattle.swaps.specs.Rooms.{lower_at, over_to, walk_of, turned_at, Holds, Chosen}
use Rattle.swaps.specs.Turning.{night, node_count, way_of, leads_on, CanChoose, Beside, CanTurn, AfterTurn, TurnedTo}
use Rattle.swaps.specs.declared.accepted.Accepted.{Accepted}
use Rattle.swaps.proofs.Walks.{Sound, live-read, size_below, path_injective}
use Rattle.swaps.proofs.Turns.{State, open_node, state_after}
use Rattle.swaps.proofs.Ways.{row_read, spare_read}
use Rattle.swaps.proofs.Lowering.{lowered_entered, lowered_finished}
use Rattle.swaps.proofs.Choosing.{nodes_columns, own_at}
use Rattle.swaps.proofs.Rooms.{come_here, holds_advanced, holds_finished, holds_entered, come_chosen}

-- The place of a node, as it is found on the front of a list.
pub place_found : (size : ℕ) (path marks : List ℕ) (y : ℕ) → size ≤ length path → (r : Option ℕ)
    → Finds (length (take (size - 0) path)) (λ k. eqb (at (take (size - 0) path) k) y) r → unwrap_or r size ≡ place_of (walk_of size path marks) y
place_found size path marks y l r h =
    rw long at (first_of (length (take (size - 0) path)) (λ k. eqb (at (take (size - 0) path) k) y) r h)
    ∙ first_cong size (λ k. eqb (at (take (size - 0) path) k) y) (λ k. eqb (at path k) y) (λ k b. ap (λ (v : ℕ). eqb v y) (get_or-take (size - 0) path k 0 (omega arith)))
  where
    long : length (take (size - 0) path) ≡ size
    long = ap (λ (k : ℕ). length (take k path)) (sub-zero size) ∙ length-take-le size path l

walk_held : Turn Walk Closed → Walk
walk_held (on w) = w
walk_held (left z) = z.walk

module _ (a : Accepted) (w : Walk) (choices : List ℕ) (ts : List ℤ) (h : CanTurn a w choices ts) where
  abbrev N : ℕ
  N = node_count a

  abbrev n : ℕ
  n = a.n

  abbrev go : ℕ → ℕ → ℕ
  go = way_of a

  state : State N n go h.underway.0 w
  state = state_after N n go h.underway.0 w (omega (arith, h.underway.1)) h.underway.2

  pub sound : Sound N n go w
  sound = state.sound

  -- What code needs of sizes.
  pub record Sizes : Type 0 where
    pub few : n < 2 ^ 16
    pub nodes_few : N ≤ n
    pub path_below : w.size ≤ N
    pub path_size : length w.path ≡ N
    pub marks_size : length w.marks ≡ N
    pub choices_size : length choices ≡ N

  pub sizes : Sizes
  sizes = record {
    few = omega (arith, side_small, a.fair.small);
    nodes_few = nodes_columns (night a) a.cols.now a.fair.pairing;
    path_below = pigeonhole (path_injective N n go w sound);
    path_size = sound.path_size;
    marks_size = sound.marks_size;
    choices_size = h.beside.holds.choices_size;
  }

  -- ---- an empty path

  module _ (none : w.size ≡ 0) where
    abbrev opens : ℕ
    opens = first N (λ y. not (is_done w y))

    opened : (opens < N) × (mark w opens ≡ 0)
    opened = open_node N n go h.underway.0 w state h.underway.1 none

    pub open_found : (r : Option ℕ) → Finds (length w.marks) (λ y. not (eqb (at w.marks y) 2)) r → unwrap_or r (length w.marks) ≡ opens
    open_found r f = first_of (length w.marks) (λ y. not (eqb (at w.marks y) 2)) r f ∙ ap (λ (k : ℕ). first k (λ y. not (is_done w y))) sound.marks_size

    pub open_below : opens < N
    open_below = opened.0

    begun : (on (enter opens w) ≡ turn N n go w) × Beside a (enter opens w) choices ts
    begun = (
      sym (ap (λ (t : Bool). cond t (on (enter opens w)) (go_from N n go (last w) w)) (eq-eqb w.size 0 none)),
      record {
        holds = holds_entered N n go w choices h.beside.holds sound opens opened.0 opened.1 (λ g. absurd (omega arith));
        lowered = lowered_entered (night a) a.vs.now a.cols.now w ts opens opened.1 h.beside.lowered;
      },
    )

    -- As code writes it.
    pub starts : (x : ℕ) → x ≡ opens → (path marks : List ℕ) → path ≡ set w.path 0 x → marks ≡ set w.marks x 1 → TurnedTo a w (Continue 1) path marks choices ts
    starts x e path marks p q =
        subst (λ (v : Walk). (on v ≡ turn N n go w) × Beside a v choices ts) same begun
      where
        same : enter opens w ≡ walk_of 1 path marks
        same = rw (p, q, e, none) refl

  -- ---- from the last node

  module _ (not_empty : w.size ≢ 0) where
    abbrev x : ℕ
    x = last w

    some : 0 < w.size
    some = omega arith

    pub last-below : x < N
    last-below = sound.inside (w.size - 1) (omega arith)

    pub can_choose : CanChoose a w.marks ts x (at choices x)
    can_choose = record {
      node = last-below;
      marks_size = sound.marks_size;
      lowered = record { size = h.beside.lowered.size; bounded = h.beside.lowered.bounded; kept = h.beside.lowered.kept };
      bounded = h.beside.holds.bounded x last-below;
      passed = λ c b. h.beside.holds.passed x c last-below b;
    }

    goes : turn N n go w ≡ go_from N n go x w
    goes = ap (λ (t : Bool). cond t (on (begin N w)) (go_from N n go x w)) (ne_eqb w.size 0 (λ e. omega arith))

    -- It has no choice: it is done.
    module _ (f : Finds n (λ c. leads_on a w.marks x c) None) where
      no_choice : choice N n go w x ≡ n
      no_choice = first_none (λ c. live N w (go x c)) n f

      pub ends : TurnedTo a w (Continue (w.size - 1)) w.path (set w.marks x 2) (set choices x n) (lower_at a.m a.cols.now x ts)
      ends = (
        sym (goes ∙ ap (λ (t : Bool). cond t (go_to (go x (choice N n go w x)) w) (on (finish x w))) (le-ltb (choice N n go w x) n (omega (arith, no_choice)))),
        record {
          holds = holds_finished N n go w (set choices x n)
              (subst (λ (k : ℕ). Holds N n go w (set choices x k)) no_choice (holds_advanced N n go w choices h.beside.holds sound some)) sound some;
          lowered = lowered_finished (night a) a.vs.now a.cols.now a.fair.pairing w ts x (omega (arith, sound.marks_size, last-below)) h.beside.lowered;
        },
      )

    -- It goes over its choice.
    module _ (c : ℕ) (f : Finds n (λ k. leads_on a w.marks x k) (Some c)) where
      abbrev next : List ℕ
      next = set choices x c

      chosen : choice N n go w x ≡ c
      chosen = first-at (λ k. live N w (go x k)) n c f.0 f.1 f.2

      leads : (go x c < N) × (mark w (go x c) ≢ 2)
      leads = live-read N n go w (go x c) f.1

      held : Holds N n go w next
      held = subst (λ (k : ℕ). Holds N n go w (set choices x k)) chosen (holds_advanced N n go w choices h.beside.holds sound some)

      come : at next x ≡ c
      come = subst (λ (k : ℕ). at (set choices x k) x ≡ k) chosen (come_here N n go w choices h.beside.holds sound some)

      -- The node to which it leads, as code reads it.
      pub node : over_to a.m a.rows.now x c ≡ go x c
      node = by (dec_lt x a.m)
        where
          by : Dec (x < a.m) → over_to a.m a.rows.now x c ≡ go x c
          by (yes b) = ap (λ (t : Bool). cond t (at a.rows.now c) c) (lt-ltb x a.m b)
              ∙ own_at a w.marks ts x (at choices x) can_choose c f.0 ∙ sym (row_read (night a) a.us.now a.vs.now a.cols.now x c b leads.0).leads
          by (no b) = ap (λ (t : Bool). cond t (at a.rows.now c) c) (le-ltb x a.m (omega arith))
              ∙ sym (spare_read (night a) a.us.now a.vs.now a.cols.now x c (omega arith) leads.0).0

      pub node_below : go x c < N
      node_below = leads.0

      -- A node that is not on the path has not been seen, and has room on it.
      unseen : mark w (go x c) ≢ 1 → mark w (go x c) ≡ 0
      unseen d = let e = leads.1 in omega (arith, sound.known (go x c) leads.0)

      pub path_room : mark w (go x c) ≢ 1 → w.size < N
      path_room d = size_below N n go w sound (go x c) leads.0 (unseen d)

      goes_to : turn N n go w ≡ go_to (go x c) w
      goes_to =
          goes
          ∙ ap (λ (t : Bool). cond t (go_to (go x (choice N n go w x)) w) (on (finish x w))) (lt-ltb (choice N n go w x) n (omega (arith, chosen, f.0)))
          ∙ ap (λ (k : ℕ). go_to (go x k) w) chosen

      beside : mark w (go x c) ≢ 1 → Beside a (enter (go x c) w) next ts
      beside d = record {
        holds = holds_entered N n go w next held sound (go x c) leads.0 (unseen d) (λ g. rw come (f.0, refl));
        lowered = lowered_entered (night a) a.vs.now a.cols.now w ts (go x c) (unseen d) h.beside.lowered;
      }

      come_all : (t : ℕ) → t < w.size → at next (place w t) ≡ choice N n go w (place w t)
      come_all t b = elim (ℕ_discrete (suc t) w.size) [
        | yes e ↦ let q : w.size - 1 ≡ t = omega arith in rw (← q) (come ∙ sym chosen)
        | no d ↦ come_chosen N n go w next held sound t (omega arith)
      ]

      back : mark w (go x c) ≡ 1 → go_to (go x c) w ≡ left (record { from = place_of w (go x c); walk = w })
      back d = ap (λ (t : Bool). cond t (left (record { from = place_of w (go x c); walk = w })) (on (enter (go x c) w))) (eq-eqb (mark w (go x c)) 1 d)

      onward : mark w (go x c) ≢ 1 → go_to (go x c) w ≡ on (enter (go x c) w)
      onward d = ap (λ (t : Bool). cond t (left (record { from = place_of w (go x c); walk = w })) (on (enter (go x c) w))) (ne_eqb (mark w (go x c)) 1 d)

      -- How the turn ends, from how the way ends.
      pub gone : (r : ControlFlow ℕ ℕ) (path marks : List ℕ) → turned_at w.size r path marks ≡ go_to (go x c) w → TurnedTo a w r path marks next ts
      unfolding walk_held
      gone r path marks e = (e ∙ sym goes_to, by r e (ℕ_discrete (mark w (go x c)) 1))
        where
          by : (r : ControlFlow ℕ ℕ) → turned_at w.size r path marks ≡ go_to (go x c) w → Dec (mark w (go x c) ≡ 1) → AfterTurn a w.size r path marks next ts
          by (Continue size) e (yes d) = let q = e ∙ back d in absurd cc
          by (Continue size) e (no d) = subst (λ (v : Walk). Beside a v next ts) (sym (ap walk_held (e ∙ onward d))) (beside d)
          by (Break from) e (yes d) = subst (λ (v : Walk). Chosen N n go v next) (sym (ap walk_held (e ∙ back d))) come_all
          by (Break from) e (no d) = let q = e ∙ onward d in absurd cc
