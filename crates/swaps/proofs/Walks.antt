-- A walk under way, and what it keeps when a node joins the path and when the last one is done. Assumes nothing.
use mathlib.Core.Path.{◌≡◌, sym, ap, ◌∙◌, subst}
use mathlib.Core.Bool.{true, false, not, and-eq-true_iff, true≢false}
use mathlib.Core.Logic.{◌≢◌}
use Prim.Native.Nat.{ℕ, suc, ◌-◌, ◌≤◌, ◌<◌}
use native.Mathlib.Decide.{ℕ_discrete, dec_lt}
use native.Mathlib.Omega.{arith}
use lib.Dec.{ltb}
use lib.IntN.{ℤ, pos, ◌+ℤ◌}
use lib.ListN.{length, length-set}
use lib.Seq.{get_or-set_same, get_or-set_other}
use borrow.Author.Tests.{ltb-true, eqb-false, not-true, lt-ltb, ne_eqb}
use Rattle.ints.proofs.Shapes.{zlin}
use Rattle.ints.proofs.Tests.{not_true_false}
use Rattle.lists.specs.Sums.{sum}
use Rattle.lists.specs.Permutations.{Injective}
use Rattle.lists.proofs.Runs.{first_before, first-at}
use Rattle.lists.proofs.Sums.{sum_change}
use Rattle.lists.proofs.Injections.{injective_fewer, reached}
use Rattle.swaps.specs.Walks.{Walk, Closed, mark, place, last, is_done, enter, finish, live, choice}

-- What the marks of all nodes come to: how many turns have been made.
abbrev pub marked : ℕ → Walk → ℤ
marked nodes w = sum nodes (λ x. pos (mark w x))

module _ (nodes width : ℕ) (way : ℕ → ℕ → ℕ) where
  -- The first choice at x leads to y.
  pub record Leads (w : Walk) (x y : ℕ) : Type 0 where
    pub below : choice nodes width way w x < width
    pub there : way x (choice nodes width way w x) ≡ y

  -- A walk under way.
  pub record Sound (w : Walk) : Type 0 where
    pub path_size : length w.path ≡ nodes
    pub marks_size : length w.marks ≡ nodes
    pub known : (x : ℕ) → x < nodes → mark w x ≤ 2
    pub inside : (k : ℕ) → k < w.size → place w k < nodes
    pub on_path : (k : ℕ) → k < w.size → mark w (place w k) ≡ 1
    pub apart : (i k : ℕ) → i < w.size → k < w.size → place w i ≡ place w k → i ≡ k
    pub placed : (x : ℕ) → x < nodes → mark w x ≡ 1 → (k : ℕ) × (k < w.size) × (place w k ≡ x)
    pub linked : (k : ℕ) → suc k < w.size → Leads w (place w k) (place w (suc k))

  -- A closed walk: from each of its nodes to the next, and from the last to the first.
  pub record IsClosed (z : Closed) : Type 0 where
    pub sound : Sound z.walk
    pub from_below : z.from < z.walk.size
    pub back : Leads z.walk (last z.walk) (place z.walk z.from)

  -- ---- nodes that are not done

  pub live-read : (w : Walk) (y : ℕ) → live nodes w y ≡ true → (y < nodes) × (mark w y ≢ 2)
  live-read w y e =
      let b = (and-eq-true_iff (ltb y nodes) (not (is_done w y))).0 e in
      (ltb-true y nodes b.0, eqb-false (mark w y) 2 (not-true (is_done w y) b.1))

  pub live_make : (w : Walk) (y : ℕ) → y < nodes → mark w y ≢ 2 → live nodes w y ≡ true
  live_make w y l d = (and-eq-true_iff (ltb y nodes) (not (is_done w y))).1 (lt-ltb y nodes l, ap not (ne_eqb (mark w y) 2 d))

  -- A choice stays the first where every node that is not done was so before, and the one to which it leads is not done.
  leads_kept : (w t : Walk) (x y : ℕ) → ((a : ℕ) → live nodes t a ≡ true → live nodes w a ≡ true) → live nodes t y ≡ true → Leads w x y → Leads t x y
  leads_kept w t x y fewer h l = record { below = omega (arith, same, l.below); there = ap (way x) same ∙ l.there }
    where
      same : choice nodes width way t x ≡ choice nodes width way w x
      same =
          first-at (λ c. live nodes t (way x c)) width (choice nodes width way w x) l.below (ap (live nodes t) l.there ∙ h)
          (λ c m. not_true_false (λ e. true≢false (sym (fewer (way x c) e) ∙ first_before (λ a. live nodes w (way x a)) width c m)))

  module _ (w : Walk) (s : Sound w) where
    pub path_injective : Injective w.size nodes (place w)
    path_injective = record { below = s.inside; once = s.apart }

    -- ---- a node that has not been seen joins the path

    module _ (x : ℕ) (hx : x < nodes) (new : mark w x ≡ 0) where
      abbrev e : Walk
      e = enter x w

      fresh : (k : ℕ) → k < w.size → place w k ≢ x
      fresh k l q = omega (arith, s.on_path k l, ap (mark w) q, new)

      -- The path has room.
      pub size_below : w.size < nodes
      size_below = elim (dec_lt w.size nodes) [
        | yes l ↦ l
        | no l ↦
            let r = reached (injective_fewer {m = w.size} {n = nodes} {f = place w} (omega arith) path_injective) x hx in
            absurd (fresh r.0 (omega (arith, r.1)) r.2)
      ]

      mark_here : mark e x ≡ 1
      mark_here = get_or-set_same w.marks x 1 0 (omega (arith, s.marks_size))

      mark_other : (y : ℕ) → y ≢ x → mark e y ≡ mark w y
      mark_other y d = get_or-set_other w.marks x y 1 0 d

      pub place-last : place e w.size ≡ x
      place-last = get_or-set_same w.path w.size x 0 (omega (arith, s.path_size, size_below))

      pub place_other : (k : ℕ) → k < w.size → place e k ≡ place w k
      place_other k l = get_or-set_other w.path w.size k x 0 (λ q. omega arith)

      path_marked : (k : ℕ) → k < suc w.size → (place e k < nodes) × (mark e (place e k) ≡ 1)
      path_marked k l = elim (ℕ_discrete k w.size) [
        | yes q ↦ let p = ap (place e) q ∙ place-last in (omega (arith, p), ap (mark e) p ∙ mark_here)
        | no d ↦
            let m : k < w.size = omega arith in
            let p = place_other k m in
            (omega (arith, p, s.inside k m), ap (mark e) p ∙ mark_other (place w k) (fresh k m) ∙ s.on_path k m)
      ]

      fewer : (a : ℕ) → live nodes e a ≡ true → live nodes w a ≡ true
      fewer a h = let r = live-read e a h in live_make w a r.0 (λ q. by q r.1 (ℕ_discrete a x))
        where
          by : mark w a ≡ 2 → mark e a ≢ 2 → Dec (a ≡ x) → ⊥
          by q d (yes c) = omega (arith, ap (mark w) c, new)
          by q d (no c) = d (mark_other a c ∙ q)

      -- What is done, or no node, stays so.
      pub enter_dead : (a : ℕ) → live nodes w a ≡ false → live nodes e a ≡ false
      enter_dead a h = not_true_false (λ t. true≢false (sym (fewer a t) ∙ h))

      live_path : (k : ℕ) → k < suc w.size → live nodes e (place e k) ≡ true
      live_path k l = let p = path_marked k l in live_make e (place e k) p.0 (λ q. omega arith)

      link : (0 < w.size → Leads w (last w) x) → (k : ℕ) → suc k < suc w.size → Leads e (place e k) (place e (suc k))
      link g k l = elim (ℕ_discrete (suc k) w.size) [
        | yes q ↦
            let r : w.size - 1 ≡ k = omega arith in
            let t : place e (suc k) ≡ x = ap (place e) q ∙ place-last in
            rw (place_other k (omega arith), t)
            (leads_kept w e (place w k) x fewer (rw t at (live_path (suc k) (omega arith))) (rw r at (g (omega arith))))
        | no d ↦
            let t = place_other (suc k) (omega arith) in
            rw (place_other k (omega arith), t)
            (leads_kept w e (place w k) (place w (suc k)) fewer (rw t at (live_path (suc k) (omega arith))) (s.linked k (omega arith)))
      ]

      both : (i k : ℕ) → i < suc w.size → k < suc w.size → place e i ≡ place e k → Dec (i ≡ w.size) → Dec (k ≡ w.size) → i ≡ k
      both i k h g q (yes a) (yes b) = a ∙ sym b
      both i k h g q (yes a) (no b) =
          absurd (fresh k (omega arith) (sym (place_other k (omega arith)) ∙ sym q ∙ ap (place e) a ∙ place-last))
      both i k h g q (no a) (yes b) = absurd (fresh i (omega arith) (sym (place_other i (omega arith)) ∙ q ∙ ap (place e) b ∙ place-last))
      both i k h g q (no a) (no b) =
          s.apart i k (omega arith) (omega arith) (sym (place_other i (omega arith)) ∙ q ∙ place_other k (omega arith))

      pub enter_sound : (0 < w.size → Leads w (last w) x) → Sound e
      enter_sound g = record {
        path_size = length-set w.path w.size x ∙ s.path_size;
        marks_size = length-set w.marks x 1 ∙ s.marks_size;
        known = λ y l. elim (ℕ_discrete y x) [
          | yes q ↦ omega (arith, ap (mark e) q, mark_here)
          | no d ↦ omega (arith, mark_other y d, s.known y l)
        ];
        inside = λ k l. (path_marked k l).0;
        on_path = λ k l. (path_marked k l).1;
        apart = λ i k h g q. both i k h g q (ℕ_discrete i w.size) (ℕ_discrete k w.size);
        placed = λ y l m. elim (ℕ_discrete y x) [
          | yes q ↦ (w.size, omega arith, place-last ∙ sym q)
          | no d ↦ let p = s.placed y l (sym (mark_other y d) ∙ m) in (p.0, omega (arith, p.1), place_other p.0 p.1 ∙ p.2)
        ];
        linked = link g;
      }

      pub enter-marked : marked nodes e ≡ marked nodes w +ℤ pos 1
      enter-marked =
          omega (
            zlin,
            sum_change nodes x (λ y. pos (mark e y)) (λ y. pos (mark w y)) hx (λ y l d. ap pos (mark_other y d)),
            ap pos new,
            ap pos mark_here,
          )

      pub enter_done : (P : ℕ → Type 0) → ((y : ℕ) → y < nodes → mark w y ≡ 2 → P y) → (y : ℕ) → y < nodes → mark e y ≡ 2 → P y
      enter_done P h y l m = elim (ℕ_discrete y x) [
        | yes q ↦ absurd (omega (arith, ap (mark e) q, mark_here))
        | no d ↦ h y l (sym (mark_other y d) ∙ m)
      ]

    -- ---- the last node of the path is done

    module _ (some : 0 < w.size) where
      abbrev f : Walk
      f = finish (last w) w

      pub last_inside : last w < nodes
      last_inside = s.inside (w.size - 1) (omega arith)

      last-marked : mark w (last w) ≡ 1
      last-marked = s.on_path (w.size - 1) (omega arith)

      done_here : mark f (last w) ≡ 2
      done_here = get_or-set_same w.marks (last w) 2 0 (omega (arith, s.marks_size, last_inside))

      done_other : (y : ℕ) → y ≢ last w → mark f y ≡ mark w y
      done_other y d = get_or-set_other w.marks (last w) y 2 0 d

      not_last : (k : ℕ) → k < w.size - 1 → place w k ≢ last w
      not_last k l q = omega (arith, s.apart k (w.size - 1) (omega arith) (omega arith) q)

      still : (k : ℕ) → k < w.size - 1 → mark f (place w k) ≡ 1
      still k l = done_other (place w k) (not_last k l) ∙ s.on_path k (omega arith)

      fewer_left : (a : ℕ) → live nodes f a ≡ true → live nodes w a ≡ true
      fewer_left a h = let r = live-read f a h in live_make w a r.0 (λ q. by q r.1 (ℕ_discrete a (last w)))
        where
          by : mark w a ≡ 2 → mark f a ≢ 2 → Dec (a ≡ last w) → ⊥
          by q d (yes c) = d (ap (mark f) c ∙ done_here)
          by q d (no c) = d (done_other a c ∙ q)

      pub finish_dead : (a : ℕ) → live nodes w a ≡ false → live nodes f a ≡ false
      finish_dead a h = not_true_false (λ t. true≢false (sym (fewer_left a t) ∙ h))

      before : (y : ℕ) → y ≢ last w → (k : ℕ) → k < w.size → place w k ≡ y → k < w.size - 1
      before y d k l q = elim (ℕ_discrete k (w.size - 1)) [ yes r ↦ absurd (d (sym q ∙ ap (place w) r)) | no r ↦ omega arith ]

      pub finish_sound : Sound f
      finish_sound = record {
        path_size = s.path_size;
        marks_size = length-set w.marks (last w) 2 ∙ s.marks_size;
        known = λ y l. elim (ℕ_discrete y (last w)) [
          | yes q ↦ omega (arith, ap (mark f) q, done_here)
          | no d ↦ omega (arith, done_other y d, s.known y l)
        ];
        inside = λ k l. s.inside k (omega arith);
        on_path = still;
        apart = λ i k h g q. s.apart i k (omega arith) (omega arith) q;
        placed = λ y l m. elim (ℕ_discrete y (last w)) [
          | yes q ↦ absurd (omega (arith, ap (mark f) q, done_here))
          | no d ↦ let p = s.placed y l (sym (done_other y d) ∙ m) in (p.0, before y d p.0 p.1 p.2, p.2)
        ];
        linked = λ k l. leads_kept w f (place w k) (place w (suc k)) fewer_left
            (live_make f (place w (suc k)) (s.inside (suc k) (omega arith)) (λ q. omega (arith, still (suc k) l))) (s.linked k (omega arith));
      }

      pub finish-marked : marked nodes f ≡ marked nodes w +ℤ pos 1
      finish-marked =
          omega (
            zlin,
            sum_change nodes (last w) (λ y. pos (mark f y)) (λ y. pos (mark w y)) last_inside (λ y l d. ap pos (done_other y d)),
            ap pos last-marked,
            ap pos done_here,
          )

      pub finish_done : (P : ℕ → Type 0) → ((y : ℕ) → y < nodes → mark w y ≡ 2 → P y) → P (last w) → (y : ℕ) → y < nodes → mark f y ≡ 2 → P y
      finish_done P h here y l m = elim (ℕ_discrete y (last w)) [
        | yes q ↦ subst P (sym q) here
        | no d ↦ h y l (sym (done_other y d) ∙ m)
      ]
