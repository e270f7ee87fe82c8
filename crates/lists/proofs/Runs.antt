-- The laws of counted loops: no turn, the first turn, the last turn, what every turn keeps, a run cut in two, turns that change nothing; and what the first place of a test is. Assumes nothing.
use mathlib.Core.Path.{◌≡◌, refl, sym, ap, ◌∙◌, subst}
use mathlib.Core.Bool.{Bool, true, false, cond, true≢false}
use Prim.Native.Nat.{ℕ, zero, suc, ◌+◌, ◌-◌, ◌≤◌, ◌<◌}
use native.Mathlib.Decide.{dec_le, dec_lt}
use native.Mathlib.Nat.{add-zero, add-suc}
use native.Mathlib.Omega.{arith}
use lib.Dec.{ltb}
use borrow.Author.Tests.{lt-ltb, le-ltb}
use Rattle.lists.specs.Runs.{turns, upward, downward, Turn, on, left, and_then, until, first}

module _ {S : Type 0} where
  turns-first : (a m : ℕ) (f : ℕ → S → S) (s : S) → turns a (suc m) f s ≡ turns (suc a) m f (f a s)
  unfolding turns
  turns-first a zero f s = ap (λ (k : ℕ). f k s) (add-zero a)
  turns-first a (suc m) f s =
      let e : a + suc m ≡ suc a + m = omega arith in
      ap (λ (k : ℕ). f k (turns a (suc m) f s)) e ∙ ap (f (suc a + m)) (turns-first a m f s)

  turns_keep : (P : ℕ → S → Type 0) (a : ℕ) (f : ℕ → S → S) (s : S) → P a s → (m : ℕ)
      → ((k : ℕ) (t : S) → a ≤ k → k < a + m → P k t → P (suc k) (f k t)) → P (a + m) (turns a m f s)
  unfolding turns
  turns_keep P a f s start zero step = subst (λ (k : ℕ). P k s) (sym (add-zero a)) start
  turns_keep P a f s start (suc m) step =
      let e : suc (a + m) ≡ a + suc m = omega arith in
      subst (λ (k : ℕ). P k (f (a + m) (turns a m f s))) e
      (step (a + m) (turns a m f s) (omega arith) (omega arith) (turns_keep P a f s start m (λ k t h l. step k t h (omega arith))))

  turns_cong : (a m : ℕ) (f g : ℕ → S → S) (s : S) → ((k : ℕ) (t : S) → a ≤ k → k < a + m → f k t ≡ g k t) → turns a m f s ≡ turns a m g s
  unfolding turns
  turns_cong a zero f g s e = refl
  turns_cong a (suc m) f g s e =
      ap (f (a + m)) (turns_cong a m f g s (λ k t h l. e k t h (omega arith))) ∙ e (a + m) (turns a m g s) (omega arith) (omega arith)

  turns_split : (a m d : ℕ) (f : ℕ → S → S) (s : S) → turns a (m + d) f s ≡ turns (a + m) d f (turns a m f s)
  unfolding turns
  turns_split a m zero f s = ap (λ (k : ℕ). turns a k f s) (add-zero m)
  turns_split a m (suc d) f s =
      let e : a + (m + d) ≡ a + m + d = omega arith in
      ap (λ (k : ℕ). turns a k f s) (add-suc m d) ∙ ap (λ (k : ℕ). f k (turns a (m + d) f s)) e ∙ ap (f (a + m + d)) (turns_split a m d f s)

  -- ---- upward

  pub upward_none : (a b : ℕ) (f : ℕ → S → S) (s : S) → b ≤ a → upward a b f s ≡ s
  unfolding upward turns
  upward_none a b f s h = let e : b - a ≡ 0 = omega arith in ap (λ (m : ℕ). turns a m f s) e

  pub upward-last : (a b : ℕ) (f : ℕ → S → S) (s : S) → a ≤ b → upward a (suc b) f s ≡ f b (upward a b f s)
  unfolding upward turns
  upward-last a b f s h =
      let e : suc b - a ≡ suc (b - a) = omega arith in
      let d : a + (b - a) ≡ b = omega arith in
      ap (λ (m : ℕ). turns a m f s) e ∙ ap (λ (k : ℕ). f k (turns a (b - a) f s)) d

  pub upward-first : (a b : ℕ) (f : ℕ → S → S) (s : S) → a < b → upward a b f s ≡ upward (suc a) b f (f a s)
  unfolding upward
  upward-first a b f s h =
      let e : b - a ≡ suc (b - suc a) = omega arith in
      ap (λ (m : ℕ). turns a m f s) e ∙ turns-first a (b - suc a) f s

  -- What holds at the start, and after a turn where it held before, holds at the end.
  pub upward_keeps : (P : ℕ → S → Type 0) (a b : ℕ) (f : ℕ → S → S) (s : S) → a ≤ b → P a s
      → ((k : ℕ) (t : S) → a ≤ k → k < b → P k t → P (suc k) (f k t)) → P b (upward a b f s)
  unfolding upward
  upward_keeps P a b f s h start step =
      let e : a + (b - a) ≡ b = omega arith in
      subst (λ (k : ℕ). P k (turns a (b - a) f s)) e (turns_keep P a f s start (b - a) (λ k t l m. step k t l (omega arith)))

  -- Only the turns of the range count.
  pub upward_cong : (a b : ℕ) (f g : ℕ → S → S) (s : S) → ((k : ℕ) (t : S) → a ≤ k → k < b → f k t ≡ g k t) → upward a b f s ≡ upward a b g s
  unfolding upward
  upward_cong a b f g s e = turns_cong a (b - a) f g s (λ k t h l. e k t h (omega arith))

  -- A run, cut in two.
  pub upward_split : (a b c : ℕ) (f : ℕ → S → S) (s : S) → a ≤ b → b ≤ c → upward a c f s ≡ upward b c f (upward a b f s)
  unfolding upward
  upward_split a b c f s h l =
      let e : c - a ≡ (b - a) + (c - b) = omega arith in
      let d : a + (b - a) ≡ b = omega arith in
      ap (λ (m : ℕ). turns a m f s) e ∙ turns_split a (b - a) (c - b) f s ∙ ap (λ (k : ℕ). turns k (c - b) f (turns a (b - a) f s)) d

  -- Turns that change nothing.
  pub upward_idle : (a b : ℕ) (f : ℕ → S → S) (s : S) → ((k : ℕ) → a ≤ k → k < b → f k s ≡ s) → upward a b f s ≡ s
  upward_idle a b f s idle = elim (dec_le a b) [
    | yes h ↦ upward_keeps (λ k t. t ≡ s) a b f s h refl (λ k t l m e. ap (f k) e ∙ idle k l m)
    | no h ↦ upward_none a b f s (omega arith)
  ]

  -- What a run has come to, and no later turn changes, is where it ends.
  pub upward_stays : (a b c : ℕ) (f : ℕ → S → S) (s t : S) → a ≤ b → b ≤ c → t ≡ upward a b f s → ((k : ℕ) → b ≤ k → k < c → f k t ≡ t)
      → t ≡ upward a c f s
  upward_stays a b c f s t h l e idle = sym (upward_split a b c f s h l ∙ ap (upward b c f) (sym e) ∙ upward_idle b c f t idle)

  -- ---- downward

  pub downward_none : (f : ℕ → S → S) (s : S) → downward 0 f s ≡ s
  unfolding downward
  downward_none f s = refl

  pub downward-first : (n : ℕ) (f : ℕ → S → S) (s : S) → downward (suc n) f s ≡ downward n f (f n s)
  unfolding downward
  downward-first n f s = refl

  pub downward_keeps : (P : ℕ → S → Type 0) (n : ℕ) (f : ℕ → S → S) (s : S) → P n s
      → ((k : ℕ) (t : S) → k < n → P (suc k) t → P k (f k t)) → P 0 (downward n f s)
  unfolding downward
  downward_keeps P zero f s start step = start
  downward_keeps P (suc n) f s start step =
      downward_keeps P n f (f n s) (step n s (omega arith) start) (λ k t h. step k t (omega arith))

-- ---- until

module _ {S R : Type 0} where
  -- A loop that was left stays left.
  left_stays : (a b : ℕ) (f : ℕ → S → Turn S R) (r : R) → upward a b (λ k t. and_then t (f k)) (left r) ≡ left r
  left_stays a b f r = upward_idle a b (λ k t. and_then t (f k)) (left r) (λ k l m. refl)

  pub until_none : (a b : ℕ) (f : ℕ → S → Turn S R) (s : S) → b ≤ a → until a b f s ≡ on s
  unfolding until
  until_none a b f s h = upward_none a b (λ k t. and_then t (f k)) (on s) h

  pub until-last : (a b : ℕ) (f : ℕ → S → Turn S R) (s : S) → a ≤ b → until a (suc b) f s ≡ and_then (until a b f s) (f b)
  unfolding until
  until-last a b f s h = upward-last a b (λ k t. and_then t (f k)) (on s) h

  pub until-first : (a b : ℕ) (f : ℕ → S → Turn S R) (s : S) → a < b → until a b f s ≡ and_then (f a s) (until (suc a) b f)
  unfolding until
  until-first a b f s h = upward-first a b (λ k t. and_then t (f k)) (on s) h ∙ go (f a s)
    where
      go : (t : Turn S R) → upward (suc a) b (λ k x. and_then x (f k)) t ≡ and_then t (λ x. upward (suc a) b (λ k y. and_then y (f k)) (on x))
      go (on x) = refl
      go (left r) = left_stays (suc a) b f r

-- ---- the first place of a test

-- What is found among the first k: a place below k at which the test holds, or k itself; and it holds at no place before.
record Sought (test : ℕ → Bool) (k found : ℕ) : Type 0 where
  reach : found ≤ k
  holds : found < k → test found ≡ true
  before : (i : ℕ) → i < found → test i ≡ false

abbrev seek : (ℕ → Bool) → ℕ → ℕ → ℕ
seek test k found = cond (ltb found k) found (cond (test k) k (suc k))

module _ (test : ℕ → Bool) where
  sought_more : (k found : ℕ) → Sought test k found → Sought test (suc k) (seek test k found)
  sought_more k found h = by (dec_lt found k) (test k) refl
    where
      by : Dec (found < k) → (t : Bool) → test k ≡ t → Sought test (suc k) (seek test k found)
      by (yes l) t e =
          rw (lt-ltb found k l) (record { reach = omega (arith, h.reach); holds = λ m. h.holds l; before = h.before })
      by (no l) true e =
          let same : found ≡ k = omega (arith, h.reach) in
          rw (le-ltb found k (omega arith), e)
          (record { reach = omega arith; holds = λ m. e; before = λ i m. h.before i (omega arith) })
      by (no l) false e =
          let same : found ≡ k = omega (arith, h.reach) in
          rw (le-ltb found k (omega arith), e)
          (record { reach = omega arith; holds = λ m. absurd (omega arith); before = below_suc same })
        where
          below_suc : found ≡ k → (i : ℕ) → i < suc k → test i ≡ false
          below_suc same i m = elim (dec_lt i k) [ yes l ↦ h.before i (omega arith) | no l ↦ let s : i ≡ k = omega arith in ap test s ∙ e ]

  sought : (n : ℕ) → Sought test n (first n test)
  unfolding first
  sought n =
      upward_keeps (Sought test) 0 n (seek test) 0 (omega arith)
      (record { reach = omega arith; holds = λ l. absurd (omega arith); before = λ i l. absurd (omega arith) })
      (λ k found l m h. sought_more k found h)

  pub first_le : (n : ℕ) → first n test ≤ n
  first_le n = (sought n).reach

  pub first_holds : (n : ℕ) → first n test < n → test (first n test) ≡ true
  first_holds n = (sought n).holds

  pub first_before : (n i : ℕ) → i < first n test → test i ≡ false
  first_before n = (sought n).before

  -- A place at which the test holds, and before which it holds nowhere, is the first.
  pub first-at : (n k : ℕ) → k < n → test k ≡ true → ((i : ℕ) → i < k → test i ≡ false) → first n test ≡ k
  first-at n k l e f = by (dec_lt (first n test) k) (dec_lt k (first n test))
    where
      by : Dec (first n test < k) → Dec (k < first n test) → first n test ≡ k
      by (yes h) g = absurd (true≢false (sym (first_holds n (omega arith)) ∙ f (first n test) h))
      by (no h) (yes g) = absurd (true≢false (sym e ∙ first_before n k g))
      by (no h) (no g) = omega arith

  pub first_none : (n : ℕ) → ((i : ℕ) → i < n → test i ≡ false) → first n test ≡ n
  first_none n f = by (dec_lt (first n test) n)
    where
      by : Dec (first n test < n) → first n test ≡ n
      by (yes h) = absurd (true≢false (sym (first_holds n h) ∙ f (first n test) h))
      by (no h) = omega (arith, first_le n)
