-- Loops that may be left: what every turn keeps, a loop that was left within a longer range, and the first of so many like turns. Assumes nothing.
use mathlib.Core.Path.{◌≡◌, refl, sym, ap, ◌∙◌}
use Prim.Native.Nat.{ℕ, zero, suc, ◌-◌, ◌≤◌, ◌<◌}
use native.Mathlib.Omega.{arith}
use Rattle.lists.specs.Runs.{turns, upward, Turn, on, left, and_then, until}
use Rattle.lists.proofs.Runs.{upward_keeps, upward_stays, until-first}

-- A loop goes on with a state of which P holds, or is left with a result of which Q holds.
pub data Either {S R : Type 0} (P : S → Type 0) (Q : R → Type 0) : Turn S R → Type 0 where
  goes_on : {s : S} → P s → Either P Q (on s)
  is_left_lem : {r : R} → Q r → Either P Q (left r)

module _ {S R : Type 0} where
  pub either_map : {P P' : S → Type 0} {Q Q' : R → Type 0} {t : Turn S R} → Either P Q t → ((s : S) → P s → P' s) → ((r : R) → Q r → Q' r) → Either P' Q' t
  either_map (goes_on {s} p) f g = goes_on (f s p)
  either_map (is_left_lem {r} q) f g = is_left_lem (g r q)

  pub either_then : {P P' : S → Type 0} {Q : R → Type 0} {t : Turn S R} → Either P Q t → (f : S → Turn S R) → ((s : S) → P s → Either P' Q (f s)) → Either P' Q (and_then t f)
  either_then (goes_on {s} p) f g = g s p
  either_then (is_left_lem q) f g = is_left_lem q

  -- What every turn keeps holds at the end.
  pub until_keeps : (P : ℕ → S → Type 0) (Q : R → Type 0) (a b : ℕ) (f : ℕ → S → Turn S R) (s : S) → a ≤ b → P a s
      → ((k : ℕ) (t : S) → a ≤ k → k < b → P k t → Either (P (suc k)) Q (f k t)) → Either (P b) Q (until a b f s)
  unfolding until
  until_keeps P Q a b f s h start step =
      upward_keeps (λ k. Either (P k) Q) a b (λ k t. and_then t (f k)) (on s) h (goes_on start)
      (λ k t l m e. either_then e (f k) (λ x p. step k x l m p))

  -- A loop that was left within a range is left with the same within a longer one.
  pub until-longer : (a b : ℕ) (f : ℕ → S → Turn S R) (s : S) (r : R) → a ≤ b → until a b f s ≡ left r → (c : ℕ) → b ≤ c → until a c f s ≡ left r
  unfolding until
  until-longer a b f s r h e c g = sym (upward_stays a b c (λ k t. and_then t (f k)) (on s) (left r) h g (sym e) (λ k l m. refl))

-- ---- a turn that does not use its number

module _ {S R : Type 0} (f : S → Turn S R) where
  turns_anywhere : (a b m : ℕ) (t : Turn S R) → turns a m (λ k x. and_then x f) t ≡ turns b m (λ k x. and_then x f) t
  unfolding turns
  turns_anywhere a b zero t = refl
  turns_anywhere a b (suc m) t = ap (λ (x : Turn S R). and_then x f) (turns_anywhere a b m t)

  shifted : (m : ℕ) (x : S) → until 1 (suc m) (λ k. f) x ≡ until 0 m (λ k. f) x
  unfolding until upward
  shifted m x =
      let e : suc m - 1 ≡ m - 0 = omega arith in
      ap (λ (k : ℕ). turns 1 k (λ i t. and_then t f) (on x)) e ∙ turns_anywhere 1 0 (m - 0) (on x)

  -- The first of m + 1 turns, and the rest.
  pub repeat_first : (m : ℕ) (s : S) → until 0 (suc m) (λ k. f) s ≡ and_then (f s) (until 0 m (λ k. f))
  repeat_first m s = until-first 0 (suc m) (λ k. f) s (omega arith) ∙ go (f s)
    where
      go : (t : Turn S R) → and_then t (until 1 (suc m) (λ k. f)) ≡ and_then t (until 0 m (λ k. f))
      go (on x) = shifted m x
      go (left r) = refl
