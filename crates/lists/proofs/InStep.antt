-- Two loops in step: what every turn of both keeps of their two states holds at the end. So a loop whose every turn makes the picture of what another's
-- makes ends with the picture of the other's end; and two loops that may be left are equal where their turns are, wherever the loop comes. Assumes nothing.
use mathlib.Core.Path.{◌≡◌, refl, sym, ap, ◌∙◌, subst}
use Prim.Native.Nat.{ℕ, zero, suc, ◌+◌, ◌-◌, ◌≤◌, ◌<◌}
use native.Mathlib.Nat.{add-zero}
use native.Mathlib.Omega.{arith}
use Rattle.lists.specs.Runs.{turns, upward, Turn, on, and_then, until}
use Rattle.lists.proofs.Leaving.{Either, goes_on, is_left_lem, either_then}

module _ {S T : Type 0} where
  turns_both : (R : ℕ → S → T → Type 0) (a : ℕ) (f : ℕ → S → S) (g : ℕ → T → T) (s : S) (t : T) → R a s t → (m : ℕ)
      → ((k : ℕ) (x : S) (y : T) → a ≤ k → k < a + m → R k x y → R (suc k) (f k x) (g k y)) → R (a + m) (turns a m f s) (turns a m g t)
  unfolding turns
  turns_both R a f g s t start zero step = subst (λ (k : ℕ). R k s t) (sym (add-zero a)) start
  turns_both R a f g s t start (suc m) step =
      let e : suc (a + m) ≡ a + suc m = omega arith in
      subst (λ (k : ℕ). R k (f (a + m) (turns a m f s)) (g (a + m) (turns a m g t))) e
      (step (a + m) (turns a m f s) (turns a m g t) (omega arith) (omega arith) (turns_both R a f g s t start m (λ k x y h l. step k x y h (omega arith))))

  -- What holds of both starts, and after a turn of both where it held before, holds of both ends.
  pub upward_both : (R : ℕ → S → T → Type 0) (a b : ℕ) (f : ℕ → S → S) (g : ℕ → T → T) (s : S) (t : T) → a ≤ b → R a s t
      → ((k : ℕ) (x : S) (y : T) → a ≤ k → k < b → R k x y → R (suc k) (f k x) (g k y)) → R b (upward a b f s) (upward a b g t)
  unfolding upward
  upward_both R a b f g s t h start step =
      let e : a + (b - a) ≡ b = omega arith in
      subst (λ (k : ℕ). R k (turns a (b - a) f s) (turns a (b - a) g t)) e (turns_both R a f g s t start (b - a) (λ k x y l m. step k x y l (omega arith)))

  -- A loop on pictures: P is what the first loop keeps, and where P holds a turn of the second makes the picture of what the first makes.
  pub upward_picture : (P : ℕ → S → Type 0) (picture : S → T) (a b : ℕ) (f : ℕ → S → S) (g : ℕ → T → T) (s : S) → a ≤ b → P a s
      → ((k : ℕ) (x : S) → a ≤ k → k < b → P k x → P (suc k) (f k x) × (g k (picture x) ≡ picture (f k x)))
      → P b (upward a b f s) × (upward a b g (picture s) ≡ picture (upward a b f s))
  upward_picture P picture a b f g s h start step =
      upward_both (λ k x y. P k x × (y ≡ picture x)) a b f g s (picture s) h (start, refl)
      (λ k x y l m r. let z = step k x l m r.0 in (z.0, ap (g k) r.1 ∙ z.1))

module _ {S R : Type 0} where
  either_same : {P : S → Type 0} {Q : R → Type 0} {t : Turn S R} → Either P Q t → (f g : S → Turn S R) → ((s : S) → P s → f s ≡ g s) → and_then t f ≡ and_then t g
  either_same (goes_on {s} p) f g e = e s p
  either_same (is_left_lem q) f g e = refl

  -- Two loops that may be left, from one state: P is what the first keeps, and where P holds the turns of both are equal.
  pub until-same : (P : ℕ → S → Type 0) (Q : R → Type 0) (a b : ℕ) (f g : ℕ → S → Turn S R) (s : S) → a ≤ b → P a s
      → ((k : ℕ) (x : S) → a ≤ k → k < b → P k x → Either (P (suc k)) Q (f k x) × (f k x ≡ g k x))
      → Either (P b) Q (until a b f s) × (until a b f s ≡ until a b g s)
  unfolding until
  until-same P Q a b f g s h start step =
      upward_both (λ k x y. Either (P k) Q x × (x ≡ y)) a b (λ k t. and_then t (f k)) (λ k t. and_then t (g k)) (on s) (on s) h (goes_on start, refl)
      (λ k x y l m r. (
        either_then r.0 (f k) (λ z p. (step k z l m p).0),
        either_same r.0 (f k) (g k) (λ z p. (step k z l m p).1) ∙ ap (λ (t : Turn S R). and_then t (g k)) r.1,
      ))
