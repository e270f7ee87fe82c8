-- Rule 5: the last free column of a fresh block is a free column of it, and where there is none, no column of it is free. Assumes nothing.
use mathlib.Core.Path.{◌≡◌, refl}
use mathlib.Core.Bool.{cond}
use mathlib.Core.List.{List}
use Prim.Native.Nat.{ℕ, suc, ◌≤◌, ◌<◌}
use native.Mathlib.Omega.{arith}
use borrow.Author.Tests.{ltb-true, ltb-false}
use lib.Dec.{ltb}
use Rattle.std.specs.Prelude.{Option, Some, None}
use Rattle.lists.specs.Permutations.{at}
use Rattle.lists.proofs.Runs.{upward_keeps}
use Rattle.lists.proofs.Cases.{cond_cases, below_suc}
use Rattle.rules.specs.Search.{last_free}

module _ (n : ℕ) (row : ℕ → ℕ) (list : List ℕ) (lo : ℕ) where
  -- Among the places from lo up to k: none is free, or a free one.
  abbrev pub Sought : ℕ → Option ℕ → Type 0
  Sought k None = (t : ℕ) → lo ≤ t → t < k → row (at list t) < n
  Sought k (Some j) = (t : ℕ) × (lo ≤ t) × (t < k) × (at list t ≡ j) × (n ≤ row j)

  more_sought : (k : ℕ) (o : Option ℕ) → row (at list k) < n → Sought k o → Sought (suc k) o
  more_sought k None h S = λ t a m. below_suc (λ t. lo ≤ t → row (at list t) < n) (λ t l b. S t b l) (λ b. h) t m a
  more_sought k (Some j) h S = (S.0, S.1, omega (arith, S.2), S.3, S.4)

  pub last_free_sought : (hi : ℕ) → lo ≤ hi → Sought hi (last_free n row list lo hi)
  unfolding last_free
  last_free_sought hi h =
      upward_keeps Sought lo hi (λ k found. cond (ltb (row (at list k)) n) found (Some (at list k))) None h (λ t a m. absurd (omega arith))
      (λ k o a m S. cond_cases (ltb (row (at list k)) n) (Sought (suc k)) o (Some (at list k))
      (λ e. more_sought k o (ltb-true (row (at list k)) n e) S)
      (λ e. (k, a, omega arith, refl, ltb-false (row (at list k)) n e)))
