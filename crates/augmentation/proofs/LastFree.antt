-- The last free column of a block, found from its end. Assumes nothing.
use mathlib.Core.Path.{◌≡◌, sym, ap, ◌∙◌}
use mathlib.Core.Bool.{Bool, true, false, cond}
use mathlib.Core.List.{List}
use Prim.Native.Nat.{ℕ, suc, ◌≤◌, ◌<◌}
use native.Mathlib.Omega.{arith}
use borrow.Author.Tests.{lt-ltb, le-ltb, leb-true, leb-false}
use lib.Dec.{leb, ltb}
use Rattle.std.specs.Prelude.{Option, Some, None}
use Rattle.std.specs.Option.{option_map}
use Rattle.lists.specs.Permutations.{at}
use Rattle.lists.specs.Runs.{upward}
use Rattle.lists.proofs.Runs.{upward_split, upward-first, upward_idle}
use Rattle.rules.specs.Search.{last_free}

-- The last number from a on, and below b, at which a test holds.
abbrev pub LastFrom : ℕ → ℕ → (ℕ → Bool) → Option ℕ → Type 0
LastFrom a b test None = (k : ℕ) → a ≤ k → k < b → test k ≡ false
LastFrom a b test (Some j) = (a ≤ j) × (j < b) × (test j ≡ true) × ((k : ℕ) → j < k → k < b → test k ≡ false)

module _ (n : ℕ) (row : ℕ → ℕ) (list : List ℕ) (lo hi : ℕ) where
  abbrev free : ℕ → Bool
  free k = leb n (row (at list k))

  abbrev step : ℕ → Option ℕ → Option ℕ
  step k found = cond (ltb (row (at list k)) n) found (Some (at list k))

  -- A column that is not free changes nothing.
  passes : (k : ℕ) (found : Option ℕ) → free k ≡ false → step k found ≡ found
  passes k found e = rw (lt-ltb (row (at list k)) n (leb-false n (row (at list k)) e))

  pub last_free_by : lo ≤ hi → (place : Option ℕ) → LastFrom lo hi free place → option_map (at list) place ≡ last_free n row list lo hi
  unfolding last_free
  last_free_by l None h = sym (upward_idle lo hi step None (λ k a b. passes k None (h k a b)))
  last_free_by l (Some j) h =
      let here : step j (upward lo j step None) ≡ Some (at list j) = rw (le-ltb (row (at list j)) n (leb-true n (row (at list j)) h.2)) in
      sym (upward_split lo j hi step None h.0 (omega (arith, h.1)) ∙ upward-first j hi step (upward lo j step None) h.1
      ∙ ap (upward (suc j) hi step) here
      ∙ upward_idle (suc j) hi step (Some (at list j)) (λ k a b. passes k (Some (at list j)) (h.3 k (omega arith) b)))
