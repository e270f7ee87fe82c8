-- The first number of a range that passes a test, as a search over the range answers it; and that it is the first of all where none before the
-- range passes. Assumes nothing.
use Rattle.std.proofs.Common.{◌≡◌, sym, ◌∙◌, Bool, true, false, Option, Some, None, ℕ, ◌≤◌, ◌<◌, arith}
use Rattle.std.specs.Prelude.{MatchOption}
use native.Mathlib.Decide.{dec_lt}
use Rattle.lists.specs.Runs.{Finds, FindsFrom}

module _ (a b : ℕ) (test : ℕ → Bool) where
  -- What std says of a search over a range.
  pub finds_from : (r : Option ℕ)
      → MatchOption r ((k : ℕ) → a ≤ k → k < b → test k ≡ false) (λ i. (a ≤ i) × (i < b) × (test i ≡ true) × ((k : ℕ) → a ≤ k → k < i → test k ≡ false))
      → FindsFrom a b (λ k t. test k ≡ t) r
  finds_from None h = h
  finds_from (Some i) h = h

-- No number before a and none from b to n passes; below b the test is this one.
module _ (a b n : ℕ) (b≤n : b ≤ n) (test leads : ℕ → Bool) (same : (k : ℕ) → k < b → test k ≡ leads k)
    (before : (k : ℕ) → k < a → leads k ≡ false) (above : (k : ℕ) → b ≤ k → k < n → leads k ≡ false) where
  pub finds_all : (r : Option ℕ) → FindsFrom a b (λ k t. test k ≡ t) r → Finds n leads r
  finds_all None h = λ k l. by k l (dec_lt k a) (dec_lt k b)
    where
      by : (k : ℕ) → k < n → Dec (k < a) → Dec (k < b) → leads k ≡ false
      by k l (yes p) d = before k p
      by k l (no p) (yes q) = sym (same k q) ∙ h k (omega arith) q
      by k l (no p) (no q) = above k (omega arith) l
  finds_all (Some i) h = (omega (arith, h.1), sym (same i h.1) ∙ h.2, λ k l. by k l (dec_lt k a))
    where
      by : (k : ℕ) → k < i → Dec (k < a) → leads k ≡ false
      by k l (yes p) = before k p
      by k l (no p) = sym (same k (omega (arith, h.1))) ∙ h.3 k (omega arith) l
