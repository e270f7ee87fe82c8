-- What a loop that looks for the first place of a test knows: the test holds at no place passed. Assumes nothing.
use mathlib.Core.Path.{◌≡◌, sym, ap, ◌∙◌}
use mathlib.Core.Bool.{Bool, true, false, cond}
use Prim.Native.Nat.{ℕ, suc, ◌+◌, ◌≤◌, ◌<◌}
use native.Mathlib.Omega.{arith}
use borrow.Author.Count.{below_none, below_more}
use lib.Dec.{ltb}
use Rattle.lists.specs.Runs.{first}
use Rattle.lists.proofs.Runs.{upward_cong, first-at, first_none, first_before}

-- The test holds at no place below i.
abbrev pub Clear : (ℕ → Bool) → ℕ → Type 0
Clear test i = (k : ℕ) → k < i → test k ≡ false

module _ (test : ℕ → Bool) where
  pub clear_start : Clear test 0
  clear_start = below_none (λ k. test k ≡ false)

  pub clear_more : (i : ℕ) → Clear test i → test i ≡ false → Clear test (i + 1)
  clear_more = below_more (λ k. test k ≡ false)

  -- The loop is left at i, where the test holds.
  pub found : (n i : ℕ) → i < n → Clear test i → test i ≡ true → i ≡ first n test
  found n i l clear e = sym (first-at test n i l e clear)

  -- The loop ends.
  pub ended : (n i : ℕ) → i ≡ n → Clear test i → i ≡ first n test
  ended n i e clear = e ∙ sym (first_none test n (λ k l. clear k (omega arith)))

  -- Where no place was found, the test holds at none.
  pub nowhere : (n : ℕ) → n ≤ first n test → Clear test n
  nowhere n h k l = first_before test n k (omega arith)

-- Only the places below n count.
pub first_cong : (n : ℕ) (f g : ℕ → Bool) → ((i : ℕ) → i < n → f i ≡ g i) → first n f ≡ first n g
unfolding first
first_cong n f g same =
    upward_cong 0 n _ _ 0 (λ k found h l. ap (λ (t : Bool). cond (ltb found k) found (cond t k (suc k))) (same k l))
