-- A counted loop as code runs it: before its first turn, and after the turn at k. Assumes nothing.
use Rattle.std.proofs.Common.{◌≡◌, ℕ, suc, ◌+◌, ap, ◌∙◌, arith}
use lib.Seq.{length-take-le, get_or-take}
use Rattle.lists.specs.Runs.{upward}
use Rattle.lists.proofs.Runs.{upward_none, upward-last}

module _ {S : Type 0} where
  pub upward_start : (f : ℕ → S → S) (s : S) → upward 0 0 f s ≡ s
  upward_start f s = upward_none 0 0 f s (omega arith)

  pub upward_next : (k : ℕ) (f : ℕ → S → S) (s : S) → upward 0 (k + 1) f s ≡ f k (upward 0 k f s)
  upward_next k f s = let e : k + 1 ≡ suc k = omega arith in ap (λ (n : ℕ). upward 0 n f s) e ∙ upward-last 0 k f s (omega arith)

-- With what stands in the first entries of a list.
pub ruleset run = (upward_start, upward_next, length-take-le, get_or-take)
