-- Fair prices: each paired row sits at its minimum. How far fair prices can lie below a column's price, and what a row pays. Assumes nothing.
use Prim.Native.Nat.{ℕ, ◌+◌, ◌*◌, ◌≤◌, ◌<◌}
use native.Mathlib.Omega.{arith}
use lib.IntN.{ℤ, pos, ◌+ℤ◌}
use lib.Signed.{◌≤ℤ◌}
use Rattle.ints.specs.Parts.{up, down, Within}
use Rattle.ints.proofs.Shapes.{zlin}
use Rattle.lists.proofs.Cases.{lt_or_le}
use Rattle.rules.specs.Lowest.{reduced}
use Rattle.rules.specs.Asked.{AtMinimum, Fair}
use mathlib.Core.Logic.{inl, inr}

-- z is -k or more.
pub record NotBelow (k : ℕ) (z : ℤ) : Type 0 where
  pub low : down z ≤ up z + k

module _ (n : ℕ) (cost : ℕ → ℕ → ℤ) where
  -- Costs in -K..K.
  module _ (K : ℕ) (costs : (i j : ℕ) → Within K (cost i j)) where
    -- Where a row sits at its minimum on j, the price of j is less than 2K below any other's.
    pub minimum_near : (v : ℕ → ℤ) (i j f : ℕ) → f < n → AtMinimum n cost v i j → v f ≤ℤ (v j +ℤ pos (2 * K))
    minimum_near v i j f l m = omega (zlin, m.no_less f l, costs i j, costs i f)

    -- Fair prices where column f is at -B or more: paired columns are at -(B + 2K) or more.
    pub fair_near : (v : ℕ → ℤ) (row : ℕ → ℕ) (f B : ℕ) → f < n → NotBelow B (v f) → Fair n cost v row → (k : ℕ) → k < n → row k < n → NotBelow (B + 2 * K) (v k)
    fair_near v row f B l low F k m h =
        record { low = omega (zlin, minimum_near v (row k) k f l (F.paired_at_minimum k m h), low.low) }

    -- Where free columns and one column are at -K or more, all are at -3K or more.
    pub all_near : (v : ℕ → ℤ) (row : ℕ → ℕ) (f : ℕ) → f < n → NotBelow K (v f) → Fair n cost v row → ((k : ℕ) → k < n → n ≤ row k → NotBelow K (v k))
        → (k : ℕ) → k < n → NotBelow (3 * K) (v k)
    all_near v row f l low F free k m = elim (lt_or_le (row k) n) [
      | inl h ↦ record { low = omega (arith, (fair_near v row f K l low F k m h).low) }
      | inr h ↦ record { low = omega (arith, (free k m h).low) }
    ]

    -- A row at its minimum pays at most K + B where some column is at -B or more.
    pub minimum_pays : (v : ℕ → ℤ) (i j f B : ℕ) → f < n → NotBelow B (v f) → AtMinimum n cost v i j → reduced cost v i j ≤ℤ pos (K + B)
    minimum_pays v i j f B l low m = omega (zlin, m.no_less f l, costs i f, low.low)
