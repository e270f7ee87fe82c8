-- No refusal of a sheet has a slack. Assumes nothing.
use mathlib.Core.Path.{◌≡◌}
use mathlib.Core.List.{List}
use Prim.Native.Nat.{ℕ}
use Rattle.matrix.specs.Verdicts.{bare}
use Rattle.matrix.proofs.Verdicts.{bare_then, bare_if, bare-at}
use Rattle.sheet.specs.Reading.{Laid, sheet_tests, night_tests}

-- The tests before the costs, and those of the night.
pub sheet_bare : (room : ℕ) (sheet : List ℕ) (laid : Laid) → (bare (sheet_tests room sheet) ≡ sheet_tests room sheet) × (bare (night_tests laid) ≡ night_tests laid)
unfolding sheet_tests
sheet_bare room sheet laid = (
  bare_then _ _
      (bare_then _ _
      (bare_then _ _
      (bare_then _ _
      (bare_then _ _ (bare_then _ _ (bare_then _ _ (bare_if _ _ _ _) (bare_if _ _ _ _)) (bare_if _ _ _ _)) (bare_if _ _ _ _))
      (bare_then _ _ (bare_if _ _ _ _) (bare_if _ _ _ _)))
      (bare_then _ _ (bare_if _ _ _ _) (bare_if _ _ _ _)))
      (bare-at _ _ _ _ _))
      (bare_if _ _ _ _),
  bare_then _ _ (bare-at _ _ _ _ _) (bare-at _ _ _ _ _),
)
