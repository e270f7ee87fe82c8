-- The promise of a repair determines the answer and every lent entry: two outcomes that meet it are equal. Assumes nothing.
use mathlib.Core.Path.{◌≡◌, sym, ap, ap₂, ◌∙◌}
use mathlib.Core.List.{List}
use Prim.Native.Nat.{ℕ}
use lib.IntN.{ℤ}
use Rattle.matrix.proofs.Determined.{values_determine}
use Rattle.lapjv.specs.Solve.{Lent}
use Rattle.repair.specs.Repair.{Outcome, outcome_of, repair}
use Rattle.repair.specs.Values.{Told, told_of}

pub told_determines : (outcome other : Outcome) → told_of outcome ≡ told_of other → outcome ≡ other
told_determines outcome other e =
    ap₂ outcome_of (values_determine outcome.answer other.answer (ap (λ (t : Told). t.values) e)) (ap (λ (t : Told). t.lent) e)

pub repair_determined : (n : ℕ) (costs : List ℤ) (row : ℕ) (lent : Lent) (outcome other : Outcome)
    → told_of outcome ≡ told_of (repair n costs row lent) → told_of other ≡ told_of (repair n costs row lent) → outcome ≡ other
repair_determined n costs row lent outcome other e f = told_determines outcome other (e ∙ sym f)
