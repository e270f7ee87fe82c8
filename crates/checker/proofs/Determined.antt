-- The checker's promises determine its answers: two answers that meet one are equal. Nothing is lent to be written. Assumes nothing.
use mathlib.Core.Path.{◌≡◌, sym, ◌∙◌}
use mathlib.Core.List.{List}
use Prim.Native.Nat.{ℕ}
use lib.IntN.{ℤ}
use Rattle.matrix.specs.Answers.{values_of}
use Rattle.matrix.specs.Answers.{Answer}
use Rattle.matrix.proofs.Determined.{values_determine}
use Rattle.checker.specs.Check.{check, check_barred, check_oblong}

pub check_determined : (n : ℕ) (costs : List ℤ) (cols rows : List ℕ) (us vs : List ℤ) (answer other : Answer)
    → values_of answer ≡ values_of (check n costs cols rows us vs) → values_of other ≡ values_of (check n costs cols rows us vs) → answer ≡ other
check_determined n costs cols rows us vs answer other e f = values_determine answer other (e ∙ sym f)

pub check_barred_determined : (n : ℕ) (costs : List ℤ) (cols rows : List ℕ) (us vs : List ℤ) (bars : List ℕ) (answer other : Answer)
    → values_of answer ≡ values_of (check_barred n costs cols rows us vs bars) → values_of other ≡ values_of (check_barred n costs cols rows us vs bars) → answer ≡ other
check_barred_determined n costs cols rows us vs bars answer other e f = values_determine answer other (e ∙ sym f)

pub check_oblong_determined : (m n : ℕ) (costs : List ℤ) (cols : List ℕ) (us vs : List ℤ) (answer other : Answer)
    → values_of answer ≡ values_of (check_oblong m n costs cols us vs) → values_of other ≡ values_of (check_oblong m n costs cols us vs) → answer ≡ other
check_oblong_determined m n costs cols us vs answer other e f = values_determine answer other (e ∙ sym f)
