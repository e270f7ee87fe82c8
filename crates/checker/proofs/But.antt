-- A test of the rows but one: what it says of that row and of the others; and where the row left out is no row, nothing is left out. Assumes nothing.
use mathlib.Core.Path.{◌≡◌, sym, ap, ◌∙◌}
use mathlib.Core.Bool.{Bool, true, false, not, ◌&&◌, true≢false}
use mathlib.Core.Logic.{◌≢◌, ◌↔◌}
use Prim.Native.Nat.{ℕ, ◌<◌}
use native.Mathlib.Decide.{ℕ_discrete}
use native.Mathlib.Omega.{arith}
use borrow.Author.Tests.{eq-eqb, ne_eqb}
use lib.Dec.{ltb}
use mathlib.Core.List.{List}
use lib.IntN.{ℤ}
use Rattle.matrix.specs.Verdicts.{fails_by, fails_at_by}
use Rattle.matrix.specs.declared.refusals.Reason.{Reason}
use Rattle.matrix.proofs.First.{Clear, first_cong}
use Rattle.bars.specs.Barred.{night_of}
use Rattle.checker.specs.Tests.{but, under_costs, under_costs_but, tight_on, tight_on_but}

pub but_self : (s : ℕ) (test : ℕ → Bool) (i : ℕ) → i ≡ s → but s test i ≡ false
but_self s test i e = ap (λ (t : Bool). not t && test i) (eq-eqb i s e)

pub but_other : (s : ℕ) (test : ℕ → Bool) (i : ℕ) → i ≢ s → but s test i ≡ test i
but_other s test i d = ap (λ (t : Bool). not t && test i) (ne_eqb i s d)

pub but_holds : (s : ℕ) (test : ℕ → Bool) (i : ℕ) → but s test i ≡ true → test i ≡ true
but_holds s test i e = elim (ℕ_discrete i s) [ yes same ↦ absurd (true≢false (sym e ∙ but_self s test i same)) | no d ↦ sym (but_other s test i d) ∙ e ]

pub but_clear : (s : ℕ) (test : ℕ → Bool) (n : ℕ) → Clear (but s test) n ↔ ((i : ℕ) → i < n → i ≢ s → test i ≡ false)
but_clear s test n = (
  λ clear i l d. sym (but_other s test i d) ∙ clear i l,
  λ h i l. elim (ℕ_discrete i s) [ yes e ↦ but_self s test i e | no d ↦ but_other s test i d ∙ h i l d ],
)

-- Row n is no row.
pub but_none : (reason : Reason) (place : ℕ → ℕ) (slack : ℕ → ℤ) (n : ℕ) (test : ℕ → Bool)
    → fails_at_by reason place slack n (but n test) ≡ fails_at_by reason place slack n test
unfolding fails_at_by
but_none reason place slack n test =
    ap (λ (k : ℕ). fails_by reason (place k) (slack k) (ltb k n)) (first_cong n (but n test) test (λ i l. but_other n test i (λ e. omega arith)))

-- So all rows are tested where that one is left out.
module _ (m n : ℕ) (costs us vs : List ℤ) (bars : List ℕ) where
  pub under_all : under_costs_but m (night_of m n costs bars) us vs ≡ under_costs (night_of m n costs bars) us vs
  under_all = but_none _ _ _ _ _

  pub tight_all : (cols : List ℕ) → tight_on_but m (night_of m n costs bars) cols us vs ≡ tight_on (night_of m n costs bars) cols us vs
  tight_all cols = but_none _ _ _ _ _
