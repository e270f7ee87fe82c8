-- A sheet's night and a slip, one test after another, as code takes them. Assumes nothing.
use mathlib.Core.Path.{◌≡◌, refl, sym, ap, ◌∙◌}
use mathlib.Core.Bool.{Bool, true, false, ◌||◌}
use mathlib.Core.List.{List}
use Prim.Native.Nat.{ℕ, ◌+◌, ◌*◌, ◌≤◌}
use native.Mathlib.Omega.{arith}
use lib.ListN.{length}
use borrow.Author.Tests.{eqb-true, not-false}
use Rattle.layout.specs.Slips.{slip_length}
use Rattle.matrix.specs.Limits.{sheet_side}
use Rattle.matrix.specs.Verdicts.{Passes, ◌then◌, fails_if}
use Rattle.matrix.specs.declared.refusals.Refusal.{Refusal}
use Rattle.matrix.specs.Verdicts.{Verdict}
use Rattle.std.specs.Prelude.{Ok, Err}
use Rattle.matrix.proofs.Verdicts.{then_iff, fails_then}
use Rattle.sheet.specs.Reading.{Laid, laid_of, sheet_tests, night_tests, night_tested, read}
use Rattle.audit.specs.Audit.{unlike, slip_tests, total_right, audit_tests, audited_by, audited_as, audit}
use Rattle.matrix.specs.declared.refusals.Reason.TheVariants.{SlipWrong}
use Rattle.audit.specs.Audit.{Audited}
use Rattle.audit.proofs.Slips.{audited_fails}

or_neither : (a b : Bool) → (a || b) ≡ false → a ≡ false
or_neither true b e = e
or_neither false b e = refl

-- A slip of an edition, rows and a side has its length, and so what it says lies within it.
pub like_length : (edition m n : ℕ) (slip : List ℕ) → unlike edition m n slip ≡ false → length slip ≡ slip_length edition m n
unfolding unlike
like_length edition m n slip e = eqb-true (length slip) (slip_length edition m n) (not-false _ (or_neither _ _ e))

pub like_long : (edition m n : ℕ) (slip : List ℕ) → unlike edition m n slip ≡ false → 10 * m + 8 * n + 8 ≤ length slip
like_long edition m n slip e = omega (arith, like_length edition m n slip e)

module _ (laid : Laid) (slip : List ℕ) where
  abbrev m : ℕ
  m = laid.row_count

  abbrev n : ℕ
  n = laid.side

  abbrev formed : Verdict
  formed = fails_if SlipWrong 0 (unlike laid.edition m n slip)

  abbrev rest : Verdict
  rest = slip_tests m n laid.costs laid.bars slip then total_right m n laid.costs laid.bars slip

  night_fails : {refusal : Refusal} → night_tests laid ≡ Err refusal → Err refusal ≡ audited_as slip (night_tested laid)
  night_fails e = rw e refl

  module _ (passed : Passes (night_tests laid)) where
    night_passes : audited_as slip (night_tested laid) ≡ audited_by m n slip (audit_tests laid slip)
    night_passes = rw passed refl

    form_fails : {refusal : Refusal} → formed ≡ Err refusal → Err refusal ≡ audited_as slip (night_tested laid)
    unfolding audit_tests
    form_fails e = audited_fails m n slip (sym (fails_then _ (sym (fails_then _ e)))) ∙ sym night_passes

    form_passes : Passes formed → (r : Audited) → r ≡ audited_by m n slip rest → r ≡ audited_as slip (night_tested laid)
    unfolding audit_tests
    form_passes e r f =
        f ∙ ap (λ (v : Verdict). audited_by m n slip (v then slip_tests m n laid.costs laid.bars slip then total_right m n laid.costs laid.bars slip)) (sym e)
        ∙ sym night_passes

  -- 5, 22 and 25, refused and passed.
  pub tests_fail : {refusal : Refusal} → (night_tests laid then formed) ≡ Err refusal → Err refusal ≡ audited_as slip (night_tested laid)
  tests_fail {refusal} e = by (night_tests laid) refl e
    where
      by : (v : Verdict) → night_tests laid ≡ v → (v then formed) ≡ Err refusal → Err refusal ≡ audited_as slip (night_tested laid)
      by (Ok _) p f = form_fails p f
      by (Err other) p f = night_fails (p ∙ f)

  pub tests_pass : Passes (night_tests laid then formed) → (r : Audited) → r ≡ audited_by m n slip rest → r ≡ audited_as slip (night_tested laid)
  tests_pass e = let t = (then_iff _ _).0 e in form_passes t.0 t.1

-- ---- the whole

module _ (sheet slip : List ℕ) where
  abbrev tests : Verdict
  tests = sheet_tests (slip_length 3 sheet_side sheet_side) sheet

  pub sheet_fails : {refusal : Refusal} → tests ≡ Err refusal → Err refusal ≡ audit sheet slip
  unfolding audit read
  sheet_fails e = rw e refl

  pub sheet_passes : Passes tests → audit sheet slip ≡ audited_as slip (night_tested (laid_of sheet))
  unfolding audit read
  sheet_passes e = rw e refl
