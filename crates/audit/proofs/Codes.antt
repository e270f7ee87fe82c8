-- Refusals as one number: the numbers of an audit are below 256, and its places far below 2^48. Assumes nothing.
use mathlib.Core.List.{List}
use Prim.Native.Nat.{ℕ, ◌≤◌}
use native.Mathlib.Omega.{arith}
use lib.Dec.{lit<}
use Rattle.layout.specs.Slips.{slip_length, slip_columns, slip_row_prices, slip_column_prices}
use Rattle.bars.specs.Barred.{night_of}
use Rattle.matrix.specs.Limits.{sheet_side}
use Rattle.matrix.specs.Verdicts.{Verdict}
use Rattle.std.specs.Prelude.{Ok, Err}
use Rattle.matrix.proofs.SmallLimits.{sheet_side_small, sheet_side_within}
use Rattle.matrix.proofs.Verdicts.{Small, then_small, fails_if_small, fails_at_small}
use Rattle.checker.proofs.Codes.{prices_small}
use Rattle.sheet.specs.Reading.{Laid, Read, refused, night, read}
use Rattle.sheet.proofs.Pairing.{Bytes, ReadRight, read_right}
use Rattle.audit.specs.Asked.{TellableAudited}
use Rattle.audit.specs.Audit.{proof_tests, audit_tests, audited_by, audited_as, audit}

tests_small : (laid : Laid) (slip : List ℕ) → laid.row_count ≤ laid.side → laid.side ≤ sheet_side → Small (audit_tests laid slip)
unfolding audit_tests proof_tests
tests_small laid slip fewer small =
    then_small _ _
    (then_small _ _ (fails_if_small _ _ _ (λ e. lit< tt))
    (λ a. then_small _ _
    (then_small _ _
    (then_small _ _
    (then_small _ _ (fails_at_small _ _ _ _ (λ i l. omega (arith, sheet_side_small, fewer, small))) (λ b. fails_at_small _ _ _ _ (λ i l. omega (arith, sheet_side_small, fewer, small))))
    (λ b. fails_at_small _ _ _ _ (λ i l. omega (arith, sheet_side_small, fewer, small))))
    (λ b. prices_small (night_of laid.row_count laid.side laid.costs laid.bars) (slip_columns laid.row_count slip) (slip_row_prices laid.row_count slip)
    (slip_column_prices laid.row_count laid.side slip) (omega (arith, sheet_side_within, fewer, small)) (omega (arith, sheet_side_within, small))))
    (λ b. fails_at_small _ _ _ _ (λ j l. omega (arith, sheet_side_small, small)))))
    (λ c. fails_if_small _ _ _ (λ e. lit< tt))

pub audit_places : (sheet slip : List ℕ) → Bytes sheet → TellableAudited (audit sheet slip)
unfolding audit
audit_places sheet slip bytes = by (read (slip_length 3 sheet_side sheet_side) sheet) (read_right (slip_length 3 sheet_side sheet_side) sheet)
  where
    told : (m n : ℕ) (v : Verdict) → Small v → TellableAudited (audited_by m n slip v)
    told m n (Ok _) h = tt
    told m n (Err refusal) h = h

    by : (x : Read) → ReadRight (slip_length 3 sheet_side sheet_side) sheet x → TellableAudited (audited_as slip x)
    by (refused refusal) right = right bytes
    by (night laid) right = told laid.row_count laid.side (audit_tests laid slip) (tests_small laid slip right.fewer right.small)
