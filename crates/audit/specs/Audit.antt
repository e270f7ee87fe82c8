-- The auditor's tool: a slip held against its sheet. Editions 1, 2 and 3: one chain of tests for any m rows and n columns.
use Rattle.std.specs.Prelude.{Bool, not, ◌&&◌, ◌||◌, List, ℕ, eqb, ℤ, length}
use Rattle.layout.specs.Values.{value_of}
use Rattle.layout.specs.Trailers.{slip_mark, has_row_count, distance_of, side_of, edition_of, row_count_of, unmarked}
use Rattle.layout.specs.Slips.{slip_distance, slip_length, slip_columns, slip_row_prices, slip_column_prices, slip_total}
use Rattle.assignment.specs.Pairings.{total}
use Rattle.bars.specs.Barred.{night_of}
use Rattle.bars.specs.Tests.{unbarred}
use Rattle.matrix.specs.Limits.{sheet_side}
use Rattle.matrix.specs.Tests.{columns_inside}
use Rattle.matrix.specs.Verdicts.{◌then◌, fails_if}
use Rattle.matrix.specs.Verdicts.{Verdict}
use Rattle.std.specs.Prelude.{Result, Ok, Err}
use Rattle.checker.specs.Check.{price_tests}
use Rattle.checker.specs.Tests.{columns_once, spares_not_below, differ}
use Rattle.sheet.specs.Reading.{Laid, Read, refused, night, read}
use Rattle.matrix.specs.declared.refusals.Reason.TheVariants.{SlipWrong}
use Rattle.matrix.specs.declared.refusals.Refusal.{Refusal}
use Rattle.audit.specs.declared.Confirmed.{Confirmed}

-- What the auditor is told: side and total of a slip that holds, or the refusal.
abbrev pub Audited : Type 0
Audited = Result Confirmed Refusal

abbrev pub holds : ℕ → ℤ → Audited
holds side total = Ok (record { side = side; total = total })

-- Whether bytes are no slip of this edition, of m rows and n columns: they have another length, another trailer or another row count.
unfoldable pub unlike : ℕ → ℕ → ℕ → List ℕ → Bool
unlike edition m n slip =
    not (eqb (length slip) (slip_length edition m n))
    || (unmarked (value_of slip_mark) slip
    || (not (eqb (distance_of slip) (slip_distance edition m n))
    || (not (eqb (side_of slip) n)
    || (not (eqb (edition_of slip) edition)
    || (has_row_count edition && not (eqb (row_count_of slip) m))))))

-- 6, 7, 26, 8, 9, 10, 27: a choice of columns, with its prices, of a night of m rows and n columns. (1, 2, 3, 5, 22 and 23 are the sheet's tests.)
unfoldable pub proof_tests : ℕ → ℕ → List ℤ → List ℕ → List ℕ → List ℤ → List ℤ → Verdict
proof_tests m n costs bars cols us vs =
    columns_inside m n cols
    then columns_once m cols
    then unbarred m bars cols
    then price_tests (night_of m n costs bars) cols us vs
    then spares_not_below m n cols vs

-- The same, of what a slip says.
abbrev pub slip_tests : ℕ → ℕ → List ℤ → List ℕ → List ℕ → Verdict
slip_tests m n costs bars slip = proof_tests m n costs bars (slip_columns m slip) (slip_row_prices m slip) (slip_column_prices m n slip)

-- "A slip of wrong [..] total is refused with 25": of another than its pairing's.
abbrev pub total_right : ℕ → ℕ → List ℤ → List ℕ → List ℕ → Verdict
total_right m n costs bars slip = fails_if SlipWrong 0 (differ (slip_total m n slip) (total (night_of m n costs bars) (slip_columns m slip)))

-- "with 25, place 0, tested after the sheet's own refusals [..] and, for the total, last; otherwise before 6".
unfoldable pub audit_tests : Laid → List ℕ → Verdict
audit_tests laid slip =
    fails_if SlipWrong 0 (unlike laid.edition laid.row_count laid.side slip)
    then slip_tests laid.row_count laid.side laid.costs laid.bars slip
    then total_right laid.row_count laid.side laid.costs laid.bars slip

-- What is told: side and total, or the refusal.
abbrev pub audited_by : ℕ → ℕ → List ℕ → Verdict → Audited
audited_by m n slip (Ok _) = holds n (slip_total m n slip)
audited_by m n slip (Err refusal) = Err refusal

abbrev pub audited_as : List ℕ → Read → Audited
audited_as slip (refused refusal) = Err refusal
audited_as slip (night laid) = audited_by laid.row_count laid.side slip (audit_tests laid slip)

-- The tool, on the bytes of a sheet and of a slip: "(16 and 20 do not arise)", since a slip room for every edition and side is assumed, and no night
-- solved.
unfoldable pub audit : List ℕ → List ℕ → Audited
audit sheet slip = audited_as slip (read (slip_length 3 sheet_side sheet_side) sheet)
