-- `audit` answers what its definition says. Assumes nothing.
use Rattle.std.proofs.Common.{rules, ◌≡◌, refl, ℕ, List, ◌+◌, ◌*◌, ◌-◌, ◌≤◌, sym, ap, ap₂, ◌∙◌, length, arith}
use Rattle.std.specs.Prelude.{Err}
use lib.IntN.{pos}
use lib.ListN.{replicate, length-replicate}
use Rattle.layout.specs.Editions.{number}
use Rattle.layout.specs.Slips.{slip_length}
use Rattle.layout.specs.Trailers.{edition_of, side_of}
use Rattle.matrix.specs.Limits.{sheet_side}
use Rattle.matrix.specs.Verdicts.{Verdict, Passes}
use Rattle.matrix.specs.declared.refusals.Refusal.{Refusal}
use Rattle.sheet.specs.Reading.{Laid, rows_of, sheet_tests, laid_at, distance_due, night_tested}
use Rattle.sheet.proofs.Passing.{SheetPassed, tests_passed, laid_found}
use Rattle.audit.specs.Audit.{audited_as}
use Rattle.audit.specs.Values.{audited_values}
use Rattle.audit.proofs.Checking.{part_size, zeros_part}
use Rattle.audit.proofs.Nights.{sheet_fails, sheet_passes}
use Rattle.audit.proofs.audit.Goals as goal

-- a slip room that is long enough for every edition and side
abbrev room : ℕ
room = slip_length 3 sheet_side sheet_side

in_room : (sheet : List ℕ) (v : Verdict) → sheet_tests 1174 sheet ≡ v → sheet_tests room sheet ≡ v
unfolding sheet_side
in_room sheet v e = e

pub returns-in_err-shape : goal.returns-in_err-shape
returns-in_err-shape c =
    let e : c.from_residual.result ≡ Err c.in_err-shape.field-0.0 = search rules in
    ap audited_values (e ∙ sheet_fails c.args.sheet.now c.args.slip.now (in_room c.args.sheet.now _ c.in_err-shape.ensures))

pub audit_night-requires : goal.audit_night-requires
audit_night-requires c =
    let g = c.in_ok-shape.ensures in
    let s = c.in_ok-shape.shape in
    let p = tests_passed room c.args.sheet.now (in_room c.args.sheet.now _ g.0) in (
      rw (g.1.edition, g.1.rows, g.1.side) p.inside,
      part_size 4096 (s.row_count * s.side) (replicate 4096 (pos 0)) (length-replicate 4096 (pos 0)) s.few,
      zeros_part 64 s.side s.small,
    )

pub returns : goal.returns
returns c =
    let u = c.args in
    let sheet = u.sheet.now in
    let g = c.in_ok-shape.ensures in
    let s = c.in_ok-shape.shape in
    let passes = in_room sheet _ g.0 in
    let p = tests_passed room sheet passes in
    ap audited_values (c.audit_night.ensures
    ∙ ap₂ (λ (d m : ℕ). audited_as u.slip.now (night_tested (laid_at d m s.side (distance_due d m s.side) sheet))) g.1.edition g.1.rows
    ∙ ap (λ (k : ℕ). audited_as u.slip.now (night_tested (laid_at (edition_of sheet) (rows_of sheet) k (distance_due (edition_of sheet) (rows_of sheet) k) sheet))) g.1.side
    ∙ ap (λ (l : Laid). audited_as u.slip.now (night_tested l)) (sym (laid_found room sheet p))
    ∙ sym (sheet_passes sheet u.slip.now passes))
