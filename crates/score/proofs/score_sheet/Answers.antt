-- `score_sheet` answers the refusal, or writes the sheet. Assumes nothing.
use mathlib.Core.Path.{sym, ◌∙◌, subst}
use lib.ListN.{length}
use Rattle.matrix.proofs.Verdicts.{Small}
use Rattle.score.proofs.Passing.{sheet_tests_iff}
use Rattle.score.proofs.Codes.{sheet_tests_small}
use Rattle.score.proofs.score_sheet.Goals as goal

pub code-requires : goal.code-requires
code-requires c =
    let u = c.args in
    subst Small (sym c.sheet_tested.ensures ∙ c.in-Err.is) (sheet_tests_small u.firsts.now u.seconds.now (length u.sheet.now))

pub write_sheet-requires : goal.write_sheet-requires
write_sheet-requires c =
    let u = c.args in
    (sheet_tests_iff u.firsts.now u.seconds.now (length u.sheet.now)).0 (sym c.sheet_tested.ensures ∙ c.in-Ok.is)
