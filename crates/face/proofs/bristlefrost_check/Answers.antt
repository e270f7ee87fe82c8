-- `bristlefrost_check` answers what the entry answers, told. Assumes nothing.
use mathlib.Core.Path.{sym, ap, ◌∙◌, subst}
use Rattle.matrix.specs.Asked.{TellableIn}
use Rattle.matrix.proofs.Determined.{values_determine}
use Rattle.checker.specs.Check.{check}
use Rattle.checker.proofs.Codes.{check_places}
use Rattle.face.specs.Face.{checked_any}
use Rattle.face.proofs.Checks.{checked_plain}
use Rattle.face.proofs.bristlefrost_check.Goals as goal

pub returns : goal.returns
returns c =
    let u = c.args in
    c.told_checked.ensures ∙ ap checked_any c.check.ensures ∙ checked_plain (check u.n u.costs.now u.cols.now u.rows.now u.row_prices.now u.col_prices.now) (check_places u.n u.costs.now u.cols.now u.rows.now u.row_prices.now u.col_prices.now)
