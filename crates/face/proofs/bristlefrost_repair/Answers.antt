-- `bristlefrost_repair` answers what the repair answers, told, and leaves what it leaves. Assumes nothing.
use mathlib.Core.Path.{sym, ap, ap₂, ◌∙◌, subst}
use Rattle.matrix.specs.Asked.{TellableIn}
use Rattle.matrix.proofs.Determined.{values_determine}
use Rattle.lapjv.specs.Solve.{Lent, lent_of}
use Rattle.repair.specs.Repair.{repair}
use Rattle.repair.specs.Values.{Told}
use Rattle.repair.proofs.Codes.{repair_places}
use Rattle.face.specs.declared.Checked.{Checked}
use Rattle.face.specs.Face.{checked_any}
use Rattle.face.proofs.Checks.{checked_plain}
use Rattle.face.proofs.bristlefrost_repair.Goals as goal

pub returns : goal.returns
returns c =
    let u = c.args in
    let lent = lent_of u.cols.now u.rows.now u.row_prices.now u.col_prices.now u.indices.now u.numbers.now in
    let e = c.repair.ensures in
    ap₂ (λ (s : Checked) (l : Lent). record { checked = s; lent = l })
    (c.told_checked.ensures ∙ ap (λ (t : Told). checked_any t.values) e ∙ checked_plain (repair u.n u.costs.now u.row lent).answer (repair_places u.n u.costs.now u.row lent)) (ap (λ (t : Told). t.lent) e)
