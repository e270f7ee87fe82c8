-- `bristlefrost_solve` answers what the solver answers, told, and leaves what it leaves. Assumes nothing.
use mathlib.Core.Path.{sym, ap, ap₂, ◌∙◌, subst}
use Rattle.lapjv.specs.Solve.{Lent, lent_of, solve}
use Rattle.lapjv.specs.Values.{Told}
use Rattle.lapjv.specs.Asked.{TellableSolved}
use Rattle.lapjv.proofs.Codes.{solve_places}
use Rattle.lapjv.proofs.Determined.{solved_values_determine}
use Rattle.face.specs.declared.Solution.{Solution}
use Rattle.face.specs.Face.{solution}
use Rattle.face.proofs.bristlefrost_solve.Goals as goal

pub told_solved-requires : goal.told_solved-requires
told_solved-requires c =
    let u = c.args in
    let r = c.solve in
    let lent = lent_of u.cols.now u.rows.now u.row_prices.now u.col_prices.now u.indices.now u.numbers.now in
    subst TellableSolved
    (sym (solved_values_determine r.result (solve u.n u.costs.now lent).answer (ap (λ (t : Told). t.values) r.ensures)))
    (solve_places u.n u.costs.now lent)

pub returns : goal.returns
returns c =
    let e = c.solve.ensures in
    ap₂ (λ (s : Solution) (l : Lent). record { solution = s; lent = l }) (c.told_solved.ensures ∙ ap (λ (t : Told). solution t.values) e) (ap (λ (t : Told). t.lent) e)
