-- `lists_long` answers test 3 of four lists. Assumes nothing.
use Rattle.std.proofs.Common.{◌∙◌, ap, ◌+◌, [], ◌∷◌}
use Rattle.std.specs.Prelude.{Some, None, Err}
use Rattle.matrix.specs.Refusals.{ListLength}
use Rattle.matrix.specs.Tests.{short}
use Rattle.matrix.proofs.Verdicts.{found_fails}
use Rattle.matrix.proofs.tests.lists_long.Goals as goal

pub returns-in-Some : goal.returns-in-Some
returns-in-Some c =
    let u = c.args in
    ap Err c.new.ensures ∙ found_fails ListLength (λ k. k + 1) 4 (short u.n (u.cols ∷ u.rows ∷ u.us ∷ u.vs ∷ [])) (Some c.in-Some.k) c.in-Some.ensures

pub returns-in-None : goal.returns-in-None
returns-in-None c =
    let u = c.args in
    found_fails ListLength (λ k. k + 1) 4 (short u.n (u.cols ∷ u.rows ∷ u.us ∷ u.vs ∷ [])) None c.in-None.ensures
