-- `tight_on` answers test 10: the row that is found, with the slack of its paired place. Assumes nothing.
use mathlib.Core.Path.{◌∙◌}
use mathlib.Core.List.{[]}
use mir.Syntax.{w64}
use Rattle.ints.proofs.Bits.{read_back}
use Rattle.lists.specs.Permutations.{at}
use Rattle.matrix.specs.declared.refusals.Reason.TheVariants.{PricesNotCost}
use Rattle.bars.specs.Barred.{night_of}
use Rattle.checker.specs.Tests.{slack}
use Rattle.checker.proofs.Found.{refused_by, passed_by}
use Rattle.checker.proofs.prices.tight_on.Goals as goal

pub returns-in-Some : goal.returns-in-Some
returns-in-Some c =
    let u = c.args in
    let night = night_of u.m u.n u.costs.now [] in
    refused_by PricesNotCost (λ i. i) (λ i. slack night u.us.now u.vs.now i (at u.cols.now i)) u.m _ c.row_loose.result c.row_loose.ensures c.in-Some.i c.in-Some.is _
    (read_back w64 c.slack_at.result c.slack_at.type_inv ∙ c.slack_at.ensures)

pub returns-in-None : goal.returns-in-None
returns-in-None c =
    let u = c.args in
    let night = night_of u.m u.n u.costs.now [] in
    passed_by PricesNotCost (λ i. i) (λ i. slack night u.us.now u.vs.now i (at u.cols.now i)) u.m _ c.row_loose.result c.row_loose.ensures c.in-None.is
