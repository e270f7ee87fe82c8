-- `first_column_over` answers refusal 9 for one row without bars. Assumes nothing.
use Rattle.std.proofs.Common.{rules}
use Rattle.checker.proofs.Places.{over_at}
use Rattle.checker.proofs.Found.{finds_from, none_some}
use Rattle.checker.proofs.prices.first_column_over.Goals as goal

pub returns-then-not-some_over : goal.returns-then-not-some_over
returns-then-not-some_over c = none_some _ _ (search rules)

pub returns : goal.returns
returns c =
    let u = c.args in
    finds_from _ (over_at u.row.now u.u u.vs.now) _ _ _ c.find.ensures.ran (λ j b q e. search rules)
