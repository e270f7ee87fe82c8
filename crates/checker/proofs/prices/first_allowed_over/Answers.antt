-- `first_allowed_over` answers refusal 9 for one row with bars. Assumes nothing.
use Rattle.std.proofs.Common.{rules}
use Rattle.checker.proofs.Places.{over_bits}
use Rattle.checker.proofs.Found.{finds_from}
use Rattle.checker.proofs.prices.first_allowed_over.Goals as goal

pub returns : goal.returns
returns c =
    let u = c.args in
    finds_from _ (over_bits u.row.now u.u u.vs.now u.bits) _ _ _ c.find.ensures.ran (λ j b q e. search rules)
