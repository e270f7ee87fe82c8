-- `first_spare_below` answers refusal 27. Assumes nothing.
use Rattle.std.proofs.Common.{rules}
use Rattle.checker.specs.Tests.{spare_below}
use Rattle.checker.proofs.Found.{finds_from}
use Rattle.checker.proofs.choices.first_spare_below.Goals as goal

pub returns : goal.returns
returns c =
    let u = c.args in
    finds_from _ (spare_below u.m u.cols.now u.vs.now) _ _ _ c.find.ensures.ran (λ j b q e. search rules)
