-- `row_over` answers in which row refusal 9 is. Assumes nothing.
use Rattle.std.proofs.Common.{rules}
use Rattle.bars.specs.Barred.{night_of}
use Rattle.checker.specs.Tests.{over_in, but}
use Rattle.checker.proofs.Found.{finds_from}
use Rattle.checker.proofs.prices.PricedNight.row_over.Goals as goal

pub returns : goal.returns
returns c =
    let u = c.args.self.now in
    finds_from _ (but c.args.skip (over_in (night_of u.m u.n u.costs.now u.bars.now) u.us.now u.vs.now)) _ _ _ c.find.ensures.ran (λ j b q e. search rules)
