-- `row_loose` answers refusal 10. Assumes nothing.
use Rattle.std.proofs.Common.{rules}
use Rattle.bars.specs.Barred.{night_of}
use Rattle.checker.specs.Tests.{loose, but}
use Rattle.checker.proofs.Found.{finds_from}
use Rattle.checker.proofs.prices.PricedNight.row_loose.Goals as goal

pub returns : goal.returns
returns c =
    let u = c.args.self.now in
    finds_from _ (but c.args.skip (loose (night_of u.m u.n u.costs.now u.bars.now) c.args.cols.now u.us.now u.vs.now)) _ _ _ c.find.ensures.ran (λ j b q e. search rules)
