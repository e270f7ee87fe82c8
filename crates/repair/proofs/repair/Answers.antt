-- `repair` lends the fronts of its lists to what can be mended. Assumes nothing.
use Rattle.std.proofs.lemmas.List.{length-take-le}
use Rattle.repair.proofs.Repairing.{can_mend}
use Rattle.repair.proofs.repair.Goals as goal

pub pair_again-requires : goal.pair_again-requires
pair_again-requires c =
    let r = c.in_ok-tested.ensures.limits in
    (can_mend c.args.n c.args.costs.now c.args.row _ r, length-take-le c.args.n c.args.row_prices.now r.limits.row_prices_enough)
