-- `cost_tested` runs the tests of `cost` one after the other. Assumes nothing.
use Rattle.std.proofs.Common.{sym, ◌∙◌, arith}
use Rattle.matrix.proofs.Passed.{side_within_lem}
use Rattle.matrix.proofs.cost_tested.Goals as goal

pub costs_fill-requires : goal.costs_fill-requires
costs_fill-requires c =
    let h = (side_within_lem c.side.result c.args.n).0 (sym c.side_within.ensures ∙ c.in_ok-side_within.was) in
    (omega (arith, h, c.side.ensures), omega (arith, h, c.side.ensures))
