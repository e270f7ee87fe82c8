-- `tested`: the limit of the costs is far below 2 ^ 62. Assumes nothing.
use native.Mathlib.Omega.{arith}
use mir.Syntax.{w64}
use Rattle.ints.proofs.Bits.{read_back}
use Rattle.layout.specs.Editions.{number}
use Rattle.matrix.proofs.SmallLimits.{K_small}
use Rattle.sheet.proofs.Editions.{cost_most_within}
use Rattle.sheet.proofs.State.tested.Goals as goal

pub costs_in-requires : goal.costs_in-requires
costs_in-requires c =
    rw (read_back w64 c.cost_most.result c.cost_most.type_inv, c.cost_most.ensures) (omega (arith, K_small, cost_most_within (number c.args.shape.edition)))
