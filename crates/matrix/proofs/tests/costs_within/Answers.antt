-- `costs_within` answers test 5. Assumes nothing.
use Rattle.std.proofs.Common.{arith}
use mir.Syntax.{w64}
use Rattle.ints.proofs.Bits.{read_back}
use Rattle.matrix.proofs.SmallLimits.{K_small}
use Rattle.matrix.proofs.tests.costs_within.Goals as goal

pub costs_in-requires : goal.costs_in-requires
costs_in-requires c =
    let b = c.bound in
    rw (read_back w64 b.result b.type_inv, b.ensures) (omega (arith, K_small))
