-- `prices_within` answers test 8. Assumes nothing.
use Rattle.std.proofs.Common.{arith}
use mir.Syntax.{w64}
use Rattle.ints.proofs.Bits.{read_back}
use Rattle.matrix.proofs.SmallLimits.{K_small}
use Rattle.matrix.proofs.tests.prices_within.Goals as goal

pub prices_in-requires : goal.prices_in-requires
prices_in-requires c =
    let b = c.price_bound in
    (rw (read_back w64 b.result b.type_inv, b.ensures) (omega (arith, K_small)), c.requires.0, c.requires.1, c.requires.2, c.requires.3)
