-- `rooms_long` answers test 4. Assumes nothing.
use native.Mathlib.Omega.{arith}
use Rattle.matrix.proofs.SmallLimits.{side_small}
use Rattle.matrix.proofs.tests.rooms_long.Goals as goal

pub overflow_mul-n : goal.overflow_mul-n
overflow_mul-n c = omega (arith, side_small, c.requires)
