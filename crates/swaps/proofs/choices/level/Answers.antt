-- `level` answers whether the prices of a place are not below its cost, and their sum does not wrap. Assumes nothing.
use Rattle.std.proofs.Common.{arith}
use Rattle.std.proofs.lemmas.Int.{ints, to_z-of_z}
use Rattle.matrix.proofs.SmallLimits.{K_small}
use Rattle.swaps.proofs.choices.level.Goals as goal

pub overflow_add-result : goal.overflow_add-result
overflow_add-result c = omega (arith, ints, K_small)

pub returns : goal.returns
returns c = let h = overflow_add-result c in grind (arith, ints, K_small, to_z-of_z)
