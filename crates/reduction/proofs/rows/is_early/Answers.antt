-- `is_early`: the product does not wrap, as the side is small. Assumes nothing.
use Rattle.std.proofs.Common.{◌+◌, ◌^◌, ◌≤◌, arith}
use native.Mathlib.Nat.{mul-le-mul}
use Rattle.matrix.proofs.SmallLimits.{side_small}
use Rattle.reduction.proofs.rows.is_early.Goals as goal

pub overflow_mul-result : goal.overflow_mul-result
overflow_mul-result c =
    let side-fits : c.args.n ≤ 2 ^ 16 = omega (arith, side_small, c.requires.0) in
    let current-fits : c.args.pass.current + 1 ≤ 2 ^ 16 = omega (arith, c.requires.1) in
    omega (arith, mul-le-mul current-fits side-fits)
