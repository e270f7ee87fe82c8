-- `costs_fill` answers test 2. Assumes nothing.
use Prim.Native.Nat.{◌^◌, ◌≤◌}
use native.Mathlib.Nat.{mul-le-mul}
use native.Mathlib.Omega.{arith}
use Rattle.matrix.proofs.SmallLimits.{side_small}
use Rattle.matrix.proofs.tests.costs_fill.Goals as goal

pub overflow_mul-m : goal.overflow_mul-m
overflow_mul-m c =
    let m : c.args.m ≤ 2 ^ 16 = omega (arith, side_small, c.requires) in
    let n : c.args.n ≤ 2 ^ 16 = omega (arith, side_small, c.requires) in
    omega (arith, mul-le-mul m n)
