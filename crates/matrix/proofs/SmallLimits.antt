-- How large the limits are: all that proofs need of their values. Assumes nothing.
use Prim.Native.Nat.{◌^◌, ◌≤◌, ◌<◌}
use native.Mathlib.Omega.{arith}
use Rattle.matrix.specs.Limits.{side, sheet_side, K}

-- A side fits two bytes, so that side * side fits, and a sum of as many 32-bit numbers too.
pub side_small : side < 2 ^ 16
unfolding side
side_small = omega arith

-- A sheet's side is one for which the state for sheets has room.
pub sheet_side_small : sheet_side ≤ 64
unfolding sheet_side
sheet_side_small = omega arith

-- The solver takes it.
pub sheet_side_within : sheet_side ≤ side
unfolding sheet_side side
sheet_side_within = omega arith

-- K is far above any score.
pub K_large : 1000 ≤ K
unfolding K
K_large = omega arith

-- K fits a 32-bit signed number, so that sums of some 10K fit 64 bits.
pub K_small : K < 2 ^ 31
unfolding K
K_small = omega arith
