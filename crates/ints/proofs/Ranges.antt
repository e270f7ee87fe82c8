-- What fits a machine's signed number, and what lies within a bound; and `zarith`, by which omega reads integers. Assumes nothing.
use mathlib.Core.Logic.{◌↔◌}
use Prim.Native.Nat.{ℕ, ◌+◌, ◌-◌, ◌≤◌, ◌<◌, ◌^◌}
use native.Mathlib.Omega.{arith}
use lib.IntN.{ℤ, pos, negsuc, neg_ℤ}
use lib.Signed.{◌≤ℤ◌, mag}
use mir.Syntax.{Width}
use mir.Val.{SFits, hbits}
use Rattle.ints.specs.Parts.{up, down, Within}
use Rattle.ints.proofs.Orders.{le_read, le_make, lt_read, lt_make, eq_read, eq_make, le_z_true, le_z_false, lt_z_true, lt_z_false}
use Rattle.ints.proofs.Sums.{up_neg, down_neg}

mag_below : (w : Width) (z : ℤ) → (up z - down z) + (down z - up z) < 2 ^ hbits w → mag z < 2 ^ hbits w
mag_below w (pos n) h = omega arith
mag_below w (negsuc n) h = omega arith

parts_below : (w : Width) (z : ℤ) → mag z < 2 ^ hbits w → up z + down z ≤ 2 ^ hbits w
parts_below w (pos n) h = omega arith
parts_below w (negsuc n) h = omega arith

pub sfits_make : (w : Width) (z : ℤ) → (up z - down z) + (down z - up z) < 2 ^ hbits w → SFits w z
sfits_make w z h = record { sfits = mag_below w z h }

pub sfits_read : (w : Width) (z : ℤ) → SFits w z → up z + down z ≤ 2 ^ hbits w
sfits_read w z h = parts_below w z h.sfits

-- Orders, equations, tests and ranges of integers. Each sum or difference in them is made known by `sum a b`, `dif a b` in omega's list.
pub ruleset zarith = (arith, le_read, le_make, lt_read, lt_make, eq_read, eq_make, le_z_true, le_z_false, lt_z_true, lt_z_false, sfits_make, sfits_read)

-- Within a bound, said with the order of the integers.
pub within_orders : (k : ℕ) (z : ℤ) → Within k z ↔ ((neg_ℤ (pos k) ≤ℤ z) × (z ≤ℤ pos k))
within_orders k z =
    (λ h. (omega (zarith, up_neg (pos k), down_neg (pos k)), omega zarith), λ h. omega (zarith, up_neg (pos k), down_neg (pos k)))

pub within_mono : {j k : ℕ} {z : ℤ} → j ≤ k → Within j z → Within k z
within_mono h w = omega arith
