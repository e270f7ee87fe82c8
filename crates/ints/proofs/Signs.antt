-- A signed number taken apart by code: -1 - z where z is negative, else z itself, as the code reads it. Assumes nothing.
use mathlib.Core.Path.{◌≡◌, refl}
use mathlib.Core.Bool.{true, false}
use Prim.Native.Nat.{ℕ, ◌^◌, ◌<◌}
use lib.IntN.{ℤ, pos, negsuc, ◌-ℤ◌}
use lib.Signed.{lt_z}
use mir.Syntax.{w64}
use mir.Val.{SFits, to_z, of_z}
use mir.Facts.{to_z-of_z}
use Rattle.ints.proofs.Bits.{told_fits}
use Rattle.ints.proofs.Shapes.{zlin}

pub record Negative (z : ℤ) : Type 0 where
  pub size : ℕ
  pub small : size < 2 ^ 63
  pub is : z ≡ negsuc size
  pub fits : SFits w64 (negsuc 0 -ℤ to_z w64 (of_z w64 z))
  pub read : to_z w64 (of_z w64 (negsuc 0 -ℤ to_z w64 (of_z w64 z))) ≡ pos size

pub negative : (z : ℤ) → SFits w64 z → lt_z (to_z w64 (of_z w64 z)) (pos 0) ≡ true → Negative z
negative (pos n) f t = absurd (omega (zlin, told_fits f))
negative (negsuc n) f t =
    let e : negsuc 0 -ℤ to_z w64 (of_z w64 (negsuc n)) ≡ pos n = rw (to_z-of_z f) (omega zlin) in
    let g : SFits w64 (pos n) = record { sfits = f.sfits } in
    record { size = n; small = f.sfits; is = refl; fits = rw e g; read = rw e (to_z-of_z g) }

pub record Positive (z : ℤ) : Type 0 where
  pub size : ℕ
  pub small : size < 2 ^ 63
  pub is : z ≡ pos size
  pub read : to_z w64 (of_z w64 z) ≡ pos size

pub positive : (z : ℤ) → SFits w64 z → lt_z (to_z w64 (of_z w64 z)) (pos 0) ≡ false → Positive z
positive (pos n) f t = record { size = n; small = f.sfits; is = refl; read = to_z-of_z f }
positive (negsuc n) f t = absurd (omega (zlin, told_fits f))
