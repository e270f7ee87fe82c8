-- A signed local of the code holds bits, so the code reads z as `to_z w (of_z w z)`. What that is, for omega and for rw. Assumes nothing.
use mathlib.Core.Path.{◌≡◌, sym, ap, ◌∙◌}
use Prim.Native.Nat.{◌+◌, ◌≤◌, ◌<◌, ◌^◌}
use lib.IntN.{ℤ}
use lib.Signed.{mag}
use mir.Syntax.{Width, w32, w64}
use mir.Val.{SFits, hbits, to_z, of_z}
use mir.Facts.{to_z-of_z, sfits_widen}
use Rattle.ints.specs.Parts.{up, down}
use Rattle.ints.proofs.Ranges.{sfits_read}

-- For omega's list: what the bits of z read as, and how large z is. `omega (zlin, told w64 x c.x.given)`.
pub record Told (w : Width) (z : ℤ) : Type 0 where
  pub ups : up (to_z w (of_z w z)) ≡ up z
  pub downs : down (to_z w (of_z w z)) ≡ down z
  pub size : up z + down z ≤ 2 ^ hbits w

pub told_fits : {w : Width} {z : ℤ} → SFits w z → Told w z
told_fits {w} {z} h = record { ups = ap up (to_z-of_z h); downs = ap down (to_z-of_z h); size = sfits_read w z h }

pub told : (w : Width) (z : ℤ) → mag z < 2 ^ hbits w → Told w z
told w z h = told_fits (record { sfits = h })

-- For rw: the bits of z, read again, are z.
pub read_back : (w : Width) (z : ℤ) → mag z < 2 ^ hbits w → to_z w (of_z w z) ≡ z
read_back w z h = to_z-of_z (record { sfits = h })

-- `s[i] as i64` of an i32 element x: what the code reads, and that the cast is good.
pub read_wide : (x : ℤ) → mag x < 2 ^ 31 → to_z w64 (of_z w64 (to_z w32 (of_z w32 x))) ≡ x
read_wide x h =
    let f : SFits w32 x = record { sfits = h } in
    let g : SFits w64 x = sfits_widen {w = w32} tt f in
    simp to_z-of_z

pub wide_fits : (x : ℤ) → mag x < 2 ^ 31 → SFits w64 (to_z w32 (of_z w32 x))
wide_fits x h =
    let f : SFits w32 x = record { sfits = h } in
    simp to_z-of_z (sfits_widen {w = w32} tt f)

-- `x == y` on two signed locals tells of their bits.
pub bits_injective : {w : Width} {x y : ℤ} → SFits w x → SFits w y → of_z w x ≡ of_z w y → x ≡ y
bits_injective {w} f g e = sym (to_z-of_z f) ∙ ap (to_z w) e ∙ to_z-of_z g
