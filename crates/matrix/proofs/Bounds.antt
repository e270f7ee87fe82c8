-- A number is not outside -k..k exactly if it is within k; and minus a number, as code holds it. Assumes nothing.
use mathlib.Core.Path.{◌≡◌, refl, ap, ◌∙◌}
use mathlib.Core.Bool.{Bool, true, false, ◌||◌, true≢false}
use mathlib.Core.Logic.{◌↔◌}
use Prim.Native.Nat.{ℕ}
use lib.IntN.{ℤ, pos, neg_ℤ, ◌-ℤ◌, +ℤ_idl}
use lib.Signed.{lt_z}
use mir.Syntax.{Width}
use mir.Val.{SFits, to_z, of_z}
use mir.Facts.{to_z-of_z}
use Rattle.ints.specs.Parts.{Within}
use Rattle.ints.proofs.Sums.{up_neg, down_neg}
use Rattle.ints.proofs.Ranges.{zarith, within_orders}
use Rattle.ints.proofs.Tests.{le_lt_z}
use Rattle.matrix.specs.Tests.{outside}

neither : (a b : Bool) → (a || b) ≡ false → (a ≡ false) × (b ≡ false)
neither true b e = absurd (true≢false e)
neither false b e = (refl, e)

pub outside_within : (k : ℕ) (z : ℤ) → (outside (pos k) z ≡ false) ↔ Within k z
outside_within k z = (
  λ e. let h = neither (lt_z z (neg_ℤ (pos k))) (lt_z (pos k) z) e in omega (zarith, h, up_neg (pos k), down_neg (pos k)),
  λ w. let o = (within_orders k z).0 w in rw (le_lt_z z (neg_ℤ (pos k)) o.0, le_lt_z (pos k) z o.1),
)

-- ---- minus a number, in a signed local

module _ {w : Width} {z : ℤ} (f : SFits w z) (g : SFits w (pos 0 -ℤ z)) where
  pub minus_fits : SFits w (pos 0 -ℤ to_z w (of_z w z))
  minus_fits = rw (to_z-of_z f) g

  pub minus-read : to_z w (of_z w (pos 0 -ℤ to_z w (of_z w z))) ≡ neg_ℤ z
  minus-read = to_z-of_z minus_fits ∙ ap (λ (y : ℤ). pos 0 -ℤ y) (to_z-of_z f) ∙ +ℤ_idl (neg_ℤ z)
