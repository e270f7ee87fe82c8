-- A few times the bound of the costs, as code reads it: the product does not wrap. Assumes nothing.
use mathlib.Core.Path.{◌≡◌, ap, ◌∙◌}
use Prim.Native.Nat.{ℕ, ◌*◌, ◌^◌, ◌≤◌, ◌<◌}
use native.Mathlib.Nat.{mul-le-mul_right}
use lib.IntN.{ℤ, pos, ◌*ℤ◌, pos-*ℤ-pos}
use lib.Signed.{mag}
use mir.Syntax.{w64}
use mir.Val.{SFits, to_z, of_z}
use Rattle.ints.proofs.Ranges.{zarith}
use Rattle.ints.proofs.Bits.{read_back}
use Rattle.matrix.specs.Limits.{K}
use Rattle.matrix.proofs.SmallLimits.{K_small}

module _ (k : ℕ) (few : k ≤ 10) (b : ℤ) (e : b ≡ pos K) (fits : mag b < 2 ^ 63) where
  pub multiple : pos k *ℤ to_z w64 (of_z w64 b) ≡ pos (k * K)
  multiple = ap (λ (z : ℤ). pos k *ℤ z) (read_back w64 b fits ∙ e) ∙ pos-*ℤ-pos k K

  pub multiple_fits : SFits w64 (pos k *ℤ to_z w64 (of_z w64 b))
  multiple_fits = rw multiple (omega (zarith, K_small, mul-le-mul_right K few))
