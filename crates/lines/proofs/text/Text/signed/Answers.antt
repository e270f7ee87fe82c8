-- `signed` writes a minus sign before the magnitude of a negative number. Assumes nothing.
use mathlib.Core.Path.{◌≡◌, sym, ap, ◌∙◌}
use mathlib.Core.Bool.{true, false}
use mathlib.Core.List.{List, [], ◌∷◌, ◌++◌, append_assoc}
use Prim.Native.Nat.{ℕ}
use lib.IntN.{ℤ, pos, nat_abs}
use lib.Signed.{lt_z}
use mir.Syntax.{w64}
use mir.Val.{SFits, to_z, of_z}
use mir.Facts.{to_z-of_z}
use Rattle.ints.proofs.Signs.{negative, positive}
use Rattle.lines.specs.Decimal.{decimal, signed_decimal}
use Rattle.lines.proofs.text.Text.signed.Goals as goal

-- A number that the code found negative, or not, and its magnitude as the call reads it.
module _ {z : ℤ} {m : ℕ} (f : SFits w64 z) (e : m ≡ nat_abs (to_z w64 (of_z w64 z))) where
  read : m ≡ nat_abs z
  read = e ∙ ap nat_abs (to_z-of_z f)

  with_sign : lt_z (to_z w64 (of_z w64 z)) (pos 0) ≡ true → 45 ∷ decimal m ≡ signed_decimal z
  with_sign t =
      let n = (negative z f t).is in
      ap (λ (k : ℕ). 45 ∷ decimal k) read ∙ ap (λ (y : ℤ). 45 ∷ decimal (nat_abs y)) n ∙ sym (ap signed_decimal n)

  without : lt_z (to_z w64 (of_z w64 z)) (pos 0) ≡ false → decimal m ≡ signed_decimal z
  without t =
      let n = (positive z f t).is in
      ap decimal read ∙ ap (λ (y : ℤ). decimal (nat_abs y)) n ∙ sym (ap signed_decimal n)

pub returns-then-z-lt0-clause-text : goal.returns-then-z-lt0-clause-text
returns-then-z-lt0-clause-text c =
    let old = c.args.self.now in
    c.decimal.ensures.text ∙ ap (λ (l : List ℕ). l ++ decimal c.unsigned_abs.result) c.byte.ensures.text ∙ append_assoc old (45 ∷ []) (decimal c.unsigned_abs.result)
    ∙ ap (λ (l : List ℕ). old ++ l) (with_sign c.ranges.z c.unsigned_abs.ensures.value c.if-z-lt0.true)

pub returns-clause-text : goal.returns-clause-text
returns-clause-text c = c.decimal-2.ensures.text ∙ ap (λ (l : List ℕ). c.args.self.now ++ l) (without c.ranges.z c.unsigned_abs-2.ensures.value c.if-z-lt0.false)
