-- The flags of tests on integers from the orders, and one order or the other. Assumes nothing.
use mathlib.Core.Path.{◌≡◌, refl, sym, ◌∙◌}
use mathlib.Core.Bool.{Bool, true, false}
use mathlib.Core.Logic.{◌⊎◌, inl, inr, ⊎_elim}
use lib.IntN.{ℤ, ◌+ℤ◌}
use lib.Signed.{◌≤ℤ◌, ◌<ℤ◌, le_z, lt_z}
use Rattle.ints.proofs.Orders.{le_z_false, lt_z_true, lt_z_false}
use Rattle.ints.proofs.Sums.{sum}
use Rattle.ints.proofs.Ranges.{zarith}

pub not_false_true : {t : Bool} → (t ≡ false → ⊥) → t ≡ true
not_false_true {t = true} h = refl
not_false_true {t = false} h = absurd (h refl)

pub not_true_false : {t : Bool} → (t ≡ true → ⊥) → t ≡ false
not_true_false {t = true} h = absurd (h refl)
not_true_false {t = false} h = refl

pub lt_lt_z : (a b : ℤ) → a <ℤ b → lt_z a b ≡ true
lt_lt_z a b h = not_false_true (λ e. omega (zarith, lt_z_false a b e))

pub le_lt_z : (a b : ℤ) → b ≤ℤ a → lt_z a b ≡ false
le_lt_z a b h = not_true_false (λ e. omega (zarith, lt_z_true a b e))

pub le_le_z : (a b : ℤ) → a ≤ℤ b → le_z a b ≡ true
le_le_z a b h = not_false_true (λ e. omega (zarith, le_z_false a b e))

-- for a case distinction, which omega does not make
pub le_or_lt : (a b : ℤ) → (a ≤ℤ b) ⊎ (b <ℤ a)
le_or_lt a b = by (le_z a b) refl
  where
    by : (t : Bool) → le_z a b ≡ t → (a ≤ℤ b) ⊎ (b <ℤ a)
    by true e = inl (omega zarith)
    by false e = inr (omega zarith)

pub not_lt_le : {a b : ℤ} → ¬ (a <ℤ b) → b ≤ℤ a
not_lt_le {a} {b} h = ⊎_elim (λ l. l) (λ l. absurd (h l)) (le_or_lt b a)

-- A number that is added to both sides changes no test.
pub lt_z_plus : (a b d : ℤ) → lt_z (a +ℤ d) (b +ℤ d) ≡ lt_z a b
lt_z_plus a b d = ⊎_elim
    (λ h. le_lt_z (a +ℤ d) (b +ℤ d) (omega (zarith, sum a d, sum b d)) ∙ sym (le_lt_z a b h))
    (λ h. lt_lt_z (a +ℤ d) (b +ℤ d) (omega (zarith, sum a d, sum b d)) ∙ sym (lt_lt_z a b h))
    (le_or_lt b a)
