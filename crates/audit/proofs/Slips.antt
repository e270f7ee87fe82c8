-- A slip's form, and the total that the plain engine gives. Assumes nothing.
use mathlib.Core.Path.{◌≡◌, refl, sym, ap, ◌∙◌}
use mathlib.Core.Bool.{Bool, true, false, not, ◌||◌, true≢false}
use mathlib.Core.List.{List}
use Prim.Native.Nat.{ℕ, ◌^◌, ◌≤◌, ◌<◌}
use borrow.Author.Tests.{eq-eqb, eqb-true}
use lib.Dec.{eqb}
use lib.Signed.{mag}
use mir.Syntax.{w64}
use mir.Val.{to_z, of_z}
use Rattle.ints.proofs.Bits.{read_back}
use Rattle.checker.specs.Tests.{differ}
use Rattle.checker.proofs.Places.{differ_same, differ_apart}
use lib.IntN.{ℤ}
use Rattle.assignment.specs.Pairings.{total}
use Rattle.bars.specs.Barred.{night_of}
use Rattle.layout.specs.Slips.{slip_total}
use Rattle.matrix.specs.declared.refusals.Refusal.{Refusal}
use Rattle.matrix.specs.Verdicts.{Verdict}
use Rattle.std.specs.Prelude.{Option, Some, Ok, Err}
use Rattle.plain.specs.Engine.{cost_of, chosen}
use Rattle.plain.proofs.Answers.{same-costs, pairing_found, chosen-same}
use Rattle.audit.specs.Audit.{audited_by}
use Rattle.audit.specs.Audit.{holds}
use Rattle.audit.specs.Asked.{LeastTotal}

-- one test after another
pub or_here : (a b : Bool) → a ≡ true → true ≡ (a || b)
or_here a b e = rw e refl

pub or_next : (a b c : Bool) → a ≡ false → c ≡ b → c ≡ (a || b)
or_next a b c e f = rw e f

-- The plain engine's total is the least.
pub second_total : (m n : ℕ) (costs : List ℤ) (bars : List ℕ) (t : ℤ) → m ≤ n → LeastTotal m n costs bars t → (k : ℕ) → k ≡ m → (found : Option ℤ)
    → found ≡ cost_of (night_of k n costs bars) (chosen (night_of k n costs bars)) → (s : ℤ) → found ≡ Some s → s ≡ t
second_total m n costs bars t fewer h k e found f s g =
    let night = night_of m n costs bars in
    let here : found ≡ cost_of night (chosen night) = f ∙ ap (λ (i : ℕ). cost_of (night_of i n costs bars) (chosen (night_of i n costs bars))) e in
    same-costs s (total night (chosen night)) (sym g ∙ here ∙ pairing_found night fewer h.cols h.least.pairing)
    ∙ chosen-same night fewer h.cols h.least ∙ sym h.totals

-- What is told of a verdict.
pub audited_fails : (m n : ℕ) (slip : List ℕ) {verdict : Verdict} {refusal : Refusal} → verdict ≡ Err refusal → Err refusal ≡ audited_by m n slip verdict
audited_fails m n slip e = rw e refl

pub audited_passes : (m n : ℕ) (slip : List ℕ) {verdict : Verdict} {t : ℤ} → verdict ≡ (Ok tt) → t ≡ slip_total m n slip → holds n t ≡ audited_by m n slip verdict
audited_passes m n slip e f = rw e (ap (holds n) f)

-- Totals as the code holds them are told apart as they are.
pub apart_bits : (a b : ℤ) → mag a < 2 ^ 63 → mag b < 2 ^ 63 → not (eqb (of_z w64 a) (of_z w64 b)) ≡ differ a b
apart_bits a b f g = by (eqb (of_z w64 a) (of_z w64 b)) refl
  where
    by : (t : Bool) → eqb (of_z w64 a) (of_z w64 b) ≡ t → not t ≡ differ a b
    by true e = sym (differ_same a b (sym (read_back w64 a f) ∙ ap (to_z w64) (eqb-true (of_z w64 a) (of_z w64 b) e) ∙ read_back w64 b g))
    by false e = sym (differ_apart a b (λ s. absurd (true≢false (sym (eq-eqb (of_z w64 a) (of_z w64 b) (ap (of_z w64) s)) ∙ e))))
