-- What two lists that pass the tests of a sheet of scores are like. Assumes nothing.
use mathlib.Core.Path.{◌≡◌, refl, sym, ap₂, ◌∙◌}
use mathlib.Core.Bool.{Bool, true, false, not, ◌||◌}
use mathlib.Core.Logic.{◌↔◌}
use mathlib.Core.List.{List}
use Prim.Native.Nat.{ℕ, ◌*◌, ◌/◌, ◌%◌, ◌≤◌}
use native.Mathlib.Nat.{div-add-mod}
use native.Mathlib.Omega.{arith}
use borrow.Author.Tests.{ltb-false, le-ltb, eqb-true, eq-eqb, not-false}
use lib.Dec.{eqb}
use lib.ListN.{length}
use Rattle.matrix.specs.Limits.{sheet_side}
use Rattle.matrix.specs.Verdicts.{Passes}
use Rattle.matrix.proofs.Verdicts.{then_iff, fails_if_iff}
use Rattle.score.specs.ScoreSheet.{reference_count, sheet_length, lists_fit, sheet_tests}
use Rattle.score.specs.Asked.{Lists}
use Rattle.score.proofs.Scores.{characters_known_lem}

-- Whole references, as many in one list as in the other, and room for their sheet.
pub record Fit (firsts seconds room : ℕ) : Type 0 where
  pub equal : firsts ≡ seconds
  pub whole : firsts ≡ 12 * (firsts / 12)
  pub few : firsts / 12 ≤ sheet_side
  pub roomy : sheet_length (firsts / 12) ≤ room

neither : (a b : Bool) → a || b ≡ false → (a ≡ false) × (b ≡ false)
neither true b e = (e, absurd (let z : ◌≡◌ {A = ℕ} 0 1 = cc in omega arith))
neither false b e = (refl, e)

pub lists_fit_lem : (firsts seconds room : ℕ) → Passes (lists_fit firsts seconds room) ↔ Fit firsts seconds room
lists_fit_lem firsts seconds room =
    let b = then_iff _ _ in
    let a = then_iff _ _ in
    let t18 = fails_if_iff _ _ _ in
    let t13 = fails_if_iff _ _ _ in
    let t16 = fails_if_iff _ _ _ in
    let split = div-add-mod firsts 12 in (
      λ e.
          let even = neither (not (eqb firsts seconds)) (not (eqb (firsts % 12) 0)) (t18.0 (a.0 (b.0 e).0).0) in
          record {
            equal = eqb-true firsts seconds (not-false _ even.0);
            whole = omega (arith, split, eqb-true (firsts % 12) 0 (not-false _ even.1));
            few = ltb-false sheet_side (firsts / 12) (t13.0 (a.0 (b.0 e).0).1);
            roomy = ltb-false room (sheet_length (firsts / 12)) (t16.0 (b.0 e).1);
          },
      λ h.
          b.1 (a.1 (t18.1 (ap₂ (λ (s t : Bool). not s || not t) (eq-eqb firsts seconds h.equal) (eq-eqb (firsts % 12) 0 (omega (arith, split, h.whole)))), t13.1 (le-ltb sheet_side (firsts / 12) h.few)), t16.1 (le-ltb room (sheet_length (firsts / 12)) h.roomy)),
    )

pub sheet_tests_iff : (firsts seconds : List ℕ) (room : ℕ) → let n = reference_count firsts in Passes (sheet_tests firsts seconds room) ↔ (Lists n firsts seconds × (sheet_length n ≤ room))
unfolding sheet_tests
sheet_tests_iff firsts seconds room =
    let b = then_iff _ _ in
    let a = then_iff _ _ in
    let n = reference_count firsts in (
      λ e.
          let fit = (lists_fit_lem (length firsts) (length seconds) room).0 (a.0 (b.0 e).0).0 in (
            record {
              few = fit.few;
              rows = (characters_known_lem 0 (12 * n) firsts fit.whole).0 (a.0 (b.0 e).0).1;
              columns = (characters_known_lem 12 (12 * n) seconds (sym fit.equal ∙ fit.whole)).0 (b.0 e).1;
            },
            fit.roomy,
          ),
      λ h.
          let l = h.0 in
          let fit = (lists_fit_lem (length firsts) (length seconds) room).1 (record { equal = l.rows.size ∙ sym l.columns.size; whole = l.rows.size; few = l.few; roomy = h.1 }) in
          b.1 (a.1 (fit, (characters_known_lem 0 (12 * n) firsts l.rows.size).1 l.rows), (characters_known_lem 12 (12 * n) seconds l.columns.size).1 l.columns),
    )
