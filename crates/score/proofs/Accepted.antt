-- A sheet of scores is answered with 0 exactly if the lists pass their tests; its costs are then what `score` answers, row by row. Assumes nothing.
use mathlib.Core.Path.{◌≡◌, refl, ap, ap₂, ◌∙◌}
use mathlib.Core.Bool.{Bool}
use mathlib.Core.Logic.{◌↔◌}
use mathlib.Core.List.{List, []}
use Prim.Native.Nat.{ℕ, ◌+◌, ◌*◌, ◌/◌, ◌<◌}
use native.Mathlib.Nat.{mul-add-div_right, mul-add-mod_self_right, div-eq_of_lt, mod-eq_of_lt}
use native.Mathlib.Omega.{arith}
use lib.Dec.{lit<}
use lib.IntN.{pos}
use lib.ListN.{length, take, drop}
use lib.Seq.{take_at}
use Rattle.lists.proofs.Tables.{length-table, get_d_table}
use Rattle.layout.proofs.Sheets.{sheet_length_lem}
use Rattle.assignment.specs.Pairings.{square}
use Rattle.matrix.specs.Refusals.{number, number_of}
use Rattle.matrix.specs.Verdicts.{Passes, fails_if, fails_at}
use Rattle.matrix.specs.declared.refusals.Reason.{Reason}
use Rattle.matrix.specs.declared.refusals.Refusal.{Refusal}
use Rattle.matrix.specs.Verdicts.{Verdict}
use Rattle.std.specs.Prelude.{Ok, Err}
use Rattle.matrix.proofs.Places.{place-below}
use Rattle.matrix.proofs.Verdicts.{Every, then_every, fails_by_every, fails_at_by_every}
use Rattle.score.specs.Score.{score_of, score}
use Rattle.score.specs.ScoreSheet.{reference_count, reference, sheet_length, sheet_tests, score_at, scores, scored_sheet, filled_if, score_sheet}
use Rattle.score.specs.Asked.{Lists}
use Rattle.score.proofs.Scores.{score_iff}
use Rattle.score.proofs.Places.{reference-known}
use Rattle.score.proofs.Passing.{sheet_tests_iff}

-- ---- no refusal has the number 0

abbrev Numbered : Refusal → Type 0
Numbered refusal = 0 < number_of refusal

if_numbered : (reason : Reason) (place : ℕ) (test : Bool) → 0 < number reason → Every Numbered (fails_if reason place test)
if_numbered reason place test l = fails_by_every Numbered reason place (pos 0) test (λ e. l)

at-numbered : (reason : Reason) (place : ℕ → ℕ) (n : ℕ) (test : ℕ → Bool) → 0 < number reason → Every Numbered (fails_at reason place n test)
at-numbered reason place n test l = fails_at_by_every Numbered reason place (λ k. pos 0) n test (λ k h e clear. l)

tests_numbered : (firsts seconds : List ℕ) (room : ℕ) → Every Numbered (sheet_tests firsts seconds room)
unfolding sheet_tests
tests_numbered firsts seconds room =
    then_every Numbered _ _
    (then_every Numbered _ _
    (then_every Numbered _ _ (then_every Numbered _ _ (if_numbered _ _ _ (lit< tt)) (λ e. if_numbered _ _ _ (lit< tt))) (λ e. if_numbered _ _ _ (lit< tt)))
    (λ e. at-numbered _ _ _ _ (lit< tt)))
    (λ e. at-numbered _ _ _ _ (lit< tt))

module _ (firsts seconds room : List ℕ) where
  pub accepted_iff : ((score_sheet firsts seconds room).number ≡ 0) ↔ Passes (sheet_tests firsts seconds (length room))
  unfolding score_sheet
  accepted_iff = (by (sheet_tests firsts seconds (length room)) (tests_numbered firsts seconds (length room)), λ e. ap (λ (v : Verdict). (filled_if firsts seconds room v).number) e)
    where
      by : (v : Verdict) → Every Numbered v → (filled_if firsts seconds room v).number ≡ 0 → Passes v
      by (Ok _) h e = refl
      by (Err refusal) h e = absurd (omega arith)

  abbrev n : ℕ
  n = reference_count firsts

  module _ (e : (score_sheet firsts seconds room).number ≡ 0) where
    pub accepted_lists : Lists n firsts seconds
    accepted_lists = ((sheet_tests_iff firsts seconds (length room)).0 (accepted_iff.0 e)).0

    -- The bytes that are written: the first 4*n*n + 12 of the room.
    pub sheet_written : take (sheet_length n) (score_sheet firsts seconds room).sheet ≡ scored_sheet firsts seconds
    unfolding score_sheet
    sheet_written =
        ap (λ (v : Verdict). take (sheet_length n) (filled_if firsts seconds room v).sheet) (accepted_iff.0 e)
        ∙ take_at (scored_sheet firsts seconds) (drop (sheet_length n) room) (sheet_length n)
        (omega (arith, sheet_length_lem 1 [] n (scores n firsts seconds) [], length-table (n * n) (score_at n firsts seconds)))

    -- The cost of a row and a column is the score of their references.
    pub cost_scored : (i j : ℕ) → i < n → j < n → score (reference i firsts) (reference j seconds) ≡ Ok ((square n (scores n firsts seconds)).cost i j)
    cost_scored i j l m =
        (score_iff (reference i firsts) (reference j seconds)).1 ((reference-known n firsts accepted_lists.rows i l, reference-known n seconds accepted_lists.columns j m), stands)
      where
        row : (i * n + j) / n ≡ i
        row = omega (arith, mul-add-div_right {m = n} (omega arith) i j, div-eq_of_lt {n = j} {m = n} m)

        stands : (square n (scores n firsts seconds)).cost i j ≡ score_of (reference i firsts) (reference j seconds)
        stands =
            get_d_table (n * n) (score_at n firsts seconds) (pos 0) (i * n + j) (place-below n i j l m)
            ∙ ap₂ (λ (r c : ℕ). score_of (reference r firsts) (reference c seconds)) row (mul-add-mod_self_right i n j ∙ mod-eq_of_lt m)
