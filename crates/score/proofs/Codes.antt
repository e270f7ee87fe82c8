-- Refusals as one number: those of scores and of a sheet of them are below 256, and their places far below 2^48. Assumes nothing.
use mathlib.Core.List.{List}
use Prim.Native.Nat.{ℕ, ◌≤◌}
use native.Mathlib.Nat.{div-le_self, mod-le}
use native.Mathlib.Omega.{arith}
use lib.Dec.{lit<}
use lib.ListN.{length}
use Rattle.matrix.specs.Asked.{TellableIn}
use Rattle.matrix.proofs.SmallLimits.{sheet_side_small}
use Rattle.matrix.proofs.Verdicts.{Small, passed_first, then_small, fails_if_small, fails_at_small}
use Rattle.matrix.proofs.Codes.{totalled_small}
use Rattle.score.specs.Score.{characters_known, pair_place, score_tests, score}
use Rattle.score.specs.ScoreSheet.{sheet_tests}
use Rattle.score.proofs.Scores.{lengths_twelve_lem}
use Rattle.score.proofs.Passing.{lists_fit_lem}

characters_small : (start : ℕ) (list : List ℕ) → start ≤ 12 → length list ≤ 768 → Small (characters_known start list)
characters_small start list s h =
    fails_at_small _ (pair_place start) (length list) _ (λ p l. omega (arith, div-le_self p 12, mod-le p 12))

pub score_places : (first second : List ℕ) → TellableIn (score first second)
unfolding score score_tests
score_places first second =
    totalled_small _ _
    (then_small _ _
    (then_small _ _ (then_small _ _ (fails_if_small _ _ _ (λ e. lit< tt)) (λ p. fails_if_small _ _ _ (λ e. lit< tt)))
    (λ p. characters_small 0 first (omega arith) (omega (arith, (lengths_twelve_lem first second).0 p))))
    (λ p. characters_small 12 second (omega arith) (omega (arith, (lengths_twelve_lem first second).0 (passed_first _ _ p)))))

pub sheet_tests_small : (firsts seconds : List ℕ) (room : ℕ) → Small (sheet_tests firsts seconds room)
unfolding sheet_tests
sheet_tests_small firsts seconds room =
    then_small _ _
    (then_small _ _
    (then_small _ _ (then_small _ _ (fails_if_small _ _ _ (λ e. lit< tt)) (λ p. fails_if_small _ _ _ (λ e. lit< tt))) (λ p. fails_if_small _ _ _ (λ e. lit< tt)))
    (λ p. characters_small 0 firsts (omega arith) (omega (arith, sheet_side_small, (lists_fit_lem (length firsts) (length seconds) room).0 p))))
    (λ p. characters_small 12 seconds (omega arith) (omega (arith, sheet_side_small, (lists_fit_lem (length firsts) (length seconds) room).0 (passed_first _ _ p))))
