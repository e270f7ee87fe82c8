-- Scores, a sheet and refusals in their order, by computation. Assumes nothing.
use mathlib.Core.Path.{◌≡◌, refl}
use mathlib.Core.List.{List, [], ◌∷◌, ◌++◌, flat_map}
use Prim.Native.Nat.{ℕ, ◌+◌, ◌*◌}
use lib.IntN.{pos}
use lib.ListN.{replicate}
use Rattle.lists.specs.Permutations.{table}
use Rattle.lists.specs.Runs.{turns, upward, first}
use Rattle.lists.specs.Sums.{sum}
use Rattle.layout.specs.Values.{bytes_of}
use Rattle.layout.specs.Sheets.{sheet_of}
use Rattle.matrix.specs.Limits.{sheet_side}
use Rattle.matrix.specs.Verdicts.{fails_by, fails_at_by}
use Rattle.matrix.specs.Answers.{values_of, totalled}
use Rattle.std.specs.Prelude.{Ok}
use Rattle.score.specs.Characters.{character_cost}
use Rattle.score.specs.Score.{score_tests, score_of, score}
use Rattle.score.specs.ScoreSheet.{sheet_tests, score_sheet}

-- "0123456789AB", the same written with look-alikes "OIZ34S67B9AB", and "ABCDEFGHIJKL".
plain : List ℕ
plain = 48 ∷ 49 ∷ 50 ∷ 51 ∷ 52 ∷ 53 ∷ 54 ∷ 55 ∷ 56 ∷ 57 ∷ 65 ∷ 66 ∷ []

alike : List ℕ
alike = 79 ∷ 73 ∷ 90 ∷ 51 ∷ 52 ∷ 83 ∷ 54 ∷ 55 ∷ 66 ∷ 57 ∷ 65 ∷ 66 ∷ []

other : List ℕ
other = 65 ∷ 66 ∷ 67 ∷ 68 ∷ 69 ∷ 70 ∷ 71 ∷ 72 ∷ 73 ∷ 74 ∷ 75 ∷ 76 ∷ []

-- In lower case "abcdefghijkl" no character is known.
lower : List ℕ
lower = table 12 (λ k. 97 + k)

alike_score : score plain alike ≡ Ok (pos 10)
unfolding plain alike score score_tests score_of character_cost totalled fails_by fails_at_by first upward turns sum
alike_score = refl

other_score : score plain other ≡ Ok (pos 108)
unfolding plain other score score_tests score_of character_cost totalled fails_by fails_at_by first upward turns sum
other_score = refl

-- 18 at 2 comes before 19 at 0; the first character of a second reference is place 12.
second_short : (values_of (score lower (65 ∷ []))).place ≡ 2
unfolding lower table score score_tests score_of character_cost totalled fails_by fails_at_by first upward turns sum
second_short = refl

second_lower : (values_of (score plain lower)).place ≡ 12
unfolding plain lower table score score_tests score_of character_cost totalled fails_by fails_at_by first upward turns sum
second_lower = refl

-- Two references each: rows of the first list, and the last byte of the room as it was.
sheet : score_sheet (plain ++ other) (alike ++ plain) (replicate 29 7)
    ≡ record { number = 0; sheet = sheet_of [] 2 (pos 10 ∷ pos 0 ∷ pos 108 ∷ pos 108 ∷ []) ++ (7 ∷ []) }
unfolding plain alike other score_sheet sheet_tests score_of character_cost sheet_side table flat_map bytes_of fails_by fails_at_by first upward turns sum
sheet = refl

empty : score_sheet [] [] (replicate 13 7) ≡ record { number = 0; sheet = sheet_of [] 0 [] ++ (7 ∷ []) }
unfolding score_sheet sheet_tests score_of character_cost sheet_side table flat_map bytes_of fails_by fails_at_by first upward turns sum
empty = refl

-- 19 in the second reference of the first list comes before 19 in the first of the second: place 24.
bad : score_sheet (plain ++ lower) (lower ++ plain) (replicate 28 7) ≡ record { number = 19 + 256 * 24; sheet = replicate 28 7 }
unfolding plain lower score_sheet sheet_tests score_of character_cost sheet_side table flat_map bytes_of fails_by fails_at_by first upward turns sum
bad = refl

-- 16 comes before 19, and 18 before both.
roomless : score_sheet (lower ++ plain) plain [] ≡ record { number = 18; sheet = [] }
unfolding plain lower score_sheet sheet_tests score_of character_cost sheet_side table flat_map bytes_of fails_by fails_at_by first upward turns sum
roomless = refl

short : score_sheet lower plain (replicate 15 7) ≡ record { number = 16; sheet = replicate 15 7 }
unfolding plain lower score_sheet sheet_tests score_of character_cost sheet_side table flat_map bytes_of fails_by fails_at_by first upward turns sum
short = refl
