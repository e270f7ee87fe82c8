-- A sheet of scores: two lists of references, every reference of the first with every one of the second.
use Rattle.std.specs.Prelude.{Bool, not, ◌||◌, List, [], ◌++◌, ℕ, ◌+◌, ◌*◌, ◌/◌, ◌%◌, ltb, eqb, ℤ, length, drop, Ok, Err}
use Rattle.lists.specs.Parts.{part}
use Rattle.lists.specs.Permutations.{table}
use Rattle.layout.specs.Sheets.{sheet_of}
use Rattle.matrix.specs.Limits.{sheet_side}
use Rattle.matrix.specs.Refusals.{code_of}
use Rattle.matrix.specs.declared.refusals.Reason.TheVariants.{SheetSideOver, SlipRoomShort, ReferenceLength}
use Rattle.matrix.specs.Verdicts.{Verdict, ◌then◌, fails_if}
use Rattle.score.specs.Score.{characters_known, score_of}

-- How many references a list has, and the one with number i.
abbrev pub reference_count : List ℕ → ℕ
reference_count list = length list / 12

abbrev pub reference : ℕ → List ℕ → List ℕ
reference i list = part (12 * i) 12 list

-- Two lengths differ, or are not of whole references.
abbrev pub uneven : ℕ → ℕ → Bool
uneven first second = not (eqb first second) || not (eqb (first % 12) 0)

-- How long a sheet of side n without a note is: "4*n*n + 12".
abbrev pub sheet_length : ℕ → ℕ
sheet_length n = 4 * (n * n) + 12

-- "Lists of unequal length, or not of whole references, are 18, place 0; then over 64 is 13; then sheet room under 4*n*n + 12 is 16": of lists and a room
-- with these lengths.
abbrev pub lists_fit : ℕ → ℕ → ℕ → Verdict
lists_fit firsts seconds room =
    fails_if ReferenceLength 0 (uneven firsts seconds)
    then fails_if SheetSideOver 0 (ltb sheet_side (firsts / 12))
    then fails_if SlipRoomShort 0 (ltb room (sheet_length (firsts / 12)))

-- "then a bad character is 19, first list whole before the second".
unfoldable pub sheet_tests : List ℕ → List ℕ → ℕ → Verdict
sheet_tests firsts seconds room = lists_fit (length firsts) (length seconds) room then characters_known 0 firsts then characters_known 12 seconds

-- The cost at place k in row order. "The first list gives the rows".
abbrev pub score_at : ℕ → List ℕ → List ℕ → ℕ → ℤ
score_at n firsts seconds k = score_of (reference (k / n) firsts) (reference (k % n) seconds)

-- The costs of a sheet of side n.
abbrev pub scores : ℕ → List ℕ → List ℕ → List ℤ
scores n firsts seconds = table (n * n) (score_at n firsts seconds)

-- "no note is written": a sheet of edition 1 from its costs.
abbrev pub scored_sheet : List ℕ → List ℕ → List ℕ
scored_sheet firsts seconds = sheet_of [] (reference_count firsts) (scores (reference_count firsts) firsts seconds)

-- What the caller gets and finds: 0 or number + 256*place, and the sheet's room.
pub record Filled : Type 0 where
  pub number : ℕ
  pub sheet : List ℕ

-- A refusal writes nothing; "room past the sheet is untouched".
abbrev pub filled_if : List ℕ → List ℕ → List ℕ → Verdict → Filled
filled_if firsts seconds room (Ok _) = record { number = 0; sheet = scored_sheet firsts seconds ++ drop (sheet_length (reference_count firsts)) room }
filled_if firsts seconds room (Err refusal) = record { number = code_of refusal; sheet = room }

unfoldable pub score_sheet : List ℕ → List ℕ → List ℕ → Filled
score_sheet firsts seconds room = filled_if firsts seconds room (sheet_tests firsts seconds (length room))
