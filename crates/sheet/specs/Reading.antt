-- How a sheet is read: its refusals in order, else its night as it lies on it. Editions 1, 2 and 3.
use Rattle.std.specs.Prelude.{◌≡◌, Bool, false, cond, not, ◌&&◌, ◌||◌, List, ℕ, ◌+◌, ◌*◌, ◌-◌, ◌^◌, ◌≤◌, ◌<◌, leb, ltb, eqb, ℤ, pos, length, replicate}
use Rattle.ints.specs.Parts.{Within}
use Rattle.lists.specs.Permutations.{at}
use Rattle.layout.specs.Values.{value_of}
use Rattle.layout.specs.Trailers.{sheet_mark, has_row_count, distance_of, side_of, edition_of, row_count_of, unmarked}
use Rattle.layout.specs.Sheets.{costs_at, bars_at}
use Rattle.layout.specs.Slips.{row_count_length, slip_length}
use Rattle.assignment.specs.Pairings.{signed_at}
use Rattle.bars.specs.Tests.{barred_most, bars_clear}
use Rattle.matrix.specs.Limits.{sheet_side, K}
use Rattle.matrix.specs.Verdicts.{◌then◌, fails_if, fails_at}
use Rattle.matrix.specs.Tests.{costs_in}
use Rattle.matrix.specs.Verdicts.{Verdict}
use Rattle.std.specs.Prelude.{Ok, Err}
use Rattle.matrix.specs.declared.refusals.Refusal.{Refusal}
use Rattle.matrix.specs.declared.refusals.Reason.TheVariants.{NoMark, EditionUnknown, SheetSideOver, DistanceWrong, DistancePastBytes, SlipRoomShort, SheetOver, NoteUnfit, RowsOver}

-- "sheet over 65,536 bytes".
unfoldable pub sheet_most : ℕ
sheet_most = 65536

-- "over 4,096 bytes": the most that a note has.
unfoldable pub note_most : ℕ
note_most = 4096

-- Whether an edition has bars: 2.
abbrev pub has_bars : ℕ → Bool
has_bars edition = eqb edition 2

-- "none of the three".
abbrev pub unknown : ℕ → Bool
unknown edition = not (eqb edition 1) && not (has_bars edition) && not (has_row_count edition)

-- How many rows a sheet has: as many as columns, or as its row count says.
abbrev pub rows_of : List ℕ → ℕ
rows_of sheet = cond (has_row_count (edition_of sheet)) (row_count_of sheet) (side_of sheet)

-- The distance that an edition wants, of m rows and n columns: "4*n*n", with bars "4*n*n + 8*n", with a row count "4*m*n + 2".
abbrev pub distance_due : ℕ → ℕ → ℕ → ℕ
distance_due edition m n = 4 * (m * n) + cond (has_bars edition) (8 * n) 0 + row_count_length edition

-- The limit of an edition's costs.
abbrev pub cost_most : ℕ → ℕ
cost_most edition = cond (has_bars edition) barred_most K

-- A night as it lies on a sheet: edition, m rows and n columns, the side; m*n costs in row order; and for each of n rows a number whose bits are the
-- columns barred to it.
pub record Laid : Type 0 where
  pub edition : ℕ
  pub row_count : ℕ
  pub side : ℕ
  pub costs : List ℤ
  pub bars : List ℕ

-- The bars of n rows, where the edition has some: else none is set.
abbrev pub bars_in : ℕ → ℕ → List ℕ → List ℕ
bars_in edition n sheet = cond (has_bars edition) (bars_at n sheet) (replicate n 0)

-- A sheet of an edition, so many rows and a side, whose first cost lies so far before the trailer.
abbrev pub laid_at : ℕ → ℕ → ℕ → ℕ → List ℕ → Laid
laid_at edition m n distance sheet = record { edition = edition; row_count = m; side = n; costs = costs_at distance (m * n) sheet; bars = bars_in edition n sheet }

-- A sheet's night, by its trailer.
abbrev pub laid_of : List ℕ → Laid
laid_of sheet = laid_at (edition_of sheet) (rows_of sheet) (side_of sheet) (distance_of sheet) sheet

-- 17, 11, 12, 13: the sheet's length, and what its trailer says.
abbrev pub trailed : List ℕ → Verdict
trailed sheet =
    fails_if SheetOver 0 (ltb sheet_most (length sheet))
    then fails_if NoMark 0 (unmarked (value_of sheet_mark) sheet)
    then fails_if EditionUnknown 0 (unknown (edition_of sheet))
    then fails_if SheetSideOver 0 (ltb sheet_side (side_of sheet))

-- 23, "an edition 3 sheet under 14 bytes (place 0), or more rows than columns (place the row count)".
abbrev pub uncut : List ℕ → Verdict
uncut sheet = fails_if RowsOver 0 (has_row_count (edition_of sheet) && ltb (length sheet) 14)

abbrev pub rows_fit : List ℕ → Verdict
rows_fit sheet = uncut sheet then fails_if RowsOver (rows_of sheet) (ltb (side_of sheet) (rows_of sheet))

-- 14, 15: where it points.
abbrev pub pointed : List ℕ → Verdict
pointed sheet =
    fails_if DistanceWrong 0 (not (eqb (distance_of sheet) (distance_due (edition_of sheet) (rows_of sheet) (side_of sheet))))
    then fails_if DistancePastBytes 0 (ltb (length sheet - 12) (distance_of sheet))

-- How long the note is: all bytes before the first cost.
abbrev pub note_length : List ℕ → ℕ
note_length sheet = length sheet - 12 - distance_of sheet

-- "a byte outside 32 to 126".
abbrev pub unprintable : ℕ → Bool
unprintable byte = ltb byte 32 || ltb 126 byte

-- No note goes on at position k, which holds this byte: it is past 4,096 bytes, or such a byte.
abbrev pub unfit_at : ℕ → ℕ → Bool
unfit_at k byte = leb note_most k || unprintable byte

abbrev pub unfit : List ℕ → ℕ → Bool
unfit sheet k = unfit_at k (at sheet k)

-- 21, "place the first such position, 4,096 for a longer note whose first 4,096 bytes are good".
abbrev pub note_fit : List ℕ → Verdict
note_fit sheet = fails_at NoteUnfit (λ k. k) (note_length sheet) (unfit sheet)

-- 16, "slip room under 18n+20", or under what the edition's slip needs.
abbrev pub room_long : ℕ → List ℕ → Verdict
room_long room sheet = fails_if SlipRoomShort 0 (ltb room (slip_length (edition_of sheet) (rows_of sheet) (side_of sheet)))

-- "Sheets: 17, 11, 12, 13," 23, "14, 15," 21, "16, 5", 22, 20. "Where several apply, the first in its entry's order is given": those that come before the costs.
unfoldable pub sheet_tests : ℕ → List ℕ → Verdict
sheet_tests room sheet = trailed sheet then rows_fit sheet then pointed sheet then note_fit sheet then room_long room sheet

-- 5 and 22, of the night.
abbrev pub night_tests : Laid → Verdict
night_tests laid = costs_in (pos (cost_most laid.edition)) laid.costs then bars_clear laid.side laid.bars

-- What a sheet reads as.
pub data Read : Type 0 where
  refused : Refusal → Read
  night : Laid → Read

abbrev pub night_if : Laid → Verdict → Read
night_if laid (Ok _) = night laid
night_if laid (Err refusal) = refused refusal

abbrev pub night_tested : Laid → Read
night_tested laid = night_if laid (night_tests laid)

-- A sheet from the verdict of those before them.
abbrev pub read_if : List ℕ → Verdict → Read
read_if sheet (Ok _) = night_tested (laid_of sheet)
read_if sheet (Err refusal) = refused refusal

-- A sheet, read for a slip room of so many bytes.
unfoldable pub read : ℕ → List ℕ → Read
read room sheet = read_if sheet (sheet_tests room sheet)

-- A note that is for people: at most 4,096 bytes, each in 32 to 126.
pub record Printable (note : List ℕ) : Type 0 where
  pub short : length note ≤ note_most
  pub printed : (k : ℕ) → k < length note → unprintable (at note k) ≡ false

-- What makes a night good to lay on a sheet of its edition: a side, at most as many rows, and as many costs and bars as they say, each within its limit.
pub record Layable (laid : Laid) : Type 0 where
  pub known : unknown laid.edition ≡ false
  pub small : laid.side ≤ sheet_side
  pub fewer : laid.row_count ≤ laid.side
  pub square : has_row_count laid.edition ≡ false → laid.row_count ≡ laid.side
  pub filled : length laid.costs ≡ laid.row_count * laid.side
  pub inside : (k : ℕ) → k < laid.row_count * laid.side → Within (cost_most laid.edition) (signed_at laid.costs k)
  pub rows : length laid.bars ≡ laid.side
  pub clear : (i : ℕ) → i < laid.side → at laid.bars i < 2 ^ laid.side
  pub unbarred : has_bars laid.edition ≡ false → laid.bars ≡ replicate laid.side 0
