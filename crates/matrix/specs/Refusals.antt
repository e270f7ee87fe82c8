-- The scope's refusals: number and place of each, and the slack that it carries. The reasons have their names from here.
use Rattle.std.specs.Prelude.{cond, ℕ, ◌+◌, ◌-◌, ◌*◌, ◌^◌, ltb, ℤ}
use Rattle.matrix.specs.declared.refusals.Refusal.{Refusal}
use Rattle.matrix.specs.declared.refusals.Reason.{Reason}
pub use Rattle.matrix.specs.declared.refusals.Reason.TheVariants.{SideOver, CostsLength, ListLength, RoomShort, CostOutside, ColumnOutside, RowNotNamed, PriceOutside, PricesOverCost, PricesNotCost, NoMark, EditionUnknown, SheetSideOver, DistanceWrong, DistancePastBytes, SlipRoomShort, SheetOver, ReferenceLength, CharacterUnknown, NoPairing, NoteUnfit, BarsPastSide, RowsOver, PriceFar, SlipWrong, BarredPair, SpareBelow, SheetEnded}

-- The scope's number of each reason, under the words of its "When".
abbrev pub number : Reason → ℕ
-- "side over its limit"
number SideOver = 1
-- "cost slice is not exactly n*n long"
number CostsLength = 2
-- "output or list shorter than n (`cost`: longer)"
number ListLength = 3
-- "work room too short"
number RoomShort = 4
-- "a cost outside -K..K"
number CostOutside = 5
-- "a listed column is not below n"
number ColumnOutside = 6
-- "the column of a row does not name that row back"
number RowNotNamed = 7
-- "a price outside -10K..10K"
number PriceOutside = 8
-- "row price + column price over the cost"
number PricesOverCost = 9
-- "on a paired place that sum is not the cost"
number PricesNotCost = 10
-- "sheet under 12 bytes, or wrong mark"
number NoMark = 11
-- "edition not 1"
number EditionUnknown = 12
-- "sheet side over 64"
number SheetSideOver = 13
-- "distance not 4*n*n"
number DistanceWrong = 14
-- "distance exceeds the bytes before the trailer"
number DistancePastBytes = 15
-- "slip room under 18n+20", "sheet room under 4*n*n + 12"
number SlipRoomShort = 16
-- "sheet over 65,536 bytes"
number SheetOver = 17
-- "A wrong length", "Lists of unequal length, or not of whole references"
number ReferenceLength = 18
-- "a wrong character"
number CharacterUnknown = 19
-- "Refuse with 20 exactly if there is none": no pairing without a barred place
number NoPairing = 20
-- "a sheet whose note is over 4,096 bytes or holds a byte outside 32 to 126"
number NoteUnfit = 21
-- "bits from n up must be clear"
number BarsPastSide = 22
-- "More rows than columns"; "an edition 3 sheet under 14 bytes", which has no room for its row count
number RowsOver = 23
-- "Prices outside 7K either side of zero": a repair could take them out of -10K..10K.
number PriceFar = 24
-- "a slip of wrong length, trailer, edition, side, row count or total"
number SlipWrong = 25
-- "a barred pair"
number BarredPair = 26
-- "No spare column's price may be below a used one's"
number SpareBelow = 27
-- "any call after the end", but a reset
number SheetEnded = 28

-- The scope's "No." of a refusal.
abbrev pub number_of : Refusal → ℕ
number_of refusal = number refusal.reason

-- The scope's "Place": "0 where none is named".
abbrev pub place_of : Refusal → ℕ
place_of refusal = refusal.place

-- "Refusals 9 and 10 carry that signed number, all other refusals carry 0": the slack of the place named.
abbrev pub slack_of : Refusal → ℤ
slack_of refusal = refusal.slack

-- "It gets 0, or number + 256*place": a refusal as one number.
abbrev pub code_of : Refusal → ℕ
code_of refusal = number_of refusal + 256 * place_of refusal

-- The same whatever the place: one from 2^56 up, which would not fit, is told as 2^56 - 1.
abbrev pub capped_code_of : Refusal → ℕ
capped_code_of refusal = number_of refusal + 256 * cond (ltb (place_of refusal) (2 ^ 56)) (place_of refusal) (2 ^ 56 - 1)
