-- The three calls of a sheet in pieces: what each answers and leaves, whatever is kept.
use Rattle.std.specs.Prelude.{cond, List, [], ◌∷◌, ℕ, ◌+◌, ltb, length, set, take}
use Rattle.lists.specs.Parts.{replaced}
use Rattle.matrix.specs.Refusals.{number}
use Rattle.matrix.specs.declared.refusals.Reason.TheVariants.{SheetOver, SheetEnded}
use Rattle.sheet.specs.Reading.{sheet_most}
use Rattle.sheet.specs.Settle.{Delivery, pair}
use Rattle.pieces.specs.Kept.{Kept, kept, over_mark, end_mark, held}
use Rattle.pieces.specs.declared.Held.{Held}
use Rattle.pieces.specs.declared.Held.TheVariants.{Taking, Over, Ended}

-- What is kept, with another mark.
abbrev pub marked : ℕ → Kept → Kept
marked mark k = kept k.bytes (set k.state 1 mark)

-- What is kept, with a piece behind the n bytes that have come.
abbrev pub longer : ℕ → List ℕ → Kept → Kept
longer n piece k = kept (replaced n piece k.bytes) (set k.state 0 (n + length piece))

-- What a piece or a reset answers, and what is kept then.
pub record Taken : Type 0 where
  pub number : ℕ
  pub kept : Kept

abbrev pub taken : ℕ → Kept → Taken
taken number k = record { number = number; kept = k }

-- A piece: "A piece before the end that would pass 65,536 gives 17, as does every later call"; after the end "any call gives 28, place 0, changing
-- nothing".
abbrev pub piece_by : List ℕ → Kept → Held → Taken
piece_by piece k (Taking n) = cond (ltb sheet_most (n + length piece)) (taken (number SheetOver) (marked over_mark k)) (taken 0 (longer n piece k))
piece_by piece k Over = taken (number SheetOver) k
piece_by piece k Ended = taken (number SheetEnded) k

unfoldable pub piece : List ℕ → Kept → Taken
piece bytes k = piece_by bytes k (held k)

-- What the end answers and leaves in the slip's room, and what is kept then.
pub record Ending : Type 0 where
  pub delivery : Delivery
  pub kept : Kept

abbrev pub ending : Delivery → Kept → Ending
ending delivery k = record { delivery = delivery; kept = k }

-- A number, and the slip's room: with a refusal it is as it was.
abbrev pub delivered : ℕ → List ℕ → Delivery
delivered number slip = record { number = number; slip = slip }

-- The end: "give at the end what the whole would have given"; it marks the state, "refused or not".
abbrev pub end_by : List ℕ → Kept → Held → Ending
end_by slip k (Taking n) = ending (pair (take n k.bytes) slip) (marked end_mark k)
end_by slip k Over = ending (delivered (number SheetOver) slip) k
end_by slip k Ended = ending (delivered (number SheetEnded) slip) k

unfoldable pub end : List ℕ → Kept → Ending
end slip k = end_by slip k (held k)

-- "a reset returns to the fresh state": no byte of the room is touched.
abbrev pub reset : Kept → Taken
reset k = taken 0 (kept k.bytes (0 ∷ 0 ∷ []))

-- ---- pieces, one after the other

-- What is kept after some pieces.
unfoldable pub pieces : List (List ℕ) → Kept → Kept
pieces [] k = k
pieces (bytes ∷ rest) k = pieces rest (piece bytes k).kept

-- "what the whole would have given", 17 for a whole over 65,536 bytes.
abbrev pub whole : List ℕ → List ℕ → Delivery
whole sheet slip = cond (ltb sheet_most (length sheet)) (delivered (number SheetOver) slip) (pair sheet slip)
