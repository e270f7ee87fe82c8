-- The trailer of sheets and slips, and where its parts are found again.
use Rattle.std.specs.Prelude.{Bool, not, ◌||◌, List, [], ◌∷◌, ◌++◌, ℕ, ◌-◌, ltb, eqb, length}
use Rattle.lists.specs.Parts.{part}
use Rattle.layout.specs.Values.{bytes_of, value_of}

-- "mark "MTCH"": `4D 54 43 48`.
abbrev pub sheet_mark : List ℕ
sheet_mark = 77 ∷ 84 ∷ 67 ∷ 72 ∷ []

-- "mark "SLIP"": `53 4C 49 50`.
abbrev pub slip_mark : List ℕ
slip_mark = 83 ∷ 76 ∷ 73 ∷ 80 ∷ []

-- "a 12-byte trailer pointing back: distance [..] (4 bytes), side (2), edition 1 (2), mark".
abbrev pub trailer : ℕ → ℕ → ℕ → List ℕ → List ℕ
trailer distance side edition mark = bytes_of 4 distance ++ (bytes_of 2 side ++ (bytes_of 2 edition ++ mark))

-- Whether an edition says its row count between what it holds and the trailer: 3. In others rows are as many as columns.
abbrev pub has_row_count : ℕ → Bool
has_row_count edition = eqb edition 3

-- Its parts, in bytes of which it is the last 12.
abbrev pub distance_of : List ℕ → ℕ
distance_of bytes = value_of (part (length bytes - 12) 4 bytes)

abbrev pub side_of : List ℕ → ℕ
side_of bytes = value_of (part (length bytes - 8) 2 bytes)

abbrev pub edition_of : List ℕ → ℕ
edition_of bytes = value_of (part (length bytes - 6) 2 bytes)

abbrev pub mark_of : List ℕ → ℕ
mark_of bytes = value_of (part (length bytes - 4) 4 bytes)

-- The two bytes before it, where they are the row count.
abbrev pub row_count_of : List ℕ → ℕ
row_count_of bytes = value_of (part (length bytes - 14) 2 bytes)

-- "under 12 bytes, or wrong mark"; the mark as the number that its bytes stand for.
abbrev pub unmarked : ℕ → List ℕ → Bool
unmarked mark bytes = ltb (length bytes) 12 || not (eqb (mark_of bytes) mark)
