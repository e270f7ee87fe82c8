-- What is kept between the calls that take a sheet in pieces, and what it says.
use Rattle.std.specs.Prelude.{◌≡◌, cond, List, [], ◌∷◌, ℕ, ltb, eqb, length}
use Rattle.lists.specs.Permutations.{at}
use Rattle.sheet.specs.Reading.{sheet_most}
use Rattle.pieces.specs.declared.Held.{Held}
use Rattle.pieces.specs.declared.Held.TheVariants.{Taking, Over, Ended}

-- Room for the longest sheet, at whose front the bytes stand that have come, and two numbers: how many have come, and a mark.
pub record Kept : Type 0 where
  pub bytes : List ℕ
  pub state : List ℕ

abbrev pub kept : List ℕ → List ℕ → Kept
kept bytes state = record { bytes = bytes; state = state }

-- How many bytes have come.
abbrev pub came : Kept → ℕ
came k = at k.state 0

-- The mark: 0 while pieces are taken,
abbrev pub mark : Kept → ℕ
mark k = at k.state 1

-- 1 once 17 was given,
abbrev pub over_mark : ℕ
over_mark = 1

-- 2 once the end was.
abbrev pub end_mark : ℕ
end_mark = 2

-- What the two numbers say: pieces are taken, and so many bytes have come; or 17 was given; or the end was. Numbers that no call leaves are read
-- as if 17 had been given.
abbrev pub held_by : ℕ → ℕ → Held
held_by came mark = cond (ltb sheet_most came) Over (cond (eqb mark 0) (Taking came) (cond (eqb mark end_mark) Ended Over))

abbrev pub held : Kept → Held
held k = held_by (came k) (mark k)

-- "the fresh state": no byte has come, whatever stands in the room for them. Zeroed memory is fresh, and so is what a reset leaves.
pub record Fresh (k : Kept) : Type 0 where
  pub room : length k.bytes ≡ sheet_most
  pub zeros : k.state ≡ 0 ∷ 0 ∷ []
