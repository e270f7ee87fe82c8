-- The program's whole output, from a sheet's bytes. Every line ends with a line feed.
use Rattle.std.specs.Prelude.{Bool, cond, List, [], ◌∷◌, ◌++◌, ℕ, zero, suc, ◌+◌, ◌*◌, ltb, eqb, ℤ, pos, length, drop}
use Rattle.lists.specs.Permutations.{at}
use Rattle.lists.specs.Counts.{some}
use Rattle.layout.specs.Slips.{slip_length}
use Rattle.assignment.specs.Pairings.{signed_at}
use Rattle.bars.specs.Barred.{night_of}
use Rattle.matrix.specs.Limits.{sheet_side}
use Rattle.matrix.specs.Refusals.{number_of, place_of}
use Rattle.matrix.specs.declared.refusals.Reason.TheVariants.{NoPairing}
use Rattle.matrix.specs.declared.refusals.Refusal.{Refusal}
use Rattle.swaps.specs.Second.{Answer, only, also, second}
use Rattle.sheet.specs.Reading.{Laid, Read, refused, night, read}
use Rattle.sheet.specs.Settle.{found, barred_row}
use Rattle.lines.specs.Decimal.{decimal, signed_decimal}

-- "accepted "
abbrev pub accepted_text : List ℕ
accepted_text = 97 ∷ 99 ∷ 99 ∷ 101 ∷ 112 ∷ 116 ∷ 101 ∷ 100 ∷ 32 ∷ []

-- " total "
abbrev pub total_text : List ℕ
total_text = 32 ∷ 116 ∷ 111 ∷ 116 ∷ 97 ∷ 108 ∷ 32 ∷ []

-- "spare "
abbrev pub spare_text : List ℕ
spare_text = 115 ∷ 112 ∷ 97 ∷ 114 ∷ 101 ∷ 32 ∷ []

-- "only"
abbrev pub only_text : List ℕ
only_text = 111 ∷ 110 ∷ 108 ∷ 121 ∷ []

-- "also"
abbrev pub also_text : List ℕ
also_text = 97 ∷ 108 ∷ 115 ∷ 111 ∷ []

-- "refused "
abbrev pub refused_text : List ℕ
refused_text = 114 ∷ 101 ∷ 102 ∷ 117 ∷ 115 ∷ 101 ∷ 100 ∷ 32 ∷ []

-- " place "
abbrev pub place_text : List ℕ
place_text = 32 ∷ 112 ∷ 108 ∷ 97 ∷ 99 ∷ 101 ∷ 32 ∷ []

-- A line feed.
abbrev pub feed : List ℕ
feed = 10 ∷ []

-- A blank.
abbrev pub blank : List ℕ
blank = 32 ∷ []

-- "`accepted`, side, `total` and total".
unfoldable pub accepted_line : ℕ → ℤ → List ℕ
accepted_line side total = accepted_text ++ (decimal side ++ (total_text ++ (signed_decimal total ++ feed)))

-- "a line per row: row, column, cost".
unfoldable pub row_line : ℕ → ℕ → ℤ → List ℕ
row_line row column cost = decimal row ++ (blank ++ (decimal column ++ (blank ++ (signed_decimal cost ++ feed))))

-- The lines of the first k rows, each of n costs.
unfoldable pub row_lines : ℕ → List ℤ → List ℕ → ℕ → List ℕ
row_lines n costs cols zero = []
row_lines n costs cols (suc k) = row_lines n costs cols k ++ row_line k (at cols k) (signed_at costs (k * n + at cols k))

-- "each as a line `spare J`".
unfoldable pub spare_line : ℕ → List ℕ
spare_line column = spare_text ++ (decimal column ++ feed)

-- Whether one of m rows is paired with column j: where none is, it is spare.
abbrev pub used : ℕ → List ℕ → ℕ → Bool
used m cols j = some m (λ i. eqb (at cols i) j)

-- The line of column j, if it has one.
abbrev pub spare_at : ℕ → List ℕ → ℕ → List ℕ
spare_at m cols j = cond (used m cols j) [] (spare_line j)

-- "Spare columns follow the row lines in rising order": those of the first k columns.
unfoldable pub spare_lines : ℕ → List ℕ → ℕ → List ℕ
spare_lines m cols zero = []
spare_lines m cols (suc k) = spare_lines m cols k ++ spare_at m cols k

-- "the second's columns, each after one blank": the first k of them.
unfoldable pub columns_text : List ℕ → ℕ → List ℕ
columns_text cols zero = []
columns_text cols (suc k) = columns_text cols k ++ (blank ++ decimal (at cols k))

-- "a last line: `only`, or `also` and the second's columns".
abbrev pub second_line : Answer → List ℕ
second_line only = only_text ++ feed
second_line (also cols) = also_text ++ (columns_text cols (length cols) ++ feed)

-- "A refusal is the one line "refused N place P"."
unfoldable pub refused_line : Refusal → List ℕ
refused_line refusal = refused_text ++ (decimal (number_of refusal) ++ (place_text ++ (decimal (place_of refusal) ++ feed)))

-- 20 is a refusal like any other.
abbrev pub no_pairing : Refusal
no_pairing = record { reason = NoPairing; place = 0; slack = pos 0 }

-- Whether another pairing of the night has the total of the one found. Columns and row prices behind those of its rows do not count.
abbrev pub second_of : Laid → Answer
second_of laid =
    let a = found laid in
    second (night_of laid.row_count laid.side laid.costs laid.bars) a.prices_of_rows a.prices_of_columns a.cols

-- The lines of a paired night: "the side written is n", and the costs are those of the sheet.
abbrev pub night_lines : Laid → List ℕ
night_lines laid =
    let m = laid.row_count in
    let n = laid.side in
    let cols = (found laid).cols in
    accepted_line n (found laid).total ++ (row_lines n laid.costs cols m ++ (spare_lines m cols n ++ second_line (second_of laid)))

-- The lines of a sheet as it was read.
abbrev pub lines_as : Read → List ℕ
lines_as (refused refusal) = refused_line refusal
lines_as (night laid) = cond (ltb (barred_row laid) laid.side) (refused_line no_pairing) (night_lines laid)

-- The lines of a sheet. The program's slip room is long enough for every edition and side: 16 does not arise.
unfoldable pub output : List ℕ → List ℕ
output sheet = lines_as (read (slip_length 3 sheet_side sheet_side) sheet)

-- What the program gets and finds: how many bytes, and the room that it lent.
pub record Printed : Type 0 where
  pub count : ℕ
  pub room : List ℕ

-- The lines stand at the front of the room; past them it is untouched.
unfoldable pub printed : List ℕ → List ℕ → Printed
printed sheet room = record { count = length (output sheet); room = output sheet ++ drop (length (output sheet)) room }
