-- Both ends of the 64-bit numbers as text, and the program's output on some sheets, by computation. Assumes nothing.
use mathlib.Core.Path.{◌≡◌, refl}
use mathlib.Core.List.{List, [], ◌∷◌, map, flat_map}
use Prim.Native.Nat.{ℕ, ◌+◌}
use lib.IntN.{pos, negsuc}
use Rattle.lists.specs.Runs.{turns, upward, downward, until, first}
use Rattle.lists.specs.Permutations.{table}
use Rattle.lists.specs.Sums.{sum}
use Rattle.layout.specs.Values.{bytes_of, value_of}
use Rattle.layout.specs.Fields.{fields}
use Rattle.layout.specs.Sheets.{sheet_of, sheet_oblong}
use Rattle.bars.specs.Barred.{filled_costs}
use Rattle.bars.specs.Masks.{columns_mask, paired_mask, reached_mask}
use Rattle.matrix.specs.Limits.{sheet_side, K}
use Rattle.matrix.specs.Verdicts.{fails_by, fails_at_by}
use Rattle.rules.specs.Lowest.{two_lowest, lowest, least_but}
use Rattle.rules.specs.Block.{block}
use Rattle.rules.specs.Columns.{free, claims, transfers, column_reduction}
use Rattle.rules.specs.Rows.{looks, row_reduction}
use Rattle.rules.specs.Search.{scan, last_free, search_blocks, search, new_prices}
use Rattle.rules.specs.Augmentation.{flips, augments, augmentation}
use Rattle.rules.specs.Run.{stages, run}
use Rattle.bars.specs.Tests.{barred_most}
use Rattle.swaps.specs.Walks.{walk}
use Rattle.swaps.specs.Second.{dearest, second}
use Rattle.sheet.specs.Reading.{sheet_most, note_most, sheet_tests, read}
use Rattle.lines.specs.Decimal.{digits, decimal, signed_decimal}
use Rattle.lines.specs.Lines.{accepted_line, row_line, row_lines, spare_line, spare_lines, columns_text, refused_line, output}

-- digits as text
text : List ℕ → List ℕ
text = map (λ d. 48 + d)

none : decimal 0 ≡ text (0 ∷ [])
unfolding digits text
none = refl

greatest : decimal 18446744073709551615 ≡ text (1 ∷ 8 ∷ 4 ∷ 4 ∷ 6 ∷ 7 ∷ 4 ∷ 4 ∷ 0 ∷ 7 ∷ 3 ∷ 7 ∷ 0 ∷ 9 ∷ 5 ∷ 5 ∷ 1 ∷ 6 ∷ 1 ∷ 5 ∷ [])
unfolding digits text
greatest = refl

least : signed_decimal (negsuc 9223372036854775807) ≡ 45 ∷ text (9 ∷ 2 ∷ 2 ∷ 3 ∷ 3 ∷ 7 ∷ 2 ∷ 0 ∷ 3 ∷ 6 ∷ 8 ∷ 5 ∷ 4 ∷ 7 ∷ 7 ∷ 5 ∷ 8 ∷ 0 ∷ 8 ∷ [])
unfolding digits text
least = refl

-- "The program's whole output for N8 is four lines: `accepted 3 total 1`, `0 2 0`, `1 0 0`, `2 1 1`", and a last line: `also 1 0 2`.
n8 : output (sheet_of [] 3 (map pos (3 ∷ 1 ∷ 0 ∷ 0 ∷ 0 ∷ 2 ∷ 4 ∷ 1 ∷ 0 ∷ [])))
    ≡ 97 ∷ 99 ∷ 99 ∷ 101 ∷ 112 ∷ 116 ∷ 101 ∷ 100 ∷ 32 ∷ 51 ∷ 32 ∷ 116 ∷ 111 ∷ 116 ∷ 97 ∷ 108 ∷ 32 ∷ 49 ∷ 10
    ∷ 48 ∷ 32 ∷ 50 ∷ 32 ∷ 48 ∷ 10
    ∷ 49 ∷ 32 ∷ 48 ∷ 32 ∷ 48 ∷ 10
    ∷ 50 ∷ 32 ∷ 49 ∷ 32 ∷ 49 ∷ 10
    ∷ 97 ∷ 108 ∷ 115 ∷ 111 ∷ 32 ∷ 49 ∷ 32 ∷ 48 ∷ 32 ∷ 50 ∷ 10
    ∷ []
unfolding digits turns upward downward until first table sum flat_map bytes_of value_of fields fails_by fails_at_by K sheet_side sheet_most note_most barred_most sheet_tests read filled_costs reached_mask columns_mask paired_mask accepted_line row_line row_lines spare_line spare_lines columns_text refused_line output two_lowest lowest least_but block free claims transfers column_reduction looks row_reduction scan last_free search_blocks search new_prices flips augments augmentation stages run dearest walk second
n8 = refl

-- A row with costs 1 0: `accepted 2 total 0`, `0 1 0`, `spare 0`, `only`.
one_row : output (sheet_oblong [] 1 2 (map pos (1 ∷ 0 ∷ [])))
    ≡ 97 ∷ 99 ∷ 99 ∷ 101 ∷ 112 ∷ 116 ∷ 101 ∷ 100 ∷ 32 ∷ 50 ∷ 32 ∷ 116 ∷ 111 ∷ 116 ∷ 97 ∷ 108 ∷ 32 ∷ 48 ∷ 10
    ∷ 48 ∷ 32 ∷ 49 ∷ 32 ∷ 48 ∷ 10
    ∷ 115 ∷ 112 ∷ 97 ∷ 114 ∷ 101 ∷ 32 ∷ 48 ∷ 10
    ∷ 111 ∷ 110 ∷ 108 ∷ 121 ∷ 10
    ∷ []
unfolding digits turns upward downward until first table sum flat_map bytes_of value_of fields fails_by fails_at_by K sheet_side sheet_most note_most barred_most sheet_tests read filled_costs reached_mask columns_mask paired_mask accepted_line row_line row_lines spare_line spare_lines columns_text refused_line output two_lowest lowest least_but block free claims transfers column_reduction looks row_reduction scan last_free search_blocks search new_prices flips augments augmentation stages run dearest walk second
one_row = refl

-- "for side 0 `only`": `accepted 0 total 0`, `only`.
nobody : output (sheet_of [] 0 [])
    ≡ 97 ∷ 99 ∷ 99 ∷ 101 ∷ 112 ∷ 116 ∷ 101 ∷ 100 ∷ 32 ∷ 48 ∷ 32 ∷ 116 ∷ 111 ∷ 116 ∷ 97 ∷ 108 ∷ 32 ∷ 48 ∷ 10
    ∷ 111 ∷ 110 ∷ 108 ∷ 121 ∷ 10
    ∷ []
unfolding digits turns upward downward until first table sum flat_map bytes_of value_of fields fails_by fails_at_by K sheet_side sheet_most note_most barred_most sheet_tests read filled_costs reached_mask columns_mask paired_mask accepted_line row_line row_lines spare_line spare_lines columns_text refused_line output two_lowest lowest least_but block free claims transfers column_reduction looks row_reduction scan last_free search_blocks search new_prices flips augments augmentation stages run dearest walk second
nobody = refl

-- No bytes at all: `refused 11 place 0`.
empty : output [] ≡ 114 ∷ 101 ∷ 102 ∷ 117 ∷ 115 ∷ 101 ∷ 100 ∷ 32 ∷ 49 ∷ 49 ∷ 32 ∷ 112 ∷ 108 ∷ 97 ∷ 99 ∷ 101 ∷ 32 ∷ 48 ∷ 10 ∷ []
unfolding digits fails_by fails_at_by sheet_most sheet_tests read refused_line output
empty = refl
