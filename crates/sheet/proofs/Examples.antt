-- Document 01's sheet of side 1 read and paired, and refusals in their order, by computation. Assumes nothing.
use mathlib.Core.Path.{◌≡◌, refl}
use mathlib.Core.List.{List, [], ◌∷◌, ◌++◌, flat_map}
use Prim.Native.Nat.{ℕ, ◌+◌, ◌*◌}
use lib.IntN.{pos, negsuc}
use lib.ListN.{replicate}
use Rattle.lists.specs.Permutations.{table}
use Rattle.lists.specs.Runs.{turns, upward, downward, until, first}
use Rattle.lists.specs.Sums.{sum}
use Rattle.layout.specs.Values.{bytes_of, value_of}
use Rattle.layout.specs.Fields.{fields}
use Rattle.layout.specs.Trailers.{sheet_mark, trailer}
use Rattle.layout.specs.Sheets.{sheet_of}
use Rattle.layout.specs.Slips.{slip_of}
use Rattle.bars.specs.Barred.{filled_costs}
use Rattle.bars.specs.Tests.{barred_most}
use Rattle.bars.specs.Masks.{columns_mask, paired_mask, reached_mask}
use Rattle.matrix.specs.Limits.{sheet_side, K}
use Rattle.matrix.specs.Verdicts.{fails_by, fails_at_by}
use Rattle.rules.specs.Lowest.{two_lowest, lowest, least_but}
use Rattle.rules.specs.Block.{block}
use Rattle.rules.specs.Columns.{free, claims, transfers, column_reduction}
use Rattle.rules.specs.Rows.{looks, row_reduction}
use Rattle.rules.specs.Search.{scan, last_free, search_blocks, search, new_prices}
use Rattle.rules.specs.Augmentation.{flips, augments, augmentation}
use Rattle.rules.specs.Run.{stages, run}
use Rattle.sheet.specs.Reading.{sheet_most, note_most, sheet_tests, night, read}
use Rattle.sheet.specs.Settle.{pair}

-- "Side 1, cost 7, no note, is `07 00 00 00 04 00 00 00 01 00 01 00 4D 54 43 48`."
sheet : List ℕ
sheet = 0x07 ∷ 0 ∷ 0 ∷ 0 ∷ 0x04 ∷ 0 ∷ 0 ∷ 0 ∷ 0x01 ∷ 0 ∷ 0x01 ∷ 0 ∷ 0x4D ∷ 0x54 ∷ 0x43 ∷ 0x48 ∷ []

sheet_read : read 38 sheet ≡ night (record { edition = 1; row_count = 1; side = 1; costs = pos 7 ∷ []; bars = 0 ∷ [] })
unfolding sheet bytes_of value_of fields table turns upward first K fails_by fails_at_by sheet_side sheet_most note_most barred_most sheet_tests read
sheet_read = refl

-- The same sheet paired in a room of 40 bytes: the slip, and the last two bytes as they were.
paired : pair sheet (replicate 40 9) ≡ record { number = 0; slip = slip_of 1 1 1 (0 ∷ []) (pos 0 ∷ []) (pos 7 ∷ []) (pos 7) ++ (9 ∷ 9 ∷ []) }
unfolding sheet bytes_of value_of flat_map fields table turns upward downward until first sum K fails_by fails_at_by sheet_side sheet_most note_most barred_most sheet_tests read pair filled_costs reached_mask columns_mask paired_mask two_lowest lowest least_but block free claims transfers column_reduction looks row_reduction scan last_free search_blocks search new_prices flips augments augmentation stages run
paired = refl

-- A room of 37 bytes is too short: 16, and nothing is written.
short : pair sheet (replicate 37 9) ≡ record { number = 16; slip = replicate 37 9 }
unfolding sheet bytes_of value_of flat_map fields table turns upward downward until first sum K fails_by fails_at_by sheet_side sheet_most note_most barred_most sheet_tests read pair filled_costs reached_mask columns_mask paired_mask two_lowest lowest least_but block free claims transfers column_reduction looks row_reduction scan last_free search_blocks search new_prices flips augments augmentation stages run
short = refl

-- 14 comes before 15 and 16: distance 8, side 1, no cost at all, no room.
distance : pair (trailer 8 1 1 sheet_mark) [] ≡ record { number = 14; slip = [] }
unfolding bytes_of value_of flat_map fields table turns upward downward until first sum K fails_by fails_at_by sheet_side sheet_most note_most barred_most sheet_tests read pair filled_costs reached_mask columns_mask paired_mask two_lowest lowest least_but block free claims transfers column_reduction looks row_reduction scan last_free search_blocks search new_prices flips augments augmentation stages run
distance = refl

-- 5 has its place: the third cost of side 2 is K + 1.
outside : pair (sheet_of (65 ∷ 32 ∷ 126 ∷ []) 2 (pos 0 ∷ negsuc 999999999 ∷ pos 1000000001 ∷ pos 0 ∷ [])) (replicate 56 9) ≡ record { number = 5 + 256 * 2; slip = replicate 56 9 }
unfolding bytes_of value_of flat_map fields table turns upward downward until first sum K fails_by fails_at_by sheet_side sheet_most note_most barred_most sheet_tests read pair filled_costs reached_mask columns_mask paired_mask two_lowest lowest least_but block free claims transfers column_reduction looks row_reduction scan last_free search_blocks search new_prices flips augments augmentation stages run
outside = refl

-- 21 has its place, and comes before 16 and 5: the note's third byte ends a line, there is no room, and a cost is K + 1.
note : pair (sheet_of (65 ∷ 66 ∷ 10 ∷ 127 ∷ []) 1 (pos 1000000001 ∷ [])) [] ≡ record { number = 21 + 256 * 2; slip = [] }
unfolding bytes_of value_of flat_map fields table turns upward downward until first sum K fails_by fails_at_by sheet_side sheet_most note_most barred_most sheet_tests read pair filled_costs reached_mask columns_mask paired_mask two_lowest lowest least_but block free claims transfers column_reduction looks row_reduction scan last_free search_blocks search new_prices flips augments augmentation stages run
note = refl
