-- A night with bars that has no pairing: the rows reached and their columns, as lists and as bits, by computation. Assumes nothing.
use mathlib.Core.Path.{◌≡◌, refl}
use mathlib.Core.Bool.{true, false}
use mathlib.Core.List.{[], ◌∷◌}
use lib.IntN.{pos}
use Rattle.lists.specs.Runs.{turns, upward, first}
use Rattle.lists.specs.Permutations.{table}
use Rattle.lists.specs.Counts.{count}
use Rattle.assignment.specs.Pairings.{Night}
use Rattle.bars.specs.Blocked.{columns_of, has, reached_from}
use Rattle.bars.specs.Barred.{barred, first_barred, filled_costs}
use Rattle.bars.specs.Masks.{columns_mask, paired_mask, reached_mask}

-- Three rows, of which the first two may have column 0 alone.
abbrev narrow : Night
narrow = barred 3 [] (6 ∷ 6 ∷ 0 ∷ [])

-- Paired 0 1 2, row 1 is at a barred place; from it rows 0 and 1 are reached, and they have one column.
pub narrow_barred : first_barred 3 (6 ∷ 6 ∷ 0 ∷ []) (0 ∷ 1 ∷ 2 ∷ []) ≡ 1
unfolding turns upward first
narrow_barred = refl

pub narrow_rows : reached_from narrow (0 ∷ 1 ∷ 2 ∷ []) 1 ≡ true ∷ true ∷ false ∷ []
unfolding turns upward first table reached_from
narrow_rows = refl

pub narrow_columns : count 3 (columns_of narrow (has (true ∷ true ∷ false ∷ []))) ≡ 1
unfolding turns upward first count
narrow_columns = refl

-- The same as bits.
pub narrow_mask : reached_mask 3 (6 ∷ 6 ∷ 0 ∷ []) (0 ∷ 1 ∷ 2 ∷ []) 1 ≡ 3
unfolding turns upward columns_mask paired_mask reached_mask
narrow_mask = refl

pub narrow_columns_mask : columns_mask 3 (6 ∷ 6 ∷ 0 ∷ []) 3 ≡ 1
unfolding turns upward columns_mask
narrow_columns_mask = refl

-- Column 1 is barred to row 0, and column 0 to row 1.
pub narrow_filled : filled_costs 2 (pos 9) (pos 1 ∷ pos 2 ∷ pos 3 ∷ pos 4 ∷ []) (2 ∷ 1 ∷ []) ≡ pos 1 ∷ pos 9 ∷ pos 9 ∷ pos 4 ∷ []
unfolding table filled_costs
narrow_filled = refl
