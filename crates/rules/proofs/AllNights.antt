-- The rules make every line of the table of nights, by computation. Assumes nothing.
use mathlib.Core.Path.{◌≡◌, refl}
use mathlib.Core.List.{map}
use Rattle.lists.specs.Runs.{turns, upward, downward, until}
use Rattle.lists.specs.Permutations.{table}
use Rattle.lists.specs.Sums.{sum}
use Rattle.rules.specs.Lowest.{two_lowest, lowest, least_but}
use Rattle.rules.specs.Block.{block}
use Rattle.rules.specs.Columns.{free, claims, transfers, column_reduction}
use Rattle.rules.specs.Rows.{looks, row_reduction}
use Rattle.rules.specs.Search.{scan, last_free, search_blocks, search, new_prices}
use Rattle.rules.specs.Augmentation.{flips, augments, augmentation}
use Rattle.rules.specs.Run.{stages, run}
use Rattle.rules.specs.Nights.{computed, nights}

-- Each line is what the run on its costs comes to.
pub all_computed : map computed nights ≡ nights
unfolding turns upward downward until table sum two_lowest lowest least_but block free claims transfers column_reduction looks row_reduction scan last_free search_blocks search new_prices flips augments augmentation stages run
all_computed = refl
