-- The repair makes every line of its table of nights, by computation over the definition. Assumes nothing.
use mathlib.Core.Path.{◌≡◌, refl}
use mathlib.Core.List.{map}
use Rattle.lists.specs.Runs.{turns, upward, downward, until, first}
use Rattle.lists.specs.Permutations.{table}
use Rattle.lists.specs.Sums.{sum}
use Rattle.matrix.specs.Limits.{side, K}
use Rattle.matrix.specs.Verdicts.{fails_by, fails_at_by}
use Rattle.rules.specs.Block.{block}
use Rattle.rules.specs.Columns.{free}
use Rattle.rules.specs.Search.{scan, last_free, search_blocks, search, new_prices}
use Rattle.rules.specs.Augmentation.{flips}
use Rattle.lapjv.specs.Solve.{tested}
use Rattle.repair.specs.Tests.{repair_tests}
use Rattle.repair.specs.Repair.{mended, outcome, repair}
use Rattle.repair.specs.Nights.{made, nights}

pub all_made : map made nights ≡ nights
unfolding repair outcome repair_tests tested mended fails_by fails_at_by first turns upward downward until table sum side K free block scan last_free search_blocks search new_prices flips
all_made = refl
