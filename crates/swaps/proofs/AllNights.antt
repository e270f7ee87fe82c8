-- The walk makes every line of the table of nights, by computation over the definition. Assumes nothing.
use mathlib.Core.Path.{◌≡◌, refl}
use mathlib.Core.List.{map}
use Rattle.lists.specs.Runs.{turns, upward, until, first}
use Rattle.lists.specs.Permutations.{table}
use Rattle.swaps.specs.Walks.{walk}
use Rattle.swaps.specs.Second.{dearest, second}
use Rattle.swaps.specs.Nights.{answered, nights}

pub all_answered : map answered nights ≡ nights
unfolding turns upward until first table walk dearest second
all_answered = refl
