-- `walk` makes the whole walk: before each turn its lists hold the walk after so many turns. Assumes nothing.
use Rattle.std.proofs.Common.{◌≡◌}
use Rattle.lists.specs.Runs.{on}
use Rattle.swaps.specs.Rooms.{walk_of}
use Rattle.swaps.specs.Turning.{Beside}
use Rattle.swaps.proofs.Walking.{after}
use Rattle.swaps.proofs.accepted.Accepted.walk.Given as goal

abbrev pub invariant-loop-turn : goal.invariant-loop-turn
invariant-loop-turn l = (after l.self l._turn ≡ on (walk_of l.size l.path l.marks)) × Beside l.self (walk_of l.size l.path l.marks) l.choices l.prices
