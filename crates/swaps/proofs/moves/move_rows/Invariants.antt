-- `move_rows` copies the columns and moves the rows along the path: so far those of the places passed. Assumes nothing.
use Rattle.std.proofs.Common.{◌≡◌}
use Rattle.lists.specs.Runs.{upward}
use Rattle.swaps.specs.Rooms.{move_at}
use Rattle.swaps.proofs.moves.move_rows.Given as goal

abbrev pub invariant-loop-node : goal.invariant-loop-node
invariant-loop-node l = l.second ≡ upward 0 l.node-index (move_at l.m l.path l.choices) l.cols
