use Rattle.std.proofs.Common.{arith, rules, add-one}
use borrow.Author.Tests.{lt-ltb, le-ltb}
use Rattle.lists.specs.Permutations.{at}
use Rattle.lists.proofs.Runs.{upward_none, upward-last}
use Rattle.swaps.proofs.moves.move_rows.Goals as goal
use Rattle.swaps.proofs.moves.move_rows.Goals.{then-x-m, else-x-m}

pub loop-node-init : goal.loop-node-init
loop-node-init c = rw (upward_none 0 0 _ _ (omega arith)) (search rules)

pub loop-node-preserved : goal.loop-node-preserved
loop-node-preserved c =
    let x = at c.args.path.now c.loop-node.node-index in
    rw (add-one, upward-last 0 c.loop-node.node-index _ _ (omega arith), ← c.loop-node.invariant)
    (elim c.if-x-m.branch [
      | then-x-m w ↦ rw (lt-ltb x c.args.m w.if-x-m.true) w.second-is
      | else-x-m w ↦ rw (le-ltb x c.args.m w.if-x-m.false) w.second-is
    ])
