-- `carr_dense` does what rule 4 says: at its loop's head it stands where its counter says, and what is kept of the rows is true. Assumes nothing.
use Prim.Native.Nat.{◌*◌, ◌-◌}
use Rattle.lists.specs.Parts.{part}
use Rattle.assignment.specs.Pairings.{square}
use Rattle.rules.specs.Rows.{pass_start}
use Rattle.reduction.specs.Columns.{stage_at}
use Rattle.reduction.specs.Rows.{passing_at, Keeping}
use Rattle.reduction.proofs.Looks.{Head}
use Rattle.reduction.proofs.rows.carr_dense.Given as goal

abbrev pub invariant-loop-pass : goal.invariant-loop-pass
invariant-loop-pass l = Head l.n (square l.n l.costs).cost l.count (pass_start (stage_at l.initial.cols l.initial.rows l.initial.v (part 0 l.n l.initial.room) l.count)) (passing_at l.cols l.rows l.v (part 0 l.n l.room) l.pass)
    × Keeping l.n l.costs l.v l.room l.limits

abbrev pub decreases-loop-pass : goal.decreases-loop-pass
decreases-loop-pass l = l.count * l.n - l.pass.looks
