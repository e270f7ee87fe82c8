-- `read` tells the two lowest and keeps what it found. Assumes nothing.
use Rattle.std.proofs.Common.{rules}
use Rattle.reduction.specs.Reduced.{width, reduced_at}
use Rattle.reduction.proofs.Rooms.{told_read}
use Rattle.reduction.proofs.candidates.read.Goals as goal

pub returns : goal.returns
returns c =
    let u = c.args in
    told_read (reduced_at u.row) (width u.row) u.i u.kept.now u.limits.now c.find_three-limit.result _ c.requires.1 c.requires.2 c.find_three-limit.ensures (search rules)
