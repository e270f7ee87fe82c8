-- `go_to` answers the place of a node on the path. Assumes nothing.
use Rattle.std.proofs.Common.{ap, ◌∙◌, ℕ}
use borrow.Author.Tests.{eq-eqb}
use Rattle.lists.specs.Runs.{left}
use Rattle.swaps.specs.Rooms.{walk_of}
use Rattle.swaps.proofs.Turning.{place_found}
use Rattle.swaps.proofs.walk.go_to.Goals as goal

pub returns-then-marks-y-eq-ON_PATH : goal.returns-then-marks-y-eq-ON_PATH
returns-then-marks-y-eq-ON_PATH c =
    let u = c.args in
    let w = walk_of u.size u.path.now u.marks.now in
    rw (eq-eqb _ 1 c.if-marks-y-eq-ON_PATH.true)
    (ap (λ (k : ℕ). left (record { from = k; walk = w })) (c.unwrap_or.ensures ∙ place_found u.size u.path.now u.marks.now u.y c.requires.0 c.place_of.result c.place_of.ensures))
