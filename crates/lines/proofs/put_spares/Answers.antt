-- `put_spares` adds a column's line a turn, or nothing. Assumes nothing.
use mathlib.Core.Path.{sym, ◌∙◌}
use native.Mathlib.Omega.{arith}
use Rattle.lines.proofs.Pieces.{spares_begin, spares_next, spare_there, spare_absent}
use Rattle.lines.proofs.put_spares.Goals as goal
use Rattle.lines.proofs.put_spares.Goals.{then-not-used, else-not-used}

pub loop-j-init : goal.loop-j-init
loop-j-init c = let u = c.args in (spares_begin u.text.now u.m u.cols.now, omega arith)

pub loop-j-preserved : goal.loop-j-preserved
loop-j-preserved c =
    let u = c.args in
    let l = c.loop-j in
    elim c.if-not-used.branch [
      | then-not-used w ↦ rw w.text-is (spares_next u.text.now u.m u.cols.now l.j l.invariant.0 (spare_there u.m u.cols.now l.j l.text (sym c.used.ensures ∙ w.if-not-used.true) w.put_spare.ensures.line), omega arith)
      | else-not-used w ↦ rw w.text-is (spares_next u.text.now u.m u.cols.now l.j l.invariant.0 (spare_absent u.m u.cols.now l.j l.text (sym c.used.ensures ∙ w.if-not-used.false)), omega arith)
    ]
