-- `barred` answers one bit: from 64 up there is none. Assumes nothing.
use mathlib.Core.Path.{sym}
use borrow.Author.Tests.{le-ltb}
use Rattle.lists.proofs.BitSets.{clear_iff}
use Rattle.swaps.proofs.choices.barred.Goals as goal

pub returns-else-j-lt64 : goal.returns-else-j-lt64
returns-else-j-lt64 c =
    let u = c.args in
    rw (le-ltb u.j 64 c.if-j-lt64.false) (sym ((clear_iff 64 64 u.bits c.ranges.bits.fits).0 c.ranges.bits.fits u.j c.if-j-lt64.false))
