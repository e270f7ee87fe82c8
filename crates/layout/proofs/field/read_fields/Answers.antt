use mathlib.Core.Path.{refl}
use Rattle.layout.proofs.Stores.{none_read, next_read}
use Rattle.layout.proofs.field.read_fields.Goals as goal

pub loop-i-init : goal.loop-i-init
loop-i-init g c =
    let u = c.args in
    none_read g.F.Field.decode u.at g.F.Field.WIDTH u.bytes.now u.list.now

pub loop-i-preserved : goal.loop-i-preserved
loop-i-preserved g c =
    let u = c.args in
    let l = c.loop-i in
    next_read g.F.Field.decode u.at g.F.Field.WIDTH u.bytes.now u.list.now _ l.i l.list c.read.result refl l.invariant (rw c.WIDTH.ensures at c.read.ensures)
