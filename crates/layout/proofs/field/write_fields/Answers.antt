use native.Mathlib.Nat.{add-mul}
use native.Mathlib.Omega.{arith}
use Rattle.layout.proofs.Stores.{field_written, all_written}
use Rattle.layout.proofs.field.write_fields.Goals as goal

pub loop-i-preserved : goal.loop-i-preserved
loop-i-preserved g c =
    let u = c.args in
    let l = c.loop-i in
    field_written g.F.Field.encode g.F.Field.WIDTH g.met.F.Field.size l.room _ _ u.list.now l.i c.index-list-i.result c.loop-i-test.true c.index-list-i.is
    (rw c.WIDTH.ensures at c.write.ensures) (omega (arith, add-mul l.i 1 g.F.Field.WIDTH)) l.invariant

pub returns : goal.returns
returns g c =
    let l = c.loop-i in
    all_written g.F.Field.encode g.F.Field.WIDTH g.met.F.Field.size l.room _ c.args.list.now l.i c.loop-i-test.false l.invariant
