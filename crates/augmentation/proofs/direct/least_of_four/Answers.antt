-- `least_of_four` answers the least of four reduced costs. Assumes nothing.
use mathlib.Core.Path.{◌≡◌}
use Prim.Native.Nat.{◌+◌}
use mir.Syntax.{w64}
use mir.Val.{to_z, of_z}
use Rattle.std.proofs.Common.{rules}
use Rattle.augmentation.specs.DirectHit.{lesser, reduced_in}
use Rattle.augmentation.proofs.direct.least_of_four.Goals as goal

pub returns : goal.returns
returns c =
    let u = c.args in
    let f = reduced_in u.row.now u.v.now in
    let x : to_z w64 (of_z w64 c.min-first.result) ≡ lesser (f u.j) (f (u.j + 1)) = search rules in
    let y : to_z w64 (of_z w64 c.min-second.result) ≡ lesser (f (u.j + 2)) (f (u.j + 3)) = search rules in
    search rules
