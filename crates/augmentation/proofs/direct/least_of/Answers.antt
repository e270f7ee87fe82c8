use mathlib.Core.Path.{◌≡◌, sym, ◌∙◌}
use native.Mathlib.Omega.{arith}
use mir.Syntax.{w64}
use mir.Val.{to_z, of_z}
use Rattle.std.proofs.Common.{rules}
use Rattle.augmentation.specs.DirectHit.{lesser, reduced_in, least_of_four}
use Rattle.augmentation.proofs.Hits.{least_first, least_more, least_four_more}
use Rattle.augmentation.proofs.direct.least_of.Goals as goal

pub loop-j-init : goal.loop-j-init
loop-j-init c =
    let u = c.args in
    let x : to_z w64 (of_z w64 c.reduced_at-least.result) ≡ reduced_in u.row.now u.v.now 0 = search rules in
    record { some = omega arith; most = omega arith; is = x ∙ sym (least_first (reduced_in u.row.now u.v.now)) }

pub loop-j-preserved : goal.loop-j-preserved
loop-j-preserved c =
    let u = c.args in
    let l = c.loop-j in
    let f = reduced_in u.row.now u.v.now in
    let x : to_z w64 (of_z w64 c.min-least.result) ≡ lesser (to_z w64 l.least-bits) (least_of_four f l.j) = search rules in
    record { some = omega arith; most = omega arith; is = rw l.invariant.is at x ∙ sym (least_four_more f l.j l.invariant.some) }

pub loop-k-preserved : goal.loop-k-preserved
loop-k-preserved c =
    let u = c.args in
    let l = c.loop-k in
    let f = reduced_in u.row.now u.v.now in
    let x : to_z w64 (of_z w64 c.min-least-in-loop-k.result) ≡ lesser (to_z w64 l.least-bits) (f l.k) = search rules in
    record { some = omega arith; most = omega arith; is = rw l.invariant.is at x ∙ sym (least_more f l.k l.invariant.some) }
