use mathlib.Core.Path.{◌≡◌, ap, ◌∙◌}
use Prim.Native.Nat.{ℕ, ◌+◌, ◌<◌}
use native.Mathlib.Omega.{arith}
use lib.ListN.{length}
use mir.Syntax.{w64}
use mir.Val.{to_z, of_z}
use Rattle.std.proofs.Common.{rules}
use Rattle.rules.specs.Block.{Block}
use Rattle.augmentation.specs.Block.{distance_at}
use Rattle.augmentation.proofs.Block.{blocked_at, Blocked, first_block, whole-block, restart, join, pass_by, swapped}
use Rattle.augmentation.proofs.find_dense.Goals.{then-h-minimum, else-h-minimum}
use Rattle.augmentation.proofs.find_dense.Goals as goal

pub loop-k-init : goal.loop-k-init
loop-k-init c = first_block _ _ _ _ _ c.requires.1 c.requires.0 (search rules)

pub loop-k-preserved : goal.loop-k-preserved
loop-k-preserved c =
    let l = c.loop-k in
    let N = c.in-Some.ensures in
    let z = distance_at c.args.d.now l.list c.in-Some.k in
    let B : Blocked (length c.args.d.now) c.args.lo c.args.d.now c.args.list.now l.list l.hi (to_z w64 l.minimum-bits) c.in-Some.k =
    pass_by l.invariant c.in-Some.k N.0 (omega arith) N.3 in
    let k_in : c.in-Some.k < length c.args.d.now = omega arith in
    let hz : to_z w64 (of_z w64 z) ≡ z = search rules in
    elim c.if-h-minimum.branch [
      | then-h-minimum w ↦
          let s = swapped l.list c.in-Some.k c.args.lo (omega arith) (omega arith) in
          blocked_at (restart B k_in (rw hz at w.if-h-minimum.true) N.2) (cc) (ap (λ (m : ℕ). m + 1) w.hi-is) (w.minimum-is ∙ hz)
      | else-h-minimum w ↦
          let s = swapped l.list c.in-Some.k l.hi (omega arith) (omega arith) in
          blocked_at (join B k_in (rw hz at w.if-h-minimum.false) N.2) (cc) (ap (λ (m : ℕ). m + 1) w.hi-is) w.minimum-is
    ]

pub returns : goal.returns
returns c =
    let e = whole-block (pass_by c.loop-k.invariant (length c.args.d.now) (omega arith) (omega arith) (λ m h g. c.in_default.ensures m h (omega arith))) (omega arith) in
    (ap (λ (b : Block). b.hi) e, ap (λ (b : Block). b.list) e)
