use mathlib.Core.Path.{◌≡◌, sym, ap, ap₂, ◌∙◌}
use mathlib.Core.Bool.{◌||◌}
use Prim.Native.Nat.{ℕ, suc, ◌+◌}
use native.Mathlib.Omega.{arith}
use lib.IntN.{ℤ, pos, ◌-ℤ◌}
use lib.ListN.{length}
use lib.Signed.{lt_z}
use mir.Syntax.{w32}
use mir.Val.{SFits, to_z, of_z}
use mir.Facts.{to_z-of_z}
use Rattle.ints.specs.Parts.{Within}
use Rattle.ints.proofs.Shapes.{zlin}
use Rattle.lists.specs.Counts.{some}
use Rattle.lists.proofs.Counts.{some_none, some-last}
use Rattle.assignment.specs.Pairings.{signed_at}
use Rattle.matrix.specs.Limits.{K}
use Rattle.matrix.specs.Tests.{outside}
use Rattle.matrix.proofs.SmallLimits.{K_small}
use Rattle.matrix.proofs.Bounds.{minus_fits, minus-read}
use Rattle.matrix.proofs.tests.some_cost_outside.Invariants.{test}
use Rattle.matrix.proofs.tests.some_cost_outside.Goals as goal

negated_fits : (limit : ℤ) → Within K limit → SFits w32 (pos 0 -ℤ limit)
negated_fits limit near = omega (zlin, K_small)

-- a cost and the limit, as the code holds and compares them
tested : (x limit : ℤ) → SFits w32 x → SFits w32 limit → Within K limit
    → (lt_z (to_z w32 (of_z w32 x)) (to_z w32 (of_z w32 (pos 0 -ℤ to_z w32 (of_z w32 limit)))) || lt_z (to_z w32 (of_z w32 limit)) (to_z w32 (of_z w32 x))) ≡ outside limit x
tested x limit f g near = ap₂ ◌||◌ (ap₂ lt_z (to_z-of_z f) (minus-read g (negated_fits limit near))) (ap₂ lt_z (to_z-of_z g) (to_z-of_z f))

pub overflow_sub-low : goal.overflow_sub-low
overflow_sub-low c = minus_fits c.ranges.limit (negated_fits c.args.limit c.requires)

pub loop-cost-init : goal.loop-cost-init
loop-cost-init c = (omega arith, sym (some_none _))

pub loop-cost-preserved : goal.loop-cost-preserved
loop-cost-preserved c =
    let u = c.args in
    let l = c.loop-cost in
    let x = signed_at u.costs.now l.cost-index in
    let held = to_z w32 (of_z w32 u.limit) in
    let t = tested x u.limit (record { sfits = c.cost-1.given }) c.ranges.limit c.requires in
    let e : suc l.cost-index ≡ l.cost-index + 1 = omega arith in (
      omega arith,
      ap₂ ◌||◌ l.invariant.1 (t ∙ ap (λ (z : ℤ). outside z x) (sym (to_z-of_z c.ranges.limit)))
          ∙ sym (some-last l.cost-index (test held u.costs.now))
          ∙ ap (λ (m : ℕ). some m (test held u.costs.now)) e,
    )

pub returns : goal.returns
returns c =
    let u = c.args in
    let l = c.loop-cost in
    let e : l.cost-index ≡ length u.costs.now = omega arith in
    l.invariant.1
    ∙ ap₂ (λ (m : ℕ) (z : ℤ). some m (test z u.costs.now)) e (to_z-of_z c.ranges.limit)
