use Rattle.std.proofs.Common.{◌≡◌, ◌∙◌, ap₂, Bool, true, false, cond, ℤ, int_lt, refl, arith, rules, add-one}
use Rattle.std.specs.Int.{int_max}
use lib.Signed.{lt_z}
use mir.Syntax.{w64}
use mir.Val.{to_z, of_z}
use Rattle.ints.proofs.Ranges.{zarith}
use Rattle.ints.proofs.Bits.{read_back}
use Rattle.lists.specs.Permutations.{at}
use Rattle.lists.proofs.Runs.{upward_none, upward-last}
use Rattle.assignment.specs.Pairings.{signed_at}
use Rattle.swaps.proofs.start.dearest.Goals as goal

-- The higher of two prices.
higher : (t v : ℤ) → int_max t v ≡ cond (lt_z t v) v t
higher t v = by (lt_z t v) refl (int_lt v t) refl
  where
    by : (a : Bool) → lt_z t v ≡ a → (b : Bool) → int_lt v t ≡ b → cond b t v ≡ cond a v t
    by true d true e = absurd (omega zarith)
    by true d false e = refl
    by false d true e = refl
    by false d false e = omega zarith

pub loop-i-init : goal.loop-i-init
loop-i-init c = rw (upward_none 0 0 _ _ (omega arith)) (search rules)

pub loop-i-preserved : goal.loop-i-preserved
loop-i-preserved c =
    let v = signed_at c.args.vs.now (at c.args.cols.now c.loop-i.i) in
    let e : to_z w64 (of_z w64 v) ≡ v = search rules in
    rw (add-one, upward-last 0 c.loop-i.i _ _ (omega arith))
    (read_back w64 c.max-top.result c.max-top.type_inv ∙ c.max-top.ensures.value ∙ higher (to_z w64 c.loop-i.top-bits) (to_z w64 (of_z w64 v))
    ∙ ap₂ (λ (t x : ℤ). cond (lt_z t x) x t) c.loop-i.invariant e)
