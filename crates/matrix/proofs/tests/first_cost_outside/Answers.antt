-- `first_cost_outside` answers refusal 5: the pass over all costs told of none, or they are looked through. Assumes nothing.
use Rattle.std.proofs.Common.{◌≡◌, pos, Bool, false, ◌<◌, ◌^◌, sym, ap, ap₂, ◌∙◌, length, arith}
use lib.IntN.{ℤ}
use lib.Signed.{mag}
use mir.Syntax.{w32, w64}
use mir.Val.{SFits, to_z, of_z}
use mir.Facts.{to_z-of_z}
use borrow.Author.Tests.{ltb-false}
use Rattle.ints.specs.Parts.{Within}
use Rattle.ints.proofs.Shapes.{zlin}
use Rattle.ints.proofs.Bits.{read_back}
use Rattle.lists.specs.Counts.{some}
use Rattle.assignment.specs.Pairings.{signed_at}
use Rattle.matrix.specs.Limits.{K}
use Rattle.matrix.specs.Tests.{outside}
use Rattle.matrix.proofs.Bounds.{outside_within}
use Rattle.matrix.proofs.SmallLimits.{K_small}
use Rattle.matrix.proofs.First.{Clear, clear_more, nowhere}
use Rattle.matrix.proofs.tests.first_cost_outside.Goals as goal

narrow : (limit : ℤ) → Within K limit → SFits w32 limit
narrow limit near = omega (zlin, K_small)

-- what the first test tells: the limit lies in -K..K
held_within : (limit bound : ℤ) (r : Bool) → SFits w64 limit → bound ≡ pos K → mag bound < 2 ^ 63 → r ≡ outside (to_z w64 (of_z w64 bound)) (to_z w64 (of_z w64 limit)) → r ≡ false → Within K limit
held_within limit bound r f e g told off = (outside_within K limit).0 (sym (ap₂ outside (read_back w64 bound g ∙ e) (to_z-of_z f)) ∙ sym told ∙ off)

pub outside-requires : goal.outside-requires
outside-requires c = rw (read_back w64 c.bound.result c.bound.type_inv, c.bound.ensures) (omega (arith, K_small))

pub overflow_cast-limit : goal.overflow_cast-limit
overflow_cast-limit c = rw (to_z-of_z c.ranges.limit) (narrow c.args.limit (held_within c.args.limit c.bound.result c.outside.result c.ranges.limit c.bound.ensures c.bound.type_inv c.outside.ensures c.if-not-outside.true))

pub returns-then-not-some_cost_outside : goal.returns-then-not-some_cost_outside
returns-then-not-some_cost_outside c =
    let costs = c.args.costs.now in
    let w = held_within c.args.limit c.bound.result c.outside.result c.ranges.limit c.bound.ensures c.bound.type_inv c.outside.ensures c.if-not-outside.true in
    let narrowed : to_z w32 (of_z w32 (to_z w64 (of_z w64 c.args.limit))) ≡ c.args.limit = rw (to_z-of_z c.ranges.limit) (to_z-of_z (narrow c.args.limit w)) in
    nowhere (λ k. outside c.args.limit (signed_at costs k)) (length costs)
    (ltb-false _ _ (sym (ap (λ (z : ℤ). some (length costs) (λ k. outside z (signed_at costs k))) narrowed) ∙ sym c.some_cost_outside.ensures ∙ c.if-not-some_cost_outside.true))

-- what the test answers of a cost, at the limit and the cost as the code holds them
told : (limit x wide : ℤ) (r : Bool) → SFits w64 limit → mag x < 2 ^ 31 → mag wide < 2 ^ 63 → wide ≡ to_z w32 (of_z w32 x)
    → r ≡ outside (to_z w64 (of_z w64 limit)) (to_z w64 (of_z w64 wide)) → r ≡ outside limit x
told limit x wide r f g h e t = t ∙ ap₂ outside (to_z-of_z f) (read_back w64 wide h ∙ e ∙ read_back w32 x g)

pub loop-k-preserved : goal.loop-k-preserved
loop-k-preserved c =
    let u = c.args in
    let l = c.loop-k in
    let e = told u.limit (signed_at u.costs.now l.k) c.from.result c.outside-in-loop-k.result c.ranges.limit c.cost-1.given c.from.type_inv c.from.ensures c.outside-in-loop-k.ensures in
    rw (to_z-of_z c.ranges.limit) (clear_more (λ k. outside u.limit (signed_at u.costs.now k)) l.k (rw (to_z-of_z c.ranges.limit) at l.invariant) (sym e ∙ c.if-outside.false))

pub returns-then-outside : goal.returns-then-outside
returns-then-outside c =
    let u = c.args in
    let l = c.loop-k in
    let e = told u.limit (signed_at u.costs.now l.k) c.from.result c.outside-in-loop-k.result c.ranges.limit c.cost-1.given c.from.type_inv c.from.ensures c.outside-in-loop-k.ensures in
    (c.loop-k-test.true, sym e ∙ c.if-outside.true, rw (to_z-of_z c.ranges.limit) at l.invariant)

pub returns : goal.returns
returns c =
    let l = c.loop-k in
    let clear : Clear (λ k. outside c.args.limit (signed_at c.args.costs.now k)) l.k = rw (to_z-of_z c.ranges.limit) at l.invariant in
    λ k h. clear k (omega arith)

pub outside-requires-in-loop-k : goal.outside-requires-in-loop-k
outside-requires-in-loop-k c = rw (to_z-of_z c.ranges.limit) c.requires
