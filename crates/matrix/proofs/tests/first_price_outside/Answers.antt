-- `first_price_outside` answers refusal 8. Assumes nothing.
use Rattle.std.proofs.Common.{◌≡◌, ℕ, List, Bool, ◌<◌, ◌^◌, sym, ap₂, ◌∙◌, arith, take, length-take-le, get_or, pos}
use lib.IntN.{ℤ}
use Rattle.std.proofs.lemmas.List.{get_or-take}
use lib.Signed.{mag}
use mir.Syntax.{w64}
use mir.Val.{SFits, to_z, of_z}
use mir.Facts.{to_z-of_z}
use Rattle.ints.proofs.Bits.{read_back}
use Rattle.assignment.specs.Pairings.{signed_at}
use Rattle.matrix.specs.Tests.{outside}
use Rattle.matrix.proofs.First.{Clear, clear_more}
use Rattle.matrix.proofs.tests.first_price_outside.Goals as goal

-- what the test answers of a price, at the limit and the price as the code holds them
told : (limit : ℤ) (n : ℕ) (prices : List ℤ) (i : ℕ) (r : Bool) → SFits w64 limit → i < n → mag (get_or (take n prices) i (pos 0)) < 2 ^ 63
    → r ≡ outside (to_z w64 (of_z w64 limit)) (to_z w64 (of_z w64 (get_or (take n prices) i (pos 0)))) → r ≡ outside limit (signed_at prices i)
told limit n prices i r f l g e = e ∙ ap₂ outside (to_z-of_z f) (read_back w64 (get_or (take n prices) i (pos 0)) g ∙ get_or-take n prices i (pos 0) l)

pub outside-requires : goal.outside-requires
outside-requires c = rw (to_z-of_z c.ranges.limit) c.requires.0

pub loop-i-preserved : goal.loop-i-preserved
loop-i-preserved c =
    let u = c.args in
    let l = c.loop-i in
    let e = told u.limit u.n u.prices.now l.i c.outside.result c.ranges.limit (omega (arith, length-take-le u.n u.prices.now)) c.price-1.given c.outside.ensures in
    rw (to_z-of_z c.ranges.limit) (clear_more (λ i. outside u.limit (signed_at u.prices.now i)) l.i (rw (to_z-of_z c.ranges.limit) at l.invariant) (sym e ∙ c.if-outside.false))

pub returns-then-outside : goal.returns-then-outside
returns-then-outside c =
    let u = c.args in
    let l = c.loop-i in
    let below : l.i < u.n = omega (arith, length-take-le u.n u.prices.now) in
    let e = told u.limit u.n u.prices.now l.i c.outside.result c.ranges.limit below c.price-1.given c.outside.ensures in
    (below, sym e ∙ c.if-outside.true, rw (to_z-of_z c.ranges.limit) at l.invariant)

pub returns : goal.returns
returns c =
    let l = c.loop-i in
    let clear : Clear (λ i. outside c.args.limit (signed_at c.args.prices.now i)) l.i = rw (to_z-of_z c.ranges.limit) at l.invariant in
    λ k h. clear k (omega (arith, length-take-le c.args.n c.args.prices.now))
