-- `column_over` answers refusal 9 for row i of the night: with the part that holds it, its price and its bits. Assumes nothing.
use Rattle.std.proofs.Common.{ap, ◌∙◌, ◌+◌, ◌*◌, ◌≤◌, length, arith}
use native.Mathlib.Nat.{mul-le-mul_right}
use mir.Facts.{to_z-of_z}
use Rattle.assignment.specs.Pairings.{signed_at}
use Rattle.matrix.proofs.RowParts.{row_of_length}
use Rattle.checker.proofs.Places.{none_barred, row_over, price_fits}
use Rattle.checker.proofs.Found.{finds_cong}
use Rattle.checker.proofs.prices.PricedNight.column_over.Goals as goal

pub returns-then-bits-eq0 : goal.returns-then-bits-eq0
returns-then-bits-eq0 c =
    let u = c.args.self.now in
    let i = c.args.i in
    let h : i * u.n + u.n ≤ length u.costs.now = omega (arith, mul-le-mul_right u.n c.requires, u.priced.filled) in
    let price = to_z-of_z (price_fits (signed_at u.us.now i) (u.priced.row_prices.within i c.requires)) in
    finds_cong _ u.n _ _ _ (ap length c.row_of-row.ensures ∙ row_of_length u.n u.costs.now i h)
    (λ j l. none_barred c.row_of-row.result.now _ u.vs.now c.bits_at-bits.result c.if-bits-eq0.true j
    ∙ row_over u.m u.n u.costs.now u.us.now u.vs.now u.bars.now i h c.row_of-row.result.now c.row_of-row.ensures _ price c.bits_at-bits.result c.bits_at-bits.ensures j l)
    c.first_column_over.ensures

pub returns : goal.returns
returns c =
    let u = c.args.self.now in
    let i = c.args.i in
    let h : i * u.n + u.n ≤ length u.costs.now = omega (arith, mul-le-mul_right u.n c.requires, u.priced.filled) in
    let price = to_z-of_z (price_fits (signed_at u.us.now i) (u.priced.row_prices.within i c.requires)) in
    finds_cong _ u.n _ _ _ (ap length c.row_of-row.ensures ∙ row_of_length u.n u.costs.now i h)
    (row_over u.m u.n u.costs.now u.us.now u.vs.now u.bars.now i h c.row_of-row.result.now c.row_of-row.ensures _ price c.bits_at-bits.result c.bits_at-bits.ensures)
    c.first_allowed_over.ensures
