-- `pair_again` leaves the repair: one search, then prices, total and cleared rooms. Assumes nothing.
use mathlib.Core.Path.{◌∙◌}
use native.Mathlib.Omega.{arith}
use mir.Syntax.{w64}
use Rattle.ints.proofs.Bits.{read_back}
use Rattle.repair.proofs.Mending as mending
use Rattle.repair.proofs.pair_again.Goals as goal

pub write_row_prices-requires : goal.write_row_prices-requires
write_row_prices-requires c =
    let u = c.args in
    mending.can_price u.n u.costs.now u.row u.cols.now u.rows.now u.v.now u.room.now u.d.now c.requires.0 _ _ _ _ c.mend.ensures
    u.row_prices.now c.requires.1

pub total-total-requires : goal.total-total-requires
total-total-requires c =
    let u = c.args in
    mending.can_total u.n u.costs.now u.row u.cols.now u.rows.now u.v.now u.room.now u.d.now c.requires.0 _ _ _ _ c.mend.ensures

pub returns : goal.returns
returns c =
    let u = c.args in
    mending.repaired_by_lem u.n u.costs.now u.row u.cols.now u.rows.now u.v.now u.room.now u.d.now c.requires.0 _ _ _ _ c.mend.ensures
    _ c.mend.new.room _ c.mend.new.d _ _ c.write_row_prices.ensures (read_back w64 c.total-total.result c.total-total.type_inv ∙ c.total-total.ensures)
    (c.fill.ensures.after (λ y h. h)) (omega (arith, c.mend.auto, c.requires.0.room_size))
    (c.fill-2.ensures.after (λ y h. h)) (omega (arith, c.mend.auto, c.requires.0.distances_size))
