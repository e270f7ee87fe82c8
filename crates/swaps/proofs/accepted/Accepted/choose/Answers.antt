-- `choose` answers the walk's choice of a node: from a row over its part of the costs, from the spare columns over the rows. Assumes nothing.
use Rattle.std.proofs.Common.{◌≡◌, ap, ◌∙◌, length, arith}
use Rattle.assignment.specs.Pairings.{signed_at}
use Rattle.swaps.proofs.Choosing.{price_read, rows_size, own_below, row_length, row_chosen, down-chosen}
use Rattle.swaps.proofs.accepted.Accepted.choose.Goals as goal

pub first_way-requires : goal.first_way-requires
first_way-requires c =
    let u = c.args in
    let a = u.self.now in
    let h = c.requires in
    let p = a.fair.row_prices.within u.x c.if-x-self.true in
    let e : length c.row_of-row.result.now ≡ a.n = ap length c.row_of-row.ensures ∙ row_length a u.marks.now u.prices.now u.x u.from h c.if-x-self.true in (
      rw (price_read (signed_at a.us.now u.x) p) p,
      omega (arith, h.lowered.size),
      λ j q. h.lowered.bounded j (omega arith),
      omega (arith, rows_size a u.marks.now u.prices.now u.x u.from h),
      λ j q. own_below a u.marks.now u.prices.now u.x u.from h j (omega arith),
    )

pub returns-then-x-self : goal.returns-then-x-self
returns-then-x-self c =
    let u = c.args in
    let a = u.self.now in
    row_chosen a u.marks.now u.prices.now u.x u.from c.requires c.if-x-self.true c.row_of-row.result.now c.row_of-row.ensures _ c.bits_at.ensures
    _ (price_read (signed_at a.us.now u.x) (a.fair.row_prices.within u.x c.if-x-self.true)) c.first_way.result c.first_way.ensures

pub returns : goal.returns
returns c =
    let u = c.args in
    down-chosen u.self.now u.marks.now u.prices.now u.x u.from c.requires c.if-x-self.false c.first_down.result c.first_down.ensures
