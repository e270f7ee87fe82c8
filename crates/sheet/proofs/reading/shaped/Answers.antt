-- `shaped` answers 17, 11, 12, 13, 23, and the shape of what passes them. Assumes nothing.
use mathlib.Core.Path.{sym, ◌∙◌}
use Rattle.sheet.proofs.Passing.{trailer_found, shape_found}
use Rattle.sheet.proofs.reading.shaped.Goals as goal

pub row_count-requires : goal.row_count-requires
row_count-requires c = trailer_found c.args.sheet.now (sym c.trailed.ensures ∙ c.in_ok-edition.was)

pub side_of-side-requires : goal.side_of-side-requires
side_of-side-requires c = (trailer_found c.args.sheet.now (sym c.trailed.ensures ∙ c.in_ok-edition.was)).0

pub invariant_of-result : goal.invariant_of-result
invariant_of-result c =
    let f = shape_found c.args.sheet.now (sym c.trailed.ensures ∙ c.in_ok-edition.was) (sym c.row_count.ensures ∙ c.in_ok-row_count.was) c.side_of-side.ensures.0 (sym c.fails_if.ensures ∙ c.in_ok-fails_if.was) in
    record { fewer = f.fewer; small = f.small; few = f.few }

pub returns : goal.returns
returns c =
    let f = shape_found c.args.sheet.now (sym c.trailed.ensures ∙ c.in_ok-edition.was) (sym c.row_count.ensures ∙ c.in_ok-row_count.was) c.side_of-side.ensures.0 (sym c.fails_if.ensures ∙ c.in_ok-fails_if.was) in
    (f.passes, record { long = f.long; edition = f.known; rows = f.rows; side = f.side })
