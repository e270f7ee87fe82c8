-- `bristlefrost_second` answers what the entry answers, told, and leaves what it leaves. Assumes nothing.
use Rattle.swaps.specs.Entries.{lent_of, second_square}
use Rattle.swaps.proofs.Codes.{second_places}
use Rattle.face.proofs.Seconds.{second_handed}
use Rattle.face.proofs.bristlefrost_second.Goals as goal

pub returns : goal.returns
returns c =
    let u = c.args in
    second_handed (second_square u.n u.costs.now u.cols.now u.rows.now u.row_prices.now u.col_prices.now (lent_of u.list.now u.indices.now u.numbers.now)) c.second.result _ c.second.ensures _ c.told_second.ensures
    (λ r e. second_places u.n u.costs.now u.cols.now u.rows.now u.row_prices.now u.col_prices.now (lent_of u.list.now u.indices.now u.numbers.now) e)
