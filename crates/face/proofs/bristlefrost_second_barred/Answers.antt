-- `bristlefrost_second_barred` answers what the entry answers, told, and leaves what it leaves. Assumes nothing.
use Rattle.swaps.specs.Entries.{lent_of, second_barred}
use Rattle.swaps.proofs.Codes.{second_barred_places}
use Rattle.face.proofs.Seconds.{second_handed}
use Rattle.face.proofs.bristlefrost_second_barred.Goals as goal

pub returns : goal.returns
returns c =
    let u = c.args in
    second_handed (second_barred u.n u.costs.now u.cols.now u.rows.now u.row_prices.now u.col_prices.now u.bars.now (lent_of u.list.now u.indices.now u.numbers.now)) c.second_barred.result _ c.second_barred.ensures _ c.told_second.ensures
    (λ r e. second_barred_places u.n u.costs.now u.cols.now u.rows.now u.row_prices.now u.col_prices.now u.bars.now (lent_of u.list.now u.indices.now u.numbers.now) e)
