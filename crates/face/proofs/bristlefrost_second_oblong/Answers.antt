-- `bristlefrost_second_oblong` answers what the entry answers, told, and leaves what it leaves. Assumes nothing.
use Rattle.swaps.specs.Entries.{lent_of, second_oblong}
use Rattle.swaps.proofs.Codes.{second_oblong_numbers}
use Rattle.face.proofs.Seconds.{second_handed_any}
use Rattle.face.proofs.bristlefrost_second_oblong.Goals as goal

pub returns : goal.returns
returns c =
    let u = c.args in
    second_handed_any (second_oblong u.m u.n u.costs.now u.cols.now u.row_prices.now u.col_prices.now (lent_of u.list.now u.indices.now u.numbers.now)) c.second_oblong.result _ c.second_oblong.ensures _ c.told_second.ensures
