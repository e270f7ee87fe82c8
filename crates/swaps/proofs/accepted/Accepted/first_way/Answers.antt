-- `first_way` answers the first column of a range over which a row goes. Assumes nothing.
use Rattle.std.proofs.Common.{◌≡◌, true, false, length, rules, tests}
use Rattle.std.proofs.lemmas.Iterator.{first_from_Range}
use Rattle.swaps.specs.Places.{goes_over}
use Rattle.swaps.proofs.Froms.{finds_from}
use Rattle.swaps.proofs.accepted.Accepted.first_way.Goals as goal

pub returns : goal.returns
returns c =
    let u = c.args in
    let a = u.self.now in
    finds_from u.from (length u.row.now) (goes_over a.m a.top u.bits u.i u.row.now u.u u.vs.now a.rows.now u.marks.now) c.find.result
    (first_from_Range _ _ _ _ (λ j. goes_over a.m a.top u.bits u.i u.row.now u.u u.vs.now a.rows.now u.marks.now j ≡ true) (λ j. goes_over a.m a.top u.bits u.i u.row.now u.u u.vs.now a.rows.now u.marks.now j ≡ false) c.find.ensures.ran (λ x q k. search (rules, tests)) (λ x q k. search (rules, tests)))
