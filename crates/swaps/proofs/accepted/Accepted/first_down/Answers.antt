-- `first_down` answers the first row of a range that could come down to a spare column. Assumes nothing.
use Rattle.std.proofs.Common.{◌≡◌, true, false, rules, tests}
use Rattle.std.proofs.lemmas.Iterator.{first_from_Range}
use Rattle.swaps.specs.Places.{comes_down}
use Rattle.swaps.proofs.Froms.{finds_from}
use Rattle.swaps.proofs.accepted.Accepted.first_down.Goals as goal

pub returns : goal.returns
returns c =
    let u = c.args in
    let a = u.self.now in
    finds_from u.from a.m (comes_down a.top a.cols.now a.vs.now u.marks.now) c.find.result
    (first_from_Range _ _ _ _ (λ i. comes_down a.top a.cols.now a.vs.now u.marks.now i ≡ true) (λ i. comes_down a.top a.cols.now a.vs.now u.marks.now i ≡ false) c.find.ensures.ran (λ x q k. search (rules, tests)) (λ x q k. search (rules, tests)))
