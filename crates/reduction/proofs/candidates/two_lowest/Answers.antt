-- `two_lowest` tells the two lowest, from what is kept or from the row. Assumes nothing.
use Rattle.std.proofs.Common.{rules, sym, ◌∙◌, ◌≡◌, w64, to_z, of_z}
use Rattle.assignment.specs.Pairings.{signed_at}
use Rattle.reduction.proofs.Rooms.{told_settled}
use Rattle.reduction.proofs.candidates.two_lowest.Goals as goal

pub returns-then-settled : goal.returns-then-settled
returns-then-settled c =
    let u = c.args in
    let limit : to_z w64 (of_z w64 (signed_at u.limits.now u.i)) ≡ signed_at u.limits.now u.i = search rules in
    told_settled c.requires.3 (rw limit at c.if-limit-lt-SEEN.true) c.recall-two.ensures (rw limit at (sym c.settled.ensures ∙ c.if-settled.true))
