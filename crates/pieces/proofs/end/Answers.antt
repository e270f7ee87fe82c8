-- `end` ends as the definition does. Assumes nothing.
use mathlib.Core.Path.{sym, ap, ◌∙◌}
use Rattle.sheet.specs.Reading.{sheet_most}
use Rattle.sheet.specs.Settle.{Delivery}
use Rattle.pieces.specs.Kept.{kept, end_mark}
use Rattle.pieces.specs.Calls.{marked, ending}
use Rattle.pieces.proofs.Calls.{taking_few, end-over, end-ended, end_taking}
use Rattle.pieces.proofs.end.Goals as goal

pub shared_ref_as_front-pair : goal.shared_ref_as_front-pair
unfolding sheet_most
shared_ref_as_front-pair c = let u = c.args in taking_few (kept u.bytes.now u.state.now) c.in-Taking.came (sym c.read_state.ensures ∙ c.in-Taking.is)

pub returns-in-Over : goal.returns-in-Over
returns-in-Over c =
    let u = c.args in
    rw c.number.ensures (sym (end-over u.slip.now (kept u.bytes.now u.state.now) (sym c.read_state.ensures ∙ c.in-Over.is)))

pub returns-in-Ended : goal.returns-in-Ended
returns-in-Ended c =
    let u = c.args in
    rw c.number-in-Ended.ensures (sym (end-ended u.slip.now (kept u.bytes.now u.state.now) (sym c.read_state.ensures ∙ c.in-Ended.is)))

pub returns-in-Taking : goal.returns-in-Taking
returns-in-Taking c =
    let u = c.args in
    let k = kept u.bytes.now u.state.now in
    ap (λ (d : Delivery). ending d (marked end_mark k)) c.pair.ensures
    ∙ sym (end_taking u.slip.now k c.in-Taking.came (sym c.read_state.ensures ∙ c.in-Taking.is))
