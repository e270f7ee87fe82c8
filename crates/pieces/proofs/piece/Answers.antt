-- `piece` takes a piece as the definition does. Assumes nothing.
use mathlib.Core.Path.{sym, ap, ◌∙◌}
use mathlib.Core.List.{List}
use Prim.Native.Nat.{ℕ, ◌+◌}
use native.Mathlib.Omega.{arith}
use lib.ListN.{length, set}
use Rattle.lists.specs.Parts.{replaced}
use Rattle.lists.proofs.Parts.{lent_back}
use Rattle.sheet.specs.Reading.{sheet_most}
use Rattle.pieces.specs.Kept.{kept}
use Rattle.pieces.specs.Calls.{taken}
use Rattle.pieces.proofs.Calls.{taking_few, piece-over, piece-ended, piece_long, piece_fits}
use Rattle.pieces.proofs.piece.Goals as goal

pub overflow_sub-came : goal.overflow_sub-came
unfolding sheet_most
overflow_sub-came c = let u = c.args in taking_few (kept u.bytes.now u.state.now) c.in-Taking.came (sym c.read_state.ensures ∙ c.in-Taking.is)

pub returns-then-came-sent : goal.returns-then-came-sent
unfolding sheet_most
returns-then-came-sent c =
    let u = c.args in
    let k = kept u.bytes.now u.state.now in
    let t = sym c.read_state.ensures ∙ c.in-Taking.is in
    rw c.number-then-came-sent.ensures (sym (piece_long u.sent.now k c.in-Taking.came t (omega (arith, taking_few k c.in-Taking.came t, c.if-came-sent.true))))

pub slice_bounds-copy-end : goal.slice_bounds-copy-end
unfolding sheet_most
slice_bounds-copy-end c =
    let u = c.args in
    omega (arith, taking_few (kept u.bytes.now u.state.now) c.in-Taking.came (sym c.read_state.ensures ∙ c.in-Taking.is), c.if-came-sent.false)

pub returns-in-Over : goal.returns-in-Over
returns-in-Over c =
    let u = c.args in
    rw c.number.ensures (sym (piece-over u.sent.now (kept u.bytes.now u.state.now) (sym c.read_state.ensures ∙ c.in-Over.is)))

pub returns-in-Ended : goal.returns-in-Ended
returns-in-Ended c =
    let u = c.args in
    rw c.number-in-Ended.ensures (sym (piece-ended u.sent.now (kept u.bytes.now u.state.now) (sym c.read_state.ensures ∙ c.in-Ended.is)))

pub returns-else-came-sent : goal.returns-else-came-sent
unfolding sheet_most
returns-else-came-sent c =
    let u = c.args in
    let k = kept u.bytes.now u.state.now in
    let n = c.in-Taking.came in
    let e : ℕ = n + length u.sent.now in
    let t = sym c.read_state.ensures ∙ c.in-Taking.is in
    let copied = c.copy.ensures in
    let back = lent_back n e c.copy.new.to u.bytes.now (omega (arith, ap length copied)) in
    ap (λ (bytes : List ℕ). taken 0 (kept bytes (set u.state.now 0 e))) (back ∙ ap (λ (p : List ℕ). replaced n p u.bytes.now) copied)
    ∙ sym (piece_fits u.sent.now k n t (omega (arith, taking_few k n t, c.if-came-sent.false)))
