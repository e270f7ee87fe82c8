use Rattle.std.proofs.Common.{length, ap, ◌∙◌, arith, replicate, ℕ}
use Rattle.plain.proofs.Steps.{head_first, head_last, head_more, head_nearer}
use Rattle.plain.proofs.engine.Goals as goal

pub loop-found-init : goal.loop-found-init
loop-found-init c =
    let u = c.args in
    head_first u.n (length u.cols.now) u.costs.now u.bars.now u.cols.now c.fill.new.self c.requires.0 (c.fill.ensures.after (λ y e. e) ∙ ap (λ (k : ℕ). replicate k 0) c.requires.3)

pub returns-then-not-next : goal.returns-then-not-next
returns-then-not-next c =
    let u = c.args in
    let l = c.loop-found in
    let h = head_last u.n (length u.cols.now) u.costs.now u.bars.now u.cols.now l.list l.cols l.found l.invariant (omega arith) _ _ _ _ _ c.cost.ensures c.keep-found.ensures c.next.ensures c.requires.0 c.if-not-next.true in
    record { found = h.0; columns = h.1 }

pub loop-found-smaller : goal.loop-found-smaller
loop-found-smaller c =
    let u = c.args in
    let l = c.loop-found in
    head_nearer u.n (length u.cols.now) u.costs.now u.bars.now u.cols.now l.list l.cols l.found l.invariant (omega arith) _ _ _ _ _ c.cost.ensures c.keep-found.ensures c.next.ensures c.if-not-next.false

pub loop-found-preserved : goal.loop-found-preserved
loop-found-preserved c =
    let u = c.args in
    let l = c.loop-found in
    head_more u.n (length u.cols.now) u.costs.now u.bars.now u.cols.now l.list l.cols l.found l.invariant (omega arith) _ _ _ _ _ c.cost.ensures c.keep-found.ensures c.next.ensures c.if-not-next.false
