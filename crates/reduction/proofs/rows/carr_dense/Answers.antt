use Rattle.std.proofs.Common.{ap, ◌∙◌, ℕ, ◌+◌}
use Rattle.lists.specs.Parts.{part}
use Rattle.lists.specs.Permutations.{table}
use Rattle.assignment.specs.Pairings.{square}
use Rattle.reduction.specs.Candidates.{unseen}
use Rattle.reduction.proofs.Lasting.{kept_none}
use Rattle.reduction.proofs.Looks.{head_start, ready, head_next, nearer, head_ends}
use Rattle.reduction.proofs.rows.carr_dense.Goals as goal

pub loop-pass-init : goal.loop-pass-init
loop-pass-init c =
    let u = c.args in
    let marked = c.forget.ensures ∙ ap (λ (k : ℕ). table k (λ i. unseen)) c.requires.2 in (
      head_start c.requires.0,
      record {
        room_size = c.requires.1;
        limits_size = c.forget.auto.limits ∙ c.requires.2;
        kept = kept_none u.n (square u.n u.costs.now).cost u.v.now (part u.n (u.n + u.n + u.n) u.room.now) _ marked;
      },
    )

pub look-pass-requires : goal.look-pass-requires
look-pass-requires c = (ready c.requires.0 _ c.loop-pass.invariant.0 c.loop-pass-test.true, c.loop-pass.invariant.1)

pub loop-pass-smaller : goal.loop-pass-smaller
loop-pass-smaller c = nearer c.requires.0 _ c.loop-pass.invariant.0 c.loop-pass-test.true _ c.look-pass.ensures.0

pub loop-pass-preserved : goal.loop-pass-preserved
loop-pass-preserved c = (head_next c.requires.0 _ c.loop-pass.invariant.0 c.loop-pass-test.true _ c.look-pass.ensures.0, c.look-pass.ensures.1)

pub returns : goal.returns
returns c = head_ends c.requires.0 _ c.loop-pass.invariant.0 c.loop-pass-test.false
