use Rattle.std.proofs.Common.{ap, sym, ◌∙◌, ◌+◌, arith}
use Rattle.lists.specs.Runs.{on}
use Rattle.swaps.specs.Rooms.{walk_of}
use Rattle.swaps.proofs.Walking.{marks_counted, none_made, one_more, all_made, has_left}
use Rattle.swaps.proofs.accepted.Accepted.walk.Goals as goal

pub loop-turn-init : goal.loop-turn-init
loop-turn-init c = (none_made c.args.self.now ∙ ap on (sym c.requires.at_start), c.requires.beside)

pub turn-requires : goal.turn-requires
turn-requires c =
    let u = c.args in
    record {
      beside = c.loop-turn.invariant.1;
      underway = (c.loop-turn._turn, omega (arith, c.loop-turn-test.true, marks_counted u.self.now u.path.now u.marks.now c.requires.at_start), c.loop-turn.invariant.0);
    }

pub returns-in-Break : goal.returns-in-Break
returns-in-Break c =
    let u = c.args in
    let t = rw c.in-Break.is at c.turn.ensures in (
      has_left u.self.now _ (c.loop-turn._turn + 1) (omega (arith, c.loop-turn-test.true, marks_counted u.self.now u.path.now u.marks.now c.requires.at_start))
          (one_more u.self.now c.loop-turn._turn _ _ c.loop-turn.invariant.0 t.0),
      t.1,
    )

pub loop-turn-preserved : goal.loop-turn-preserved
loop-turn-preserved c =
    let t = rw c.in-Continue.is at c.turn.ensures in
    (one_more c.args.self.now c.loop-turn._turn _ _ c.loop-turn.invariant.0 t.0, t.1)

pub returns : goal.returns
returns c =
    let u = c.args in
    all_made u.self.now (walk_of c.loop-turn.size c.loop-turn.path c.loop-turn.marks) c.loop-turn._turn
    (omega (arith, c.loop-turn-test.false, marks_counted u.self.now u.path.now u.marks.now c.requires.at_start)) c.loop-turn.invariant.0
