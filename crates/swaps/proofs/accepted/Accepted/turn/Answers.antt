-- `turn` makes one turn of the walk. Assumes nothing.
use Rattle.std.proofs.Common.{◌∙◌, arith}
use borrow.Author.Tests.{eqb-false}
use Rattle.swaps.specs.Walks.{Walk, last}
use Rattle.swaps.specs.Rooms.{walk_of}
use Rattle.swaps.proofs.Choosing.{rows_size}
use Rattle.swaps.proofs.Turning.{sizes, open_found, open_below, starts, last-below, can_choose, ends, node, node_below, path_room, gone}
use Rattle.swaps.proofs.accepted.Accepted.turn.Goals as goal

pub enter-requires : goal.enter-requires
enter-requires c =
    let u = c.args in
    let w : Walk = walk_of u.size u.path.now u.marks.now in
    let z = sizes u.self.now w u.choices.now u.prices.now c.requires in
    let f = open_found u.self.now w u.choices.now u.prices.now c.requires c.if-size-eq0.true c.first_open.result c.first_open.ensures in
    let l = open_below u.self.now w u.choices.now u.prices.now c.requires c.if-size-eq0.true in
    let e = c.unwrap_or-x.ensures ∙ f in
    (omega (arith, e), omega (arith, e), omega (arith, e))

pub returns-then-size-eq0 : goal.returns-then-size-eq0
returns-then-size-eq0 c =
    let u = c.args in
    let w : Walk = walk_of u.size u.path.now u.marks.now in
    starts u.self.now w u.choices.now u.prices.now c.requires c.if-size-eq0.true c.unwrap_or-x.result
    (c.unwrap_or-x.ensures ∙ open_found u.self.now w u.choices.now u.prices.now c.requires c.if-size-eq0.true c.first_open.result c.first_open.ensures)
    c.enter.new.path c.enter.new.marks c.enter.ensures.0 c.enter.ensures.1

pub offset_bounds-path-size : goal.offset_bounds-path-size
offset_bounds-path-size c =
    let u = c.args in
    let z = sizes u.self.now (walk_of u.size u.path.now u.marks.now) u.choices.now u.prices.now c.requires in
    omega (arith, c.if-size-eq0.false)

pub bounds-path-size : goal.bounds-path-size
bounds-path-size c =
    let u = c.args in
    let z = sizes u.self.now (walk_of u.size u.path.now u.marks.now) u.choices.now u.prices.now c.requires in
    omega (arith, c.if-size-eq0.false)

pub bounds-choices-x : goal.bounds-choices-x
bounds-choices-x c =
    let u = c.args in
    let w : Walk = walk_of u.size u.path.now u.marks.now in
    let z = sizes u.self.now w u.choices.now u.prices.now c.requires in
    omega (arith, last-below u.self.now w u.choices.now u.prices.now c.requires c.if-size-eq0.false)

pub choose-requires : goal.choose-requires
choose-requires c =
    let u = c.args in
    can_choose u.self.now (walk_of u.size u.path.now u.marks.now) u.choices.now u.prices.now c.requires c.if-size-eq0.false

pub overflow_cast-choices-in_default : goal.overflow_cast-choices-in_default
overflow_cast-choices-in_default c =
    let u = c.args in
    let z = sizes u.self.now (walk_of u.size u.path.now u.marks.now) u.choices.now u.prices.now c.requires in
    omega arith

pub bounds-choices-x-in_default : goal.bounds-choices-x-in_default
bounds-choices-x-in_default c =
    let u = c.args in
    let w : Walk = walk_of u.size u.path.now u.marks.now in
    let z = sizes u.self.now w u.choices.now u.prices.now c.requires in
    omega (arith, last-below u.self.now w u.choices.now u.prices.now c.requires c.if-size-eq0.false)

pub bounds-marks-x : goal.bounds-marks-x
bounds-marks-x c =
    let u = c.args in
    let w : Walk = walk_of u.size u.path.now u.marks.now in
    let z = sizes u.self.now w u.choices.now u.prices.now c.requires in
    omega (arith, last-below u.self.now w u.choices.now u.prices.now c.requires c.if-size-eq0.false)

pub returns-in_default : goal.returns-in_default
returns-in_default c =
    let u = c.args in
    rw c.lower.ensures
    (ends u.self.now (walk_of u.size u.path.now u.marks.now) u.choices.now u.prices.now c.requires c.if-size-eq0.false (rw c.in_default.is at c.choose.ensures))

pub overflow_cast-choices-2 : goal.overflow_cast-choices-2
overflow_cast-choices-2 c =
    let u = c.args in
    let z = sizes u.self.now (walk_of u.size u.path.now u.marks.now) u.choices.now u.prices.now c.requires in
    let f = rw c.in-Some.is at c.choose.ensures in
    omega (arith, f.0)

pub bounds-choices-x-2 : goal.bounds-choices-x-2
bounds-choices-x-2 c =
    let u = c.args in
    let w : Walk = walk_of u.size u.path.now u.marks.now in
    let z = sizes u.self.now w u.choices.now u.prices.now c.requires in
    omega (arith, last-below u.self.now w u.choices.now u.prices.now c.requires c.if-size-eq0.false)

pub over_to-requires : goal.over_to-requires
over_to-requires c =
    let u = c.args in
    let w : Walk = walk_of u.size u.path.now u.marks.now in
    let f = rw c.in-Some.is at c.choose.ensures in
    omega (arith, f.0, rows_size u.self.now u.marks.now u.prices.now (last w) _ (can_choose u.self.now w u.choices.now u.prices.now c.requires c.if-size-eq0.false))

pub go_to-requires : goal.go_to-requires
go_to-requires c =
    let u = c.args in
    let w : Walk = walk_of u.size u.path.now u.marks.now in
    let z = sizes u.self.now w u.choices.now u.prices.now c.requires in
    let f = rw c.in-Some.is at c.choose.ensures in
    let e = c.over_to.ensures ∙ node u.self.now w u.choices.now u.prices.now c.requires c.if-size-eq0.false c.in-Some.c f in
    let l = node_below u.self.now w u.choices.now u.prices.now c.requires c.if-size-eq0.false c.in-Some.c f in
    rw e (
      omega arith,
      omega arith,
      omega arith,
      λ t. let r = path_room u.self.now w u.choices.now u.prices.now c.requires c.if-size-eq0.false c.in-Some.c f (eqb-false _ 1 t) in omega arith,
    )

pub returns : goal.returns
returns c =
    let u = c.args in
    let w : Walk = walk_of u.size u.path.now u.marks.now in
    let f = rw c.in-Some.is at c.choose.ensures in
    let e = c.over_to.ensures ∙ node u.self.now w u.choices.now u.prices.now c.requires c.if-size-eq0.false c.in-Some.c f in
    gone u.self.now w u.choices.now u.prices.now c.requires c.if-size-eq0.false c.in-Some.c f c.go_to.result c.go_to.new.path c.go_to.new.marks
    (rw e at c.go_to.ensures)
