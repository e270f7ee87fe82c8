-- `search` answers whether there is another pairing, and writes it. Assumes nothing.
use Rattle.std.proofs.Common.{arith}
use native.Mathlib.Nat.{sub-zero}
use Rattle.matrix.proofs.SmallLimits.{side_small}
use Rattle.swaps.proofs.Finding.{few, zeros, can_walk, order, size_below, path_below, one_found}
use Rattle.swaps.proofs.accepted.Accepted.search.Goals as goal

pub slice_bounds-path-end : goal.slice_bounds-path-end
slice_bounds-path-end c = omega (arith, few c.args.self.now, c.count_nodes-count.ensures, c.requires.path_size)

pub walk-requires : goal.walk-requires
walk-requires c =
    let u = c.args in
    let e = c.count_nodes-count.ensures in
    can_walk u.self.now c.fill.new.self c.fill-2.new.self c.fill-3.new.self
    (zeros u.self.now _ e u.path.now _ c.requires.path_size (c.fill.ensures.after (λ y k. k)))
    (zeros u.self.now _ e u.marks.now _ c.requires.marks_size (c.fill-2.ensures.after (λ y k. k)))
    (zeros u.self.now _ e u.choices.now _ c.requires.choices_size (c.fill-3.ensures.after (λ y k. k)))
    _ (rw (sub-zero u.self.now.n) at c.copy.ensures)

pub offset_bounds-path-from : goal.offset_bounds-path-from
offset_bounds-path-from c =
    let a = c.args.self.now in
    let h = rw c.in-Some.is at c.walk.ensures in
    omega (
      arith,
      side_small,
      a.fair.small,
      few a,
      order a c.in-Some.from c.in-Some.size c.walk.new.path c.walk.new.marks c.walk.new.choices h,
      size_below a c.in-Some.from c.in-Some.size c.walk.new.path c.walk.new.marks c.walk.new.choices h,
    )

pub slice_bounds-move_rows-count : goal.slice_bounds-move_rows-count
slice_bounds-move_rows-count c =
    let h = rw c.in-Some.is at c.walk.ensures in
    omega (arith, order c.args.self.now c.in-Some.from c.in-Some.size c.walk.new.path c.walk.new.marks c.walk.new.choices h)

pub slice_bounds-move_rows-start : goal.slice_bounds-move_rows-start
slice_bounds-move_rows-start c =
    let h = rw c.in-Some.is at c.walk.ensures in
    omega (arith, order c.args.self.now c.in-Some.from c.in-Some.size c.walk.new.path c.walk.new.marks c.walk.new.choices h)

pub slice_bounds-move_rows-end : goal.slice_bounds-move_rows-end
slice_bounds-move_rows-end c =
    let h = rw c.in-Some.is at c.walk.ensures in
    omega (arith, path_below c.args.self.now c.in-Some.from c.in-Some.size c.walk.new.path c.walk.new.marks c.walk.new.choices h)

pub returns : goal.returns
returns c =
    let u = c.args in
    let h = rw c.in-Some.is at c.walk.ensures in
    one_found u.self.now c.in-Some.from c.in-Some.size c.walk.new.path c.walk.new.marks c.walk.new.choices h u.list.now _ c.move_rows.ensures
