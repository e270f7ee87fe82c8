use Rattle.std.proofs.Common.{rules, ◌≡◌, ◌+◌, ◌≤◌, [], arith}
use Rattle.assignment.specs.Pairings.{square}
use Rattle.rules.specs.Columns.{transfer}
use Rattle.reduction.specs.Columns.{claims_of, transfer_of}
use Rattle.reduction.proofs.Transfers.{run_none, run_next, sized, prices_near_lem}
use Rattle.reduction.proofs.columns.transfers.Goals.{in-0, in-1, in_default}
use Rattle.reduction.proofs.columns.transfers.Goals as goal

pub loop-i-init : goal.loop-i-init
loop-i-init c = (omega arith, run_none c.requires)

pub lower_column-requires : goal.lower_column-requires
lower_column-requires c =
    let t = c.requires in
    let i = c.loop-i.i in
    let h = c.loop-i.invariant.1 in
    (t.squared, c.loop-i-test.true, t.col_below i c.loop-i-test.true, (sized t i h).prices_size, prices_near_lem t i h c.loop-i-test.true)

pub loop-i-preserved : goal.loop-i-preserved
loop-i-preserved c =
    let u = c.args in
    let l = c.loop-i in
    let m = c.match-marks-i in
    let stepped : transfer_of m.v m.frees m.count ≡ transfer u.n (square u.n u.costs.now).cost (claims_of u.cols.now [] u.marks.now) l.i (transfer_of l.v l.frees l.count) =
    elim m.branch [
      | in-0 w ↦ rw (w.v-is, w.frees-is, w.count-is) (search rules)
      | in-1 w ↦ rw (w.v-is, w.frees-is, w.count-is) (search rules)
      | in_default w ↦ rw (w.v-is, w.frees-is, w.count-is) (search rules)
    ] in
    let most : m.count ≤ l.i + 1 =
    elim m.branch [
      | in-0 w ↦ omega (arith, w.count-is)
      | in-1 w ↦ omega (arith, w.count-is)
      | in_default w ↦ omega (arith, w.count-is)
    ] in
    (most, run_next c.requires l.i l.invariant.1 (transfer_of m.v m.frees m.count) stepped)
