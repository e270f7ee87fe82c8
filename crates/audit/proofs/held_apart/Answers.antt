-- `held_apart` lends `held` the first entries of arrays of its own. Assumes nothing.
use Prim.Native.Nat.{◌≤◌}
use native.Mathlib.Omega.{arith}
use Rattle.matrix.proofs.SmallLimits.{sheet_side_small}
use Rattle.audit.proofs.held_apart.Goals as goal
use Rattle.audit.proofs.held_apart.Lts as Lts
use Rattle.audit.proofs.held_apart.Reads as Reads
use Rattle.audit.proofs.held_apart.Tie as Tie

few : (c : Lts.Start Tie.the-claims Reads.Pre Reads.Post) → c.args.n ≤ 64
few c = omega (arith, c.requires.0.small, sheet_side_small)

fewer : (c : Lts.Start Tie.the-claims Reads.Pre Reads.Post) → c.args.m ≤ 64
fewer c = omega (arith, c.requires.0.fewer, few c)

pub slice_bounds-cols-end : goal.slice_bounds-cols-end
slice_bounds-cols-end c = fewer c.before.before.before

pub slice_bounds-list-end : goal.slice_bounds-list-end
slice_bounds-list-end c = fewer c.before.before.before.before

pub slice_bounds-us-end : goal.slice_bounds-us-end
slice_bounds-us-end c = fewer c.before.before.before.before.before

pub slice_bounds-vs-end : goal.slice_bounds-vs-end
slice_bounds-vs-end c = few c.before.before.before.before.before.before
