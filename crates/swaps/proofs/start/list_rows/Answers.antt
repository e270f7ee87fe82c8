use Rattle.std.proofs.Common.{◌≡◌, arith, length, subst, sym, ℕ}
use Rattle.matrix.proofs.SmallLimits.{side_small}
use Rattle.swaps.proofs.Listing.{Listed, listed_more, listed_all}
use Rattle.swaps.proofs.start.list_rows.Goals as goal

pub overflow_cast-m : goal.overflow_cast-m
overflow_cast-m c = omega (arith, side_small, c.requires.0)

pub loop-i-preserved : goal.loop-i-preserved
loop-i-preserved c = λ n inj e. listed_more c.args.m n c.args.cols.now inj c.loop-i.i c.loop-i.rows c.loop-i-test.true (c.loop-i.invariant n inj e)

pub returns : goal.returns
returns c =
    let u = c.args in
    let e : c.loop-i.i ≡ u.m = omega (arith, c.loop-i-test.false) in
    listed_all u.m (length u.rows.now) u.cols.now c.requires.2 c.loop-i.rows
    (subst (λ (k : ℕ). Listed u.m (length u.rows.now) u.cols.now c.requires.2 k c.loop-i.rows) e (c.loop-i.invariant (length u.rows.now) c.requires.2 (sym c.fill.ensures.len)))
