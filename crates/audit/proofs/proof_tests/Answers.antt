-- `proof_tests` runs the tests of what a slip says one after the other. Assumes nothing.
use Rattle.std.proofs.Common.{sym, ◌∙◌, ◌≤◌, arith}
use native.Mathlib.Nat.{le_trans}
use Rattle.matrix.specs.Asked.{ColumnsListed}
use Rattle.matrix.specs.Limits.{side}
use Rattle.matrix.proofs.Passed.{columns_inside_lem}
use Rattle.matrix.proofs.SmallLimits.{sheet_side_small, sheet_side_within}
use Rattle.audit.proofs.proof_tests.Goals as goal

pub unbarred-requires : goal.unbarred-requires
unbarred-requires c =
    let inside = (columns_inside_lem c.args.m c.args.n c.args.cols.now).0 (sym c.columns_inside.ensures ∙ c.in_ok-columns_inside.was) in
    record { listed = omega (arith, c.requires.1); inside = λ i l. omega (arith, inside i l, c.requires.0.small, sheet_side_small) }

pub priced-requires : goal.priced-requires
priced-requires c =
    let p = c.requires in
    let inside = (columns_inside_lem c.args.m c.args.n c.args.cols.now).0 (sym c.columns_inside.ensures ∙ c.in_ok-columns_inside.was) in
    let within : c.args.n ≤ side = le_trans p.0.small sheet_side_within in
    (le_trans p.0.fewer within, within, p.0.filled, record { listed = omega (arith, p.1); inside = inside }, omega (arith, p.2), omega (arith, p.3), λ i set. omega (arith, p.0.small, sheet_side_small))

pub spares_not_below-requires : goal.spares_not_below-requires
spares_not_below-requires c =
    let p = c.requires in
    let inside = (columns_inside_lem c.args.m c.args.n c.args.cols.now).0 (sym c.columns_inside.ensures ∙ c.in_ok-columns_inside.was) in
    (record { listed = omega (arith, p.1); inside = λ i l. omega (arith, inside i l, p.3) }, omega (arith, p.3))
