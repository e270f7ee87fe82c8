-- `sheet_tested` runs the tests of a sheet of scores one after the other: lists that fit are not long. Assumes nothing.
use mathlib.Core.Path.{sym, ◌∙◌}
use native.Mathlib.Omega.{arith}
use lib.ListN.{length}
use Rattle.matrix.proofs.SmallLimits.{sheet_side_small}
use Rattle.score.proofs.Passing.{lists_fit_lem}
use Rattle.score.proofs.tests.sheet_tested.Goals as goal

pub characters_known-requires : goal.characters_known-requires
characters_known-requires c =
    let u = c.args in
    let h = (lists_fit_lem (length u.firsts.now) (length u.seconds.now) u.room).0 (sym c.lists_fit.ensures ∙ c.in_ok-lists_fit.was) in
    (omega arith, omega (arith, sheet_side_small, h))

pub characters_known-requires-2 : goal.characters_known-requires-2
characters_known-requires-2 c =
    let u = c.args in
    let h = (lists_fit_lem (length u.firsts.now) (length u.seconds.now) u.room).0 (sym c.lists_fit.ensures ∙ c.in_ok-lists_fit.was) in
    (omega arith, omega (arith, sheet_side_small, h))
