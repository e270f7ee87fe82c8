-- `score_tested` runs the tests of two references one after the other: those that pass 18 are not long. Assumes nothing.
use mathlib.Core.Path.{sym, ◌∙◌}
use native.Mathlib.Omega.{arith}
use Rattle.score.proofs.Scores.{lengths_twelve_lem}
use Rattle.score.proofs.tests.score_tested.Goals as goal

pub characters_known-requires : goal.characters_known-requires
characters_known-requires c =
    let h = (lengths_twelve_lem c.args.first.now c.args.second.now).0 (sym c.lengths_twelve.ensures ∙ c.in_ok-lengths_twelve.was) in
    (omega arith, omega (arith, h))

pub characters_known-requires-2 : goal.characters_known-requires-2
characters_known-requires-2 c =
    let h = (lengths_twelve_lem c.args.first.now c.args.second.now).0 (sym c.lengths_twelve.ensures ∙ c.in_ok-lengths_twelve.was) in
    (omega arith, omega (arith, h))
