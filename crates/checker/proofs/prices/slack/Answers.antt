-- `slack` answers the cost minus both prices of a place, and neither their sum nor the difference wraps. Assumes nothing.
use mathlib.Core.Path.{◌≡◌, ap, ap₂, ◌∙◌}
use lib.IntN.{ℤ, ◌+ℤ◌, ◌-ℤ◌}
use mir.Syntax.{w64}
use mir.Val.{SFits, to_z, of_z}
use mir.Facts.{to_z-of_z}
use Rattle.ints.proofs.Bits.{read_back}
use Rattle.checker.proofs.Places.{sum_fits, slack_fits}
use Rattle.checker.proofs.prices.slack.Goals as goal

-- what the code subtracts, and that the difference fits
read : (c : goal.After-from) → (to_z w64 (of_z w64 c.from.result) -ℤ to_z w64 (of_z w64 (to_z w64 (of_z w64 c.args.u) +ℤ to_z w64 (of_z w64 c.args.v)))) ≡ c.args.cost -ℤ (c.args.u +ℤ c.args.v)
read c =
    ap₂ ◌-ℤ◌ (read_back w64 c.from.result c.from.type_inv ∙ c.from.ensures ∙ to_z-of_z c.ranges.cost)
    (ap (λ (z : ℤ). to_z w64 (of_z w64 z)) (ap₂ ◌+ℤ◌ (to_z-of_z c.ranges.u) (to_z-of_z c.ranges.v))
    ∙ to_z-of_z (sum_fits c.args.u c.args.v c.requires.0 c.requires.1))

fits : (c : goal.After-from) → SFits w64 (c.args.cost -ℤ (c.args.u +ℤ c.args.v))
fits c = slack_fits c.args.cost c.args.u c.args.v c.ranges.cost c.requires.0 c.requires.1

pub overflow_sub-result : goal.overflow_sub-result
overflow_sub-result c = rw (read c) (fits c)

pub returns : goal.returns
returns c = ap (λ (z : ℤ). to_z w64 (of_z w64 z)) (read c) ∙ to_z-of_z (fits c)
