-- `tested` runs the solver's tests one after the other, and what passes them is within the limits. Assumes nothing.
use mathlib.Core.Path.{sym, ◌∙◌}
use Rattle.matrix.proofs.Passed.{shaped_iff}
use Rattle.std.proofs.Common.{rules}
use Rattle.lapjv.specs.Solve.{tested}
use Rattle.lapjv.proofs.Tests.{tested_limits}
use Rattle.lapjv.proofs.tested.Goals as goal

pub rooms_long-requires : goal.rooms_long-requires
rooms_long-requires c = ((shaped_iff c.args.n c.args.costs.now _ _ _ _).0 (sym c.shaped.ensures ∙ c.in_ok-shaped.was)).small

pub returns-clause-limits : goal.returns-clause-limits
unfolding tested
returns-clause-limits c = tested_limits c.args.n c.args.costs.now _ c.costs_within.result (search rules)
