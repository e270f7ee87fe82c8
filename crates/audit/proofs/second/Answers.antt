-- `second` answers the total: the plain engine's is the same. Assumes nothing.
use Rattle.std.proofs.Common.{sym, ap, ◌∙◌, ℕ, ◌*◌, arith, rules}
use mir.Syntax.{w64}
use mir.Val.{SFits}
use mir.Facts.{to_z-of_z}
use Rattle.audit.proofs.Slips.{second_total}
use Rattle.audit.proofs.second.Goals as goal

pub returns-in-Some : goal.returns-in-Some
returns-in-Some c =
    let u = c.args in
    let f : SFits w64 c.in-Some.least = search rules in
    to_z-of_z f ∙ second_total u.m u.n u.costs.now u.bars.now u.total c.requires.1 c.requires.0 _ c.requires.4 c.engine.result c.engine.ensures.found c.in-Some.least c.in-Some.is
