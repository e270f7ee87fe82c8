-- `score` answers the score of two references of its lists. Assumes nothing.
use mathlib.Core.Path.{sym, subst}
use Rattle.score.specs.Characters.{Reference}
use Rattle.score.proofs.Places.{reference-known}
use Rattle.score.proofs.sheets.Pairs.score.Goals as goal

pub score-requires : goal.score-requires
score-requires c =
    let u = c.args in
    let p = u.self.now in (
      subst Reference (sym c.reference.ensures) (reference-known p.n p.firsts.now p.listed.rows u.i c.requires.0),
      subst Reference (sym c.reference-2.ensures) (reference-known p.n p.seconds.now p.listed.columns u.j c.requires.1),
    )
