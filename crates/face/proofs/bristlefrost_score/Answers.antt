-- `bristlefrost_score` answers what the entry answers, told. Assumes nothing.
use mathlib.Core.Path.{sym, ap, ◌∙◌, subst}
use Rattle.matrix.specs.Asked.{TellableIn}
use Rattle.matrix.proofs.Determined.{values_determine}
use Rattle.score.specs.Score.{score}
use Rattle.score.proofs.Codes.{score_places}
use Rattle.face.specs.Face.{totalled}
use Rattle.face.proofs.bristlefrost_score.Goals as goal

pub told-requires : goal.told-requires
told-requires c =
    let u = c.args in
    subst TellableIn (sym (values_determine c.score.result (score u.first.now u.second.now) c.score.ensures)) (score_places u.first.now u.second.now)

pub returns : goal.returns
returns c = c.told.ensures ∙ ap totalled c.score.ensures
