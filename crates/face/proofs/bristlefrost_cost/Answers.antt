-- `bristlefrost_cost` answers what the entry answers, told. Assumes nothing.
use mathlib.Core.Path.{sym, ap, ◌∙◌, subst}
use Rattle.matrix.specs.Cost.{cost}
use Rattle.matrix.specs.Asked.{TellableIn}
use Rattle.matrix.proofs.Codes.{cost_places}
use Rattle.matrix.proofs.Determined.{values_determine}
use Rattle.face.specs.Face.{totalled}
use Rattle.face.proofs.bristlefrost_cost.Goals as goal

pub told-requires : goal.told-requires
told-requires c =
    let u = c.args in
    subst TellableIn (sym (values_determine c.cost.result (cost u.n u.costs.now u.listed.now) c.cost.ensures)) (cost_places u.n u.costs.now u.listed.now)

pub returns : goal.returns
returns c = c.told.ensures ∙ ap totalled c.cost.ensures
