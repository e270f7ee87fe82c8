-- `characters_known` answers test 19 of a list. Assumes nothing.
use Rattle.std.proofs.Common.{◌∙◌, ap}
use Rattle.std.specs.Prelude.{Some, None, Err}
use lib.ListN.{length}
use Rattle.lists.specs.Permutations.{at}
use Rattle.matrix.specs.declared.refusals.Reason.TheVariants.{CharacterUnknown}
use Rattle.matrix.proofs.Verdicts.{found_fails}
use Rattle.score.specs.Characters.{foreign}
use Rattle.score.specs.Score.{pair_place}
use Rattle.score.proofs.tests.characters_known.Goals as goal

pub returns-in-Some : goal.returns-in-Some
returns-in-Some c =
    let u = c.args in
    ap Err c.new.ensures ∙ found_fails CharacterUnknown (pair_place u.start) (length u.list.now) (λ p. foreign (at u.list.now p)) (Some c.in-Some.p) c.in-Some.ensures

pub returns-in-None : goal.returns-in-None
returns-in-None c =
    let u = c.args in
    found_fails CharacterUnknown (pair_place u.start) (length u.list.now) (λ p. foreign (at u.list.now p)) None c.in-None.ensures
