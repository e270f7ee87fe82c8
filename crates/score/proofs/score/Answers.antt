-- `score` answers what its definition says. Assumes nothing.
use mathlib.Core.Path.{sym, ap, ◌∙◌}
use mir.Syntax.{w32, w64}
use Rattle.ints.proofs.Bits.{read_back}
use Rattle.matrix.specs.Answers.{values_of}
use Rattle.matrix.proofs.Verdicts.{passed_totalled}
use Rattle.score.specs.Score.{score}
use Rattle.score.proofs.Scores.{tests_iff}
use Rattle.score.proofs.score.Goals as goal

pub score-requires : goal.score-requires
score-requires c =
    let r = (tests_iff _ _).0 (sym c.score_tested.ensures ∙ c.in_ok-score_tested.was) in
    (r.0, r.1)

pub returns : goal.returns
unfolding score
returns c =
    ap values_of
    (passed_totalled (sym c.score_tested.ensures ∙ c.in_ok-score_tested.was)
    (read_back w64 c.from.result c.from.type_inv ∙ c.from.ensures ∙ read_back w32 c.score.result c.score.type_inv ∙ c.score.ensures))
