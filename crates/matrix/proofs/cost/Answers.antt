-- `cost` answers what its definition says. Assumes nothing.
use Rattle.std.proofs.Common.{sym, ap, ◌∙◌}
use mir.Syntax.{w64}
use Rattle.ints.proofs.Bits.{read_back}
use Rattle.matrix.specs.Answers.{values_of}
use Rattle.matrix.specs.Cost.{cost}
use Rattle.matrix.proofs.Listing.{cost_listed}
use Rattle.matrix.proofs.Verdicts.{passed_totalled}
use Rattle.matrix.proofs.cost.Goals as goal

pub total-requires : goal.total-requires
total-requires c = cost_listed _ _ _ (sym c.cost_tested.ensures ∙ c.in_ok-cost_tested.was)

pub returns : goal.returns
unfolding cost
returns c =
    ap values_of
    (passed_totalled (sym c.cost_tested.ensures ∙ c.in_ok-cost_tested.was)
    (read_back w64 c.total.result c.total.type_inv ∙ c.total.ensures))
