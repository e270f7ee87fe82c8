-- `totalled` answers the total, and whether another pairing has it. Assumes nothing.
use Rattle.std.proofs.Common.{◌∙◌}
use mir.Syntax.{w64}
use Rattle.ints.proofs.Bits.{read_back}
use Rattle.swaps.specs.Entries.{lent_of}
use Rattle.swaps.proofs.Entering.{can_total, told_outcome}
use Rattle.swaps.proofs.totalled.Goals as goal

pub total_of-total-requires : goal.total_of-total-requires
total_of-total-requires c =
    let u = c.args in
    can_total u.m u.n u.costs.now u.bars.now u.cols.now u.us.now u.vs.now (lent_of u.list.now u.indices.now u.numbers.now) c.requires

pub returns : goal.returns
returns c =
    let u = c.args in
    told_outcome u.m u.n u.costs.now u.bars.now u.cols.now u.us.now u.vs.now (lent_of u.list.now u.indices.now u.numbers.now) _ _ _ _
    (read_back w64 c.total_of-total.result c.total_of-total.type_inv ∙ c.total_of-total.ensures) c.find_second-another.ensures
