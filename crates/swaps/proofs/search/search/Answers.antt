-- `search` lists the row behind each column. Assumes nothing.
use Rattle.std.proofs.Common.{arith, ◌∙◌}
use mir.Syntax.{w64}
use Rattle.ints.proofs.Bits.{read_back}
use Rattle.assignment.proofs.Pairings.{pairing_injective}
use Rattle.bars.specs.Barred.{night_of}
use Rattle.swaps.proofs.Choosing.{rows_columns}
use Rattle.swaps.proofs.Finding.{found-dearest}
use Rattle.swaps.proofs.search.search.Goals as goal

pub list_rows-requires : goal.list_rows-requires
list_rows-requires c =
    let u = c.args in
    let fair = c.requires.fair in
    let night = night_of u.m u.n u.costs.now u.bars.now in (
      omega (arith, rows_columns night u.cols.now fair.pairing, fair.small),
      omega (arith, fair.pairing.size),
      rw c.split_at_mut-rows.ensures.front_len (pairing_injective night u.cols.now fair.pairing),
    )

pub invariant_of-night : goal.invariant_of-night
invariant_of-night c =
    let u = c.args in
    record {
      fair = c.requires.fair;
      listed = rw c.split_at_mut-rows.ensures.front_len at c.list_rows.ensures;
      highest = read_back w64 c.dearest-top.result c.dearest-top.type_inv ∙ c.dearest-top.ensures ∙ found-dearest (night_of u.m u.n u.costs.now u.bars.now) u.vs.now u.cols.now;
    }
