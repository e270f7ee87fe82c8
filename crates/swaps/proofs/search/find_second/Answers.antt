-- `find_second` lends the fronts of its lists, and clears the rooms. Assumes nothing.
use Rattle.std.proofs.Common.{◌*◌}
use borrow.Author.Tests.{le-ltb}
use lib.IntN.{pos}
use Rattle.swaps.proofs.Fronts.{FoundFirst, found_first, none_first, cleared}
use Rattle.swaps.proofs.search.find_second.Goals as goal
use Rattle.swaps.proofs.search.find_second.Goals.{then-m-gt0, else-m-gt0}

pub returns : goal.returns
returns c =
    let u = c.args in
    let first : FoundFirst u.m u.n u.costs.now u.bars.now u.cols.now u.us.now u.vs.now u.list.now u.indices.now u.numbers.now c.requires c.if-m-gt0.another c.if-m-gt0.list =
    elim c.if-m-gt0.branch [
      | then-m-gt0 w ↦ rw (w.another-is, w.list-is)
          (found_first u.m u.n u.costs.now u.bars.now u.cols.now u.us.now u.vs.now u.list.now u.indices.now u.numbers.now c.requires w.search-another.result w.search-another.new.list
          w.search-another.ensures)
      | else-m-gt0 w ↦ rw (w.another-is, le-ltb 0 u.m w.if-m-gt0.false, w.list-is)
          (none_first u.m u.n u.costs.now u.bars.now u.cols.now u.us.now u.vs.now u.list.now u.indices.now u.numbers.now c.requires w.if-m-gt0.false)
    ] in
    record {
      told = first.0;
      written = first.1;
      indices_cleared = cleared (4 * u.n) u.indices.now c.if-m-gt0.room c.fill.new.self 0 c.requires.indices_long c.if-m-gt0.auto.room (c.fill.ensures.after (λ y k. k));
      numbers_cleared = cleared u.n u.numbers.now c.if-m-gt0.prices c.fill-2.new.self (pos 0) c.requires.numbers_long c.if-m-gt0.auto.prices (c.fill-2.ensures.after (λ y k. k));
    }
