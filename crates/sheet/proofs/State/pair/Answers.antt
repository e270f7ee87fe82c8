-- `pair`: where the solver pairs the night, its columns are below the side. Assumes nothing.
use mathlib.Core.Path.{sym, ap, ◌∙◌}
use Prim.Native.Nat.{◌*◌}
use lib.ListN.{take}
use Rattle.lapjv.specs.Solve.{outcome_of}
use Rattle.sheet.specs.Settle.{lent}
use Rattle.sheet.proofs.Columns.{paired_inside}
use Rattle.sheet.proofs.State.pair.Goals as goal

pub unbarred-requires : goal.unbarred-requires
unbarred-requires c =
    let n = c.args.shape.side in
    let filled = c.fill.new.self in
    let solved = lent c.solve.new.self in
    (c.args.shape.small, paired_inside n (take (n * n) filled.costs) (lent filled) c.in_ok-sums.sums solved (ap (λ a. outcome_of a solved) (sym c.in_ok-sums.was) ∙ c.solve.ensures.outcome))
