-- `put_columns` adds a column a turn. Assumes nothing.
use mathlib.Core.Path.{ap, ◌∙◌}
use mathlib.Core.List.{◌++◌}
use Prim.Native.Nat.{ℕ}
use native.Mathlib.Omega.{arith}
use Rattle.lines.specs.Decimal.{decimal}
use Rattle.lines.proofs.Pieces.{columns_start, columns_more}
use Rattle.lines.proofs.put_columns.Goals as goal

pub loop-column-init : goal.loop-column-init
loop-column-init c = (columns_start c.args.text.now c.args.cols.now, omega arith)

pub loop-column-preserved : goal.loop-column-preserved
loop-column-preserved c =
    let u = c.args in
    let l = c.loop-column in
    (columns_more u.text.now u.cols.now l.column-index l.invariant.0 c.byte.ensures.text (c.decimal.ensures.text ∙ ap (λ (x : ℕ). c.byte.new.self ++ decimal x) c.from.ensures), omega arith)
