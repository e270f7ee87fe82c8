-- `put_rows` adds a line a turn. Assumes nothing.
use mathlib.Core.Path.{ap, ◌∙◌}
use mathlib.Core.List.{◌++◌}
use Prim.Native.Nat.{◌+◌, ◌*◌, ◌^◌, ◌<◌}
use native.Mathlib.Omega.{arith}
use lib.IntN.{ℤ}
use lib.Signed.{mag}
use mir.Syntax.{w32}
use Rattle.ints.proofs.Bits.{read_back}
use Rattle.lists.specs.Permutations.{at}
use Rattle.assignment.specs.Pairings.{signed_at}
use Rattle.lines.specs.Lines.{row_line}
use Rattle.lines.proofs.Pieces.{rows_start, rows_more}
use Rattle.lines.proofs.put_rows.Goals as goal

pub loop-i-init : goal.loop-i-init
loop-i-init c = let u = c.args in (rows_start u.text.now u.n u.costs.now u.cols.now, omega arith)

pub loop-i-preserved : goal.loop-i-preserved
loop-i-preserved c =
    let u = c.args in
    let l = c.loop-i in
    let j = at u.cols.now l.i in
    let z = signed_at u.costs.now (l.i * u.n + j) in
    let fits : mag z < 2 ^ 31 = omega arith in
    (rows_more u.text.now u.n u.costs.now u.cols.now l.i l.invariant.0 (c.put_row.ensures.line ∙ ap (λ (y : ℤ). l.text ++ row_line l.i j y) (read_back w32 z fits)), omega arith)
