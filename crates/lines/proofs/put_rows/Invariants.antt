-- `put_rows` writes a line for each row: after i of them the first i stand there. Assumes nothing.
use mathlib.Core.Path.{◌≡◌}
use mathlib.Core.List.{◌++◌}
use Prim.Native.Nat.{◌+◌, ◌*◌, ◌≤◌}
use lib.ListN.{length}
use Rattle.lines.specs.Lines.{row_lines}
use Rattle.lines.proofs.put_rows.Given as goal

abbrev pub invariant-loop-i : goal.invariant-loop-i
invariant-loop-i l = (l.text ≡ l.initial.text ++ row_lines l.n l.costs l.cols l.i) × (length l.text ≤ length l.initial.text + 64 * l.i)
