-- `put_columns` writes one column after another. Assumes nothing.
use mathlib.Core.Path.{◌≡◌}
use mathlib.Core.List.{◌++◌}
use Prim.Native.Nat.{◌+◌, ◌*◌, ◌≤◌}
use lib.ListN.{length}
use Rattle.lines.specs.Lines.{columns_text}
use Rattle.lines.proofs.put_columns.Given as goal

abbrev pub invariant-loop-column : goal.invariant-loop-column
invariant-loop-column l = (l.text ≡ l.initial.text ++ columns_text l.cols l.column-index) × (length l.text ≤ length l.initial.text + 21 * l.column-index)
