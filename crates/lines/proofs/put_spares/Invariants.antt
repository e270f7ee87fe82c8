-- `put_spares` writes a line for each spare column: after j columns those of the first j stand there. Assumes nothing.
use mathlib.Core.Path.{◌≡◌}
use mathlib.Core.List.{◌++◌}
use Prim.Native.Nat.{◌+◌, ◌*◌, ◌≤◌}
use lib.ListN.{length}
use Rattle.lines.specs.Lines.{spare_lines}
use Rattle.lines.proofs.put_spares.Given as goal

abbrev pub invariant-loop-j : goal.invariant-loop-j
invariant-loop-j l = (l.text ≡ l.initial.text ++ spare_lines l.m l.cols l.j) × (length l.text ≤ length l.initial.text + 27 * l.j)
