-- `total_of` answers what the listed rows cost: after i rows the total has the bits of the sum of their costs. Assumes nothing.
use mathlib.Core.Path.{◌≡◌}
use Prim.Native.Nat.{◌*◌, ◌^◌}
use Rattle.ints.specs.Parts.{Within}
use Rattle.matrix.specs.Cost.{total_of}
use Rattle.matrix.proofs.total_of.Given as goal

abbrev pub invariant-loop-i : goal.invariant-loop-i
invariant-loop-i l = (l.total ≡ total_of l.n l.costs l.i l.cols) × Within (l.i * 2 ^ 31) l.total
