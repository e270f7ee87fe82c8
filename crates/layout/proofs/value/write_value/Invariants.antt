-- `write_value` writes the lowest bytes: after k of them, what is left to be written is the rest of the number. Assumes nothing.
use mathlib.Core.Path.{◌≡◌}
use Prim.Native.Nat.{◌+◌, ◌-◌}
use lib.Seq.{sets}
use Rattle.layout.specs.Values.{bytes_of}
use Rattle.layout.proofs.value.write_value.Given as goal

abbrev pub invariant-loop-k : goal.invariant-loop-k
invariant-loop-k l = sets l.room (l.at + l.k) (bytes_of (l.width - l.k) l.rest) ≡ sets l.initial.room l.at (bytes_of l.width l.value)
