-- `read_fields` reads fields in order: after i of them the first i stand in place. Assumes nothing.
use mathlib.Core.Path.{◌≡◌}
use lib.Seq.{sets}
use Rattle.layout.specs.Fields.{fields}
use Rattle.layout.proofs.field.read_fields.Given as goal

abbrev pub invariant-loop-i : goal.invariant-loop-i
invariant-loop-i g l = l.list ≡ sets l.initial.list 0 (fields g.F.Field.decode l.at g.F.Field.WIDTH l.i l.bytes)
