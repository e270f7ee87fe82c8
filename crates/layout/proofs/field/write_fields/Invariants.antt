-- `write_fields` writes fields in order: after i of them the later ones are left. Assumes nothing.
use mathlib.Core.Path.{◌≡◌}
use mathlib.Core.List.{flat_map}
use Prim.Native.Nat.{◌+◌, ◌*◌}
use lib.ListN.{drop}
use lib.Seq.{sets}
use Rattle.layout.proofs.field.write_fields.Given as goal

abbrev pub invariant-loop-i : goal.invariant-loop-i
invariant-loop-i g l = sets l.room (l.at + l.i * g.F.Field.WIDTH) (flat_map g.F.Field.encode (drop l.i l.list)) ≡ sets l.initial.room l.at (flat_map g.F.Field.encode l.list)
