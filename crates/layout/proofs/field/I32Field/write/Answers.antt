use mathlib.Core.Path.{ap, ◌∙◌}
use lib.Seq.{sets}
use mir.Syntax.{w32}
use Rattle.layout.proofs.LittleEndian.{signed_written}
use Rattle.layout.proofs.field.I32Field.write.Goals as goal

pub returns : goal.returns
returns c = c.put_bytes.ensures ∙ ap (sets c.args.room.now c.args.at) (c.to_le_bytes.ensures ∙ signed_written w32 c.ranges.self)
