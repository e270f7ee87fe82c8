use mathlib.Core.Path.{ap, ◌∙◌}
use lib.Seq.{sets}
use mir.Syntax.{w64}
use Rattle.layout.proofs.LittleEndian.{written}
use Rattle.layout.proofs.field.U64Field.write.Goals as goal

pub returns : goal.returns
returns c = c.put_bytes.ensures ∙ ap (sets c.args.room.now c.args.at) (c.to_le_bytes.ensures ∙ written w64 c.args.self)
