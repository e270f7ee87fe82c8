use mir.Syntax.{w64}
use Rattle.layout.proofs.LittleEndian.{part_read}
use Rattle.layout.proofs.field.U64Field.read.Goals as goal

pub returns : goal.returns
returns c = part_read w64 c.args.at c.args.bytes.now c.bytes_at.ensures c.requires c.from_le_bytes.ensures
