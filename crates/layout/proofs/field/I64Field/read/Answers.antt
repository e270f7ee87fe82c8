use mir.Syntax.{w64}
use Rattle.layout.proofs.LittleEndian.{signed_part_read}
use Rattle.layout.proofs.field.I64Field.read.Goals as goal

pub returns : goal.returns
returns c = signed_part_read w64 c.args.at c.args.bytes.now c.bytes_at.ensures c.requires (record { sfits = c.from_le_bytes.type_inv }) c.from_le_bytes.ensures
