-- The lines that are written lie within the room.
use Rattle.std.proofs.Common.{sym}
use Rattle.std.proofs.lemmas.List.{length-take-le}
use Rattle.lines.proofs.Printed.{count_within}
use Rattle.desk.proofs.main.Goals as goal

pub slice_bounds-room-end : goal.slice_bounds-room-end
slice_bounds-room-end c = count_within _ _ _ c.print-count.ensures

pub slice_bounds-write_all-end : goal.slice_bounds-write_all-end
slice_bounds-write_all-end c = sym (length-take-le _ _ (count_within _ _ _ c.print-count.ensures))
