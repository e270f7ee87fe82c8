-- `tests`: after 15 the costs lie within the sheet. Assumes nothing.
use mathlib.Core.Path.{sym, ◌∙◌}
use Rattle.sheet.proofs.Passing.{pointed_passed}
use Rattle.sheet.proofs.reading.tests.Goals as goal

pub note_fit-requires : goal.note_fit-requires
note_fit-requires c =
    (pointed_passed c.args.sheet.now c.in_ok-shape.ensures.1.long (sym c.pointed.ensures ∙ c.in_ok-pointed.was)).1
