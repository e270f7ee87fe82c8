-- The sheet entry gives 17 for a whole over 65,536 bytes as well: so the end gives what it gives, whatever the length. Assumes nothing.
use mathlib.Core.Path.{◌≡◌, refl, ◌∙◌}
use mathlib.Core.List.{List}
use Prim.Native.Nat.{ℕ, ◌<◌}
use native.Mathlib.Decide.{dec_lt}
use native.Mathlib.Omega.{arith}
use borrow.Author.Tests.{lt-ltb, le-ltb}
use lib.ListN.{length}
use Rattle.lists.specs.Parts.{joined}
use Rattle.matrix.specs.Verdicts.{fails_by}
use Rattle.matrix.specs.Refusals.{number}
use Rattle.matrix.specs.declared.refusals.Reason.TheVariants.{SheetOver}
use Rattle.sheet.specs.Reading.{sheet_most, sheet_tests, read}
use Rattle.sheet.specs.Settle.{pair}
use Rattle.pieces.specs.Kept.{Kept, Fresh}
use Rattle.pieces.specs.Calls.{delivered, end, pieces, whole}
use Rattle.pieces.proofs.Cuts.{however_cut}

pair-over : (sheet slip : List ℕ) → sheet_most < length sheet → pair sheet slip ≡ delivered (number SheetOver) slip
unfolding pair read sheet_tests fails_by
pair-over sheet slip h = rw (lt-ltb sheet_most (length sheet) h) refl

whole_pair : (sheet slip : List ℕ) → whole sheet slip ≡ pair sheet slip
whole_pair sheet slip = by (dec_lt sheet_most (length sheet))
  where
    by : Dec (sheet_most < length sheet) → whole sheet slip ≡ pair sheet slip
    by (yes l) = rw (lt-ltb sheet_most (length sheet) l, pair-over sheet slip l) refl
    by (no l) = rw (le-ltb sheet_most (length sheet) (omega arith)) refl

-- For any pieces, taken in order on a fresh state and ended, whatever their length: what the sheet entry gives for their whole.
pub however_cut_paired : (k : Kept) → Fresh k → (sent : List (List ℕ)) (slip : List ℕ) → (end slip (pieces sent k)).delivery ≡ pair (joined sent) slip
however_cut_paired k f sent slip = however_cut k f sent slip ∙ whole_pair (joined sent) slip
