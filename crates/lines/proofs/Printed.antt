-- The promise of `print`: it determines what a caller gets and finds, and the count lies within the room; and no sheet is refused for its slip's
-- room. Assumes nothing.
use mathlib.Core.Path.{◌≡◌, sym, ap, ◌∙◌}
use mathlib.Core.Bool.{Bool, true, false, cond}
use mathlib.Core.List.{List}
use Prim.Native.Nat.{ℕ, ◌≤◌}
use native.Mathlib.Omega.{arith}
use borrow.Author.Tests.{le-ltb}
use lib.ListN.{length, drop, length-append}
use Rattle.layout.specs.Slips.{slip_length}
use Rattle.layout.specs.Trailers.{has_row_count, side_of, edition_of}
use Rattle.matrix.specs.Limits.{sheet_side}
use Rattle.matrix.specs.Verdicts.{Passes, ◌then◌}
use Rattle.matrix.proofs.Verdicts.{fails_if_iff}
use Rattle.sheet.specs.Reading.{rows_of, trailed, rows_fit, room_long}
use Rattle.sheet.proofs.Passing.{rows_passed}
use Rattle.lines.specs.Lines.{output, Printed, printed}

pub print_determined : (sheet room : List ℕ) (answer other : Printed) → answer ≡ printed sheet room → other ≡ printed sheet room → answer ≡ other
print_determined sheet room answer other e f = e ∙ sym f

pub count_within : (sheet room : List ℕ) (answer : Printed) → answer ≡ printed sheet room → answer.count ≤ length answer.room
unfolding printed
count_within sheet room answer e =
    omega (arith, ap (λ (p : Printed). p.count) e, ap (λ (p : Printed). length p.room) e, length-append (output sheet) (drop (length (output sheet)) room))

-- 16 does not arise: a slip of any edition, rows and side is at most as long as edition 3's of the most rows and columns.
pub room_enough : (sheet : List ℕ) → Passes (trailed sheet then rows_fit sheet) → Passes (room_long (slip_length 3 sheet_side sheet_side) sheet)
room_enough sheet p =
    let c = rows_passed sheet p in
    let long : slip_length (edition_of sheet) (rows_of sheet) (side_of sheet) ≤ slip_length 3 sheet_side sheet_side = omega (arith, c.fewer, c.small, by (has_row_count (edition_of sheet))) in
    (fails_if_iff _ _ _).1 (le-ltb _ _ long)
  where
    by : (t : Bool) → cond t 2 0 ≤ 2
    by true = omega arith
    by false = omega arith
