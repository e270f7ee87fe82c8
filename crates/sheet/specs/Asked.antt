-- What functions that the entries call ask for, and what those that read a sheet answer. The entries ask for nothing.
use Rattle.std.specs.Prelude.{◌≡◌, false, ◌&&◌, List, ℕ, ◌≤◌, ltb, length, Result, Ok, Err}
use Rattle.layout.specs.Editions.{number}
use Rattle.layout.specs.Trailers.{has_row_count, side_of, edition_of}
use Rattle.matrix.specs.Limits.{sheet_side}
use Rattle.matrix.specs.Verdicts.{Verdict, Passes}
use Rattle.matrix.specs.declared.refusals.Refusal.{Refusal}
use Rattle.sheet.specs.declared.shape.Shape.{Shape}
use Rattle.sheet.specs.Reading.{rows_of}

-- A sheet with a trailer, and with a row count before it where the edition has one.
pub record Ended (sheet : List ℕ) : Type 0 where
  pub long : 12 ≤ length sheet
  pub counted : (has_row_count (edition_of sheet) && ltb (length sheet) 14) ≡ false

-- Its side is within the limit, and it has at most as many rows.
pub record Counted (sheet : List ℕ) : Type 0 where
  pub ended : Ended sheet
  pub small : side_of sheet ≤ sheet_side
  pub fewer : rows_of sheet ≤ side_of sheet

-- What tests answer that say more of what they pass: what holds of that, or the refusal.
abbrev pub Gives : {A : Type 0} → Verdict → (A → Type 0) → Result A Refusal → Type 0
Gives verdict P (Ok a) = Passes verdict × P a
Gives verdict P (Err refusal) = verdict ≡ Err refusal

-- A sheet has this shape, and a trailer that says so.
pub record Shaped (sheet : List ℕ) (shape : Shape) : Type 0 where
  pub long : 12 ≤ length sheet
  pub edition : number shape.edition ≡ edition_of sheet
  pub rows : shape.row_count ≡ rows_of sheet
  pub side : shape.side ≡ side_of sheet
