-- What the scope says of each case of what is settled of a sheet.
use Rattle.std.specs.Prelude.{Bool, true, false, ℕ, ℤ, pos, Ok, Err}
use Rattle.layout.specs.Editions as editions
use Rattle.matrix.specs.Refusals.{number, number_of, place_of, slack_of}
use Rattle.matrix.specs.declared.refusals.Reason.TheVariants.{NoPairing}
use Rattle.sheet.specs.declared.State.{State}
use Rattle.sheet.specs.declared.Unpaired.TheVariants.{Refused, Blocked}
use Rattle.sheet.specs.Settle.{fresh, Outcome}

-- Number, place and slack of a refusal, all 0 where the sheet is accepted; edition, rows, side and total; whether rows are shown, and the rows that 20 shows.
pub record ReplyValues : Type 0 where
  pub accepted : Bool
  pub number : ℕ
  pub place : ℕ
  pub slack : ℤ
  pub edition : ℕ
  pub row_count : ℕ
  pub side : ℕ
  pub total : ℤ
  pub shown : Bool
  pub rows : ℕ

-- "A refusal has total 0, counts 0, a place". "20 is tested last, place 0".
abbrev pub reply_values : Outcome → ReplyValues
reply_values (Ok s) =
    record { accepted = true; number = 0; place = 0; slack = pos 0; edition = editions.number s.edition; row_count = s.row_count; side = s.side; total = s.total; shown = false; rows = 0 }
reply_values (Err (Refused refusal)) =
    record { accepted = false; number = number_of refusal; place = place_of refusal; slack = slack_of refusal; edition = 0; row_count = 0; side = 0; total = pos 0; shown = false; rows = 0 }
reply_values (Err (Blocked rows)) =
    record { accepted = false; number = number NoPairing; place = 0; slack = pos 0; edition = 0; row_count = 0; side = 0; total = pos 0; shown = true; rows = rows }

-- The arrays that are left: nothing stands in them where no night is settled.
abbrev pub state_left : Outcome → State
state_left (Ok s) = s.state
state_left (Err unpaired) = fresh

-- The values of the reply, and the arrays.
pub record SettledValues : Type 0 where
  pub values : ReplyValues
  pub state : State

abbrev pub settled_values : Outcome → SettledValues
settled_values o = record { values = reply_values o; state = state_left o }
