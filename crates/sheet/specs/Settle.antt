-- What comes of a sheet: its night solved, the slip, and what the front desk gets and finds in the slip's room.
use Rattle.std.specs.Prelude.{cond, List, ◌++◌, ℕ, ◌*◌, ltb, ℤ, pos, length, take, drop, replicate, Result, Ok, Err}
use Rattle.layout.specs.Editions.{named}
use Rattle.layout.specs.Values.{bytes_of}
use Rattle.layout.specs.Slips.{slip_of, slip_length}
use Rattle.matrix.specs.Limits.{K}
use Rattle.matrix.specs.Refusals.{number, code_of}
use Rattle.matrix.specs.declared.refusals.Reason.TheVariants.{NoPairing}
use Rattle.bars.specs.Barred.{first_barred, filled_costs}
use Rattle.bars.specs.Masks.{shown_rows}
use Rattle.rules.specs.Run as run
use Rattle.lapjv.specs.Answers.{answer}
use Rattle.lapjv.specs.Solve as lapjv
use Rattle.sheet.specs.declared.State.{State}
use Rattle.sheet.specs.declared.Unpaired.{Unpaired}
use Rattle.sheet.specs.declared.Unpaired.TheVariants.{Refused, Blocked}
use Rattle.sheet.specs.declared.Settled.{Settled}
use Rattle.sheet.specs.Reading.{Laid, Read, refused, night, read}

-- "it lends no work room, so the state holds its own arrays": for a side of 64, all 0 at first.
abbrev pub fresh : State
fresh = record {
  costs = replicate 4096 (pos 0);
  bars = replicate 64 0;
  cols = replicate 64 0;
  rows = replicate 64 0;
  row_prices = replicate 64 (pos 0);
  col_prices = replicate 64 (pos 0);
  indices = replicate 256 0;
  numbers = replicate 64 (pos 0);
}

-- What a state lends to the solver.
abbrev pub lent : State → lapjv.Lent
lent s = lapjv.lent_of s.cols s.rows s.row_prices s.col_prices s.indices s.numbers

-- A state of costs, bars and what is lent.
abbrev pub state_of : List ℤ → List ℕ → lapjv.Lent → State
state_of costs bars l = record {
  costs = costs;
  bars = bars;
  cols = l.cols;
  rows = l.rows;
  row_prices = l.prices_of_rows;
  col_prices = l.prices_of_columns;
  indices = l.indices;
  numbers = l.numbers;
}

-- "columns and prices are those of document 01's rules with cost K on barred places", and "with n-m rows of zeros added below": past the end of the
-- costs stands 0. The n*n costs that are solved, and the answer.
abbrev pub solved_costs : Laid → List ℤ
solved_costs laid = filled_costs laid.side (pos K) laid.costs laid.bars

abbrev pub found : Laid → run.Result
found laid = answer laid.side (solved_costs laid)

-- The first row that is paired at a barred place, or the side; and, where there is one, the set of rows that is shown.
abbrev pub barred_row : Laid → ℕ
barred_row laid = first_barred laid.side laid.bars (found laid).cols

abbrev pub rows_shown : Laid → ℕ
rows_shown laid = shown_rows laid.side laid.bars (found laid).cols

-- The state in which a night ends: costs, bars and answer stand at the front of the arrays, all else is 0.
abbrev pub ended : Laid → State
ended laid =
    let n = laid.side in
    state_of (solved_costs laid ++ drop (n * n) fresh.costs) (laid.bars ++ drop n fresh.bars) (lapjv.paired n (lent fresh) (found laid)).lent

-- What is settled of a sheet, or why nothing is.
abbrev pub Outcome : Type 0
Outcome = Result Settled Unpaired

-- The two ways in which a night ends: rows that show that it has no pairing, or edition, rows, side, total and the arrays.
abbrev pub blocked_with : Laid → Outcome
blocked_with laid = Err (Blocked (rows_shown laid))

abbrev pub accepted_with : Laid → Outcome
accepted_with laid = Ok (record { edition = named laid.edition; row_count = laid.row_count; side = laid.side; total = (found laid).total; state = ended laid })

-- What is settled of a sheet as it was read. "Refuse with 20 exactly if there is none."
abbrev pub settled_as : Read → Outcome
settled_as (refused refusal) = Err (Refused refusal)
settled_as (night laid) = cond (ltb (barred_row laid) laid.side) (blocked_with laid) (accepted_with laid)

-- A sheet settled, for a slip room of so many bytes.
unfoldable pub settled : ℕ → List ℕ → Outcome
settled room sheet = settled_as (read room sheet)

-- What the front desk gets and finds: "0, or number + 256*place", and the slip's room.
pub record Delivery : Type 0 where
  pub number : ℕ
  pub slip : List ℕ

-- 20, "the one refusal under demand 1 that writes": its set of rows "goes as 8 bytes at the start of the slip room, the rest unchanged".
abbrev pub blocked_as : List ℕ → Laid → Delivery
blocked_as room laid = record { number = number NoPairing; slip = bytes_of 8 (rows_shown laid) ++ drop 8 room }

-- The slip of a night at the front of its room, of its m rows: "Slip room past 18n+20 is untouched." "A slip carries its sheet's edition."
abbrev pub slip_as : List ℕ → Laid → Delivery
slip_as room laid =
    let a = found laid in
    let m = laid.row_count in
    let n = laid.side in
    record { number = 0; slip = slip_of laid.edition m n (take m a.cols) (take m a.prices_of_rows) a.prices_of_columns a.total ++ drop (slip_length laid.edition m n) room }

-- Any other refusal writes nothing.
abbrev pub paired_as : List ℕ → Read → Delivery
paired_as room (refused refusal) = record { number = code_of refusal; slip = room }
paired_as room (night laid) = cond (ltb (barred_row laid) laid.side) (blocked_as room laid) (slip_as room laid)

-- The entry, on the sheet's bytes and the slip's room.
unfoldable pub pair : List ℕ → List ℕ → Delivery
pair sheet room = paired_as room (read (length room) sheet)
