-- The auditor's tool accepts every slip that the sheet entry wrote, of every edition, with the total that it says. Assumes nothing.
use mathlib.Core.Path.{◌≡◌, ap, ◌∙◌}
use mathlib.Core.Bool.{false}
use mathlib.Core.List.{List}
use Prim.Native.Nat.{ℕ, ◌≤◌}
use native.Mathlib.Omega.{arith}
use lib.IntN.{ℤ}
use lib.ListN.{length, take}
use Rattle.layout.specs.Slips.{slip_length}
use Rattle.assignment.specs.Pairings.{Night}
use Rattle.matrix.specs.Limits.{K}
use Rattle.matrix.specs.Verdicts.{Passes}
use Rattle.rules.specs.Run.{Result}
use Rattle.rules.specs.Right.{Right}
use Rattle.rules.proofs.Run.{right_within_ten}
use Rattle.checker.specs.Proven.{Fair}
use Rattle.sheet.specs.Reading.{Laid, night, read}
use Rattle.sheet.specs.Settle.{solved_costs, found, barred_row, pair}
use Rattle.sheet.proofs.Pairing.{Readable}
use Rattle.sheet.proofs.Nights.{sheet_night, readable, owed, night_feasible, night_pairing, night_tight, night_spares}
use Rattle.audit.specs.Audit.{holds, unlike, slip_tests, audit}
use Rattle.audit.proofs.Checking.{proof_tests_iff}
use Rattle.audit.proofs.Holding.{slip_like, read_edition, read_larger, accepted_holds}
use Rattle.theorems.proofs.Slips.{cols_size, row_prices_size, row_price, near, slip_is, columns_are, row_prices_are, column_prices_are, total_is, slip_states_total}

-- A sheet that reads as a night with a pairing.
module _ (sheet room : List ℕ) (laid : Laid) (e : read (length room) sheet ≡ night laid) (free : laid.side ≤ barred_row laid) where
  abbrev m : ℕ
  m = laid.row_count

  abbrev n : ℕ
  n = laid.side

  abbrev a : Result
  a = found laid

  abbrev fits : Readable (length room) laid
  fits = readable sheet (length room) laid e

  abbrev right : Right n (solved_costs laid) K a
  right = owed sheet (length room) laid e

  abbrev its : Night
  its = sheet_night sheet (length room) laid e

  abbrev cols : List ℕ
  cols = take m a.cols

  abbrev prices_of_rows : List ℤ
  prices_of_rows = take m a.prices_of_rows

  -- The bytes that are written: the front of the room.
  abbrev slip : List ℕ
  slip = take (slip_length laid.edition m n) (pair sheet room).slip

  like : unlike laid.edition m n slip ≡ false
  like =
      ap (unlike laid.edition m n) (slip_is sheet room laid e free)
      ∙ slip_like laid.edition m n cols prices_of_rows a.prices_of_columns a.total fits.fewer fits.few (read_edition (length room) sheet laid e)
      (cols_size sheet room laid e free) (row_prices_size sheet room laid e free) right.column_prices_size

  fair : Fair its prices_of_rows a.prices_of_columns
  fair =
      let feasible = night_feasible sheet (length room) laid e free in
      record {
        row_prices = record { enough = omega (arith, row_prices_size sheet room laid e free); within = near sheet room laid e free };
        column_prices = record { enough = omega (arith, right.column_prices_size); within = (right_within_ten n (solved_costs laid) K a right).1 };
        feasible = record { under = λ i j hi hj h. rw (row_price sheet room laid e free i hi) (feasible.under i j hi hj h) };
      }

  passed : Passes (slip_tests m n laid.costs laid.bars slip)
  passed =
      rw (columns_are sheet room laid e free, row_prices_are sheet room laid e free, column_prices_are sheet room laid e free)
      (let tight = night_tight sheet (length room) laid e free in
      (proof_tests_iff m n laid.costs laid.bars cols prices_of_rows a.prices_of_columns (cols_size sheet room laid e free) (row_prices_size sheet room laid e free)
      right.column_prices_size).1 (
        night_pairing sheet (length room) laid e free,
        fair,
        record { met = λ i l. rw (row_price sheet room laid e free i l) (tight.met i l) },
        night_spares sheet (length room) laid e free,
      ))

  -- "it accepts every slip that the sheet entry wrote".
  pub slip_holds : audit sheet slip ≡ holds n a.total
  slip_holds =
      accepted_holds sheet slip laid (read_larger (length room) sheet laid e) like passed (slip_states_total sheet room laid e free)
      ∙ ap (holds n) (total_is sheet room laid e free)
