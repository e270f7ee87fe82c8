-- The night that lies on a sheet, and what the rules' answer on its square owes it: where no pair is barred, the first rows of that answer are a pairing
-- of the night, least, with prices that show it. For every edition. Assumes nothing.
use mathlib.Core.Path.{◌≡◌, refl, ap, ◌∙◌, subst}
use mathlib.Core.Bool.{Bool, true, false}
use mathlib.Core.List.{List}
use Prim.Native.Nat.{ℕ, ◌≤◌, ◌<◌}
use native.Mathlib.Omega.{arith}
use lib.IntN.{pos}
use lib.ListN.{length, take, get_or-replicate}
use Rattle.ints.specs.Parts.{Within}
use Rattle.lists.specs.Permutations.{at}
use Rattle.layout.specs.Trailers.{has_row_count}
use Rattle.assignment.specs.Pairings.{Night, Pairing, Least, total, signed_at}
use Rattle.assignment.specs.Prices.{Feasible, Tight, SparesNotBelow}
use Rattle.bars.specs.Barred.{night_of}
use Rattle.bars.proofs.Barred as bars
use Rattle.bars.proofs.Padded as padded
use Rattle.matrix.specs.Limits.{K}
use Rattle.matrix.proofs.Passed.{costs_in_lem}
use Rattle.matrix.proofs.Verdicts.{then_iff}
use Rattle.rules.specs.Run.{Result}
use Rattle.rules.specs.Right.{Right}
use Rattle.sheet.specs.Reading.{cost_most, Laid, night, read}
use Rattle.sheet.specs.Settle.{solved_costs, found, barred_row}
use Rattle.sheet.proofs.Editions.{counted_unbarred}
use Rattle.sheet.proofs.Solver as solver
use Rattle.sheet.proofs.Pairing.{Readable, read_right}
use Rattle.sheet.proofs.Pairing as pairing

module _ (sheet : List ℕ) (room : ℕ) (laid : Laid) (e : read room sheet ≡ night laid) where
  abbrev m : ℕ
  m = laid.row_count

  abbrev n : ℕ
  n = laid.side

  abbrev a : Result
  a = found laid

  abbrev pub sheet_night : Night
  sheet_night = night_of m n laid.costs laid.bars

  pub readable : Readable room laid
  readable = subst (pairing.ReadRight room sheet) e (read_right room sheet)

  pub owed : Right n (solved_costs laid) K a
  owed = solver.owed laid.edition m n laid.costs laid.bars readable.filled readable.rows readable.fewer readable.small readable.passes

  pub costs_near : (k : ℕ) → k < length laid.costs → Within (cost_most laid.edition) (signed_at laid.costs k)
  costs_near = (costs_in_lem (cost_most laid.edition) laid.costs).0 ((then_iff _ _).0 readable.passes).0

  -- No row below the night's has a bar: rows are fewer than columns only where no bar is.
  below : (i : ℕ) → m ≤ i → i < n → at laid.bars i ≡ 0
  below i h l = by (has_row_count laid.edition) refl
    where
      by : (t : Bool) → has_row_count laid.edition ≡ t → at laid.bars i ≡ 0
      by true c = ap (λ (b : List ℕ). at b i) (readable.unbarred (counted_unbarred laid.edition c)) ∙ get_or-replicate {A = ℕ} n i 0 0 l
      by false c = absurd (omega (arith, readable.square c))

  -- No pair of the K-filled square is barred.
  module _ (free : n ≤ barred_row laid) where
    square_feasible : Feasible (night_of n n laid.costs laid.bars) a.prices_of_rows a.prices_of_columns
    square_feasible = bars.barred_feasible n (pos K) laid.costs laid.bars a.prices_of_rows a.prices_of_columns owed.feasible

    square_pairing : Pairing (night_of n n laid.costs laid.bars) a.cols
    square_pairing = bars.barred_pairing n (pos K) laid.costs laid.bars a.cols owed.pairing free

    square_tight : Tight (night_of n n laid.costs laid.bars) a.prices_of_rows a.prices_of_columns a.cols
    square_tight = bars.barred_tight n (pos K) laid.costs laid.bars a.cols owed.pairing free a.prices_of_rows a.prices_of_columns owed.tight

    pub night_feasible : Feasible sheet_night a.prices_of_rows a.prices_of_columns
    night_feasible = padded.rows_feasible m n laid.costs laid.bars readable.filled readable.fewer below a.prices_of_rows a.prices_of_columns square_feasible

    pub night_pairing : Pairing sheet_night (take m a.cols)
    night_pairing = padded.rows_pairing m n laid.costs laid.bars readable.filled readable.fewer below a.prices_of_rows a.prices_of_columns square_feasible a.cols square_pairing square_tight

    pub night_tight : Tight sheet_night a.prices_of_rows a.prices_of_columns (take m a.cols)
    night_tight = padded.rows_tight m n laid.costs laid.bars readable.filled readable.fewer below a.prices_of_rows a.prices_of_columns square_feasible a.cols square_pairing square_tight

    pub night_spares : SparesNotBelow sheet_night a.prices_of_columns (take m a.cols)
    night_spares = padded.rows_spares m n laid.costs laid.bars readable.filled readable.fewer below a.prices_of_rows a.prices_of_columns square_feasible a.cols square_pairing square_tight

    -- What is paired, in the slip and in the program's lines, is least among the pairings of the night.
    pub night_least : Least sheet_night (take m a.cols)
    night_least = padded.rows_least m n laid.costs laid.bars readable.filled readable.fewer below a.prices_of_rows a.prices_of_columns square_feasible a.cols square_pairing square_tight

    pub night_total : a.total ≡ total sheet_night (take m a.cols)
    night_total =
        owed.total_is ∙ bars.barred-total n (pos K) laid.costs laid.bars a.cols owed.pairing free
        ∙ padded.rows_total m n laid.costs laid.bars readable.filled readable.fewer below a.prices_of_rows a.prices_of_columns square_feasible a.cols square_pairing square_tight
