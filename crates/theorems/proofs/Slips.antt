-- From bytes to a least pairing. Where a sheet is accepted, the bytes of its slip say columns, prices and a total; the checker accepts these
-- columns and prices on the sheet's costs with that total, and so no pairing of them has a smaller one. Assumes nothing.
use mathlib.Core.Path.{◌≡◌, sym, ap, ◌∙◌, subst}
use mathlib.Core.Bool.{Bool, true, false, cond, not}
use mathlib.Core.List.{List, ◌++◌}
use Prim.Native.Nat.{ℕ, ◌*◌, ◌/◌, ◌^◌, ◌≤◌, ◌<◌}
use native.Mathlib.Nat.{mul-le-mul_right}
use native.Mathlib.Omega.{arith}
use borrow.Author.Tests.{le-ltb}
use lib.IntN.{ℤ, pos, negsuc}
use lib.ListN.{length, take, drop, get_or-replicate}
use lib.Seq.{take_at, take_all, length-take-le, get_or-take}
use lib.Signed.{mag}
use Rattle.ints.specs.Parts.{Within}
use Rattle.ints.proofs.Ranges.{within_mono}
use Rattle.lists.specs.Permutations.{at}
use Rattle.lists.specs.Counts.{bit_of}
use Rattle.lists.proofs.BitSets.{bit_none}
use Rattle.layout.specs.Trailers.{slip_mark, trailer, has_row_count}
use Rattle.layout.specs.Slips.{row_count, slip_distance, slip_of, slip_length, slip_columns, slip_row_prices, slip_column_prices, slip_total, Held}
use Rattle.layout.proofs.Slips.{length-slip_of, slip_columns_lem, slip_row_prices_lem, slip_column_prices_lem, slip_total_lem}
use Rattle.assignment.specs.Pairings.{Night, Least, Named, total, signed_at}
use Rattle.assignment.specs.Pairings as pairings
use Rattle.bars.specs.Tests.{barred_most}
use Rattle.bars.proofs.FilledCosts.{filled_costs_length}
use Rattle.bars.proofs.Passed.{bars_clear_lem}
use Rattle.matrix.specs.Limits.{K}
use Rattle.std.specs.Prelude.{Ok}
use Rattle.matrix.proofs.SmallLimits.{sheet_side_within, K_small}
use Rattle.matrix.proofs.Verdicts.{then_iff}
use Rattle.rules.specs.Run.{Result}
use Rattle.rules.specs.Right.{Right}
use Rattle.rules.proofs.Run.{right_within_ten}
use Rattle.checker.specs.Check.{check, check_barred, check_oblong}
use Rattle.checker.proofs.Oblong.{accepted_oblong_iff}
use Rattle.sheet.specs.Reading.{has_bars, Laid, night, read}
use Rattle.sheet.specs.Settle.{solved_costs, found, barred_row, Delivery, blocked_as, slip_as, paired_as, pair}
use Rattle.sheet.proofs.Solver as solver
use Rattle.sheet.proofs.Editions.{cost_most_within}
use Rattle.sheet.proofs.Pairing.{Readable}
use Rattle.sheet.proofs.Nights.{sheet_night, readable, owed, costs_near, night_feasible, night_pairing, night_tight, night_spares, night_least, night_total}
use Rattle.theorems.proofs.Accepted.{run_accepted, run_barred_accepted}

-- What lies within a bound below 2^63 fits eight bytes.
fits_eight : (B : ℕ) (z : ℤ) → B < 2 ^ 63 → Within B z → mag z < 256 ^ 8 / 2
fits_eight B (pos m) h w = omega arith
fits_eight B (negsuc m) h w = omega arith

-- A sheet that reads as a night with a pairing: no pair of the K-filled square is barred.
module _ (sheet room : List ℕ) (laid : Laid) (e : read (length room) sheet ≡ night laid) (free : laid.side ≤ barred_row laid) where
  abbrev m : ℕ
  m = laid.row_count

  abbrev n : ℕ
  n = laid.side

  abbrev edition : ℕ
  edition = laid.edition

  abbrev a : Result
  a = found laid

  abbrev fits : Readable (length room) laid
  fits = readable sheet (length room) laid e

  abbrev right : Right n (solved_costs laid) K a
  right = owed sheet (length room) laid e

  abbrev its : Night
  its = sheet_night sheet (length room) laid e

  -- The columns and row prices of the night's rows.
  abbrev cols : List ℕ
  cols = take m a.cols

  abbrev prices_of_rows : List ℤ
  prices_of_rows = take m a.prices_of_rows

  pub cols_size : length cols ≡ m
  cols_size = length-take-le m a.cols (omega (arith, right.cols_size, fits.fewer))

  pub row_prices_size : length prices_of_rows ≡ m
  row_prices_size = length-take-le m a.prices_of_rows (omega (arith, right.row_prices_size, fits.fewer))

  pub row_price : (i : ℕ) → i < m → signed_at prices_of_rows i ≡ signed_at a.prices_of_rows i
  row_price i l = get_or-take m a.prices_of_rows i (pos 0) l

  pub near : (i : ℕ) → i < m → Within (10 * K) (signed_at prices_of_rows i)
  near i l = rw (row_price i l) ((right_within_ten n (solved_costs laid) K a right).0 i (omega (arith, fits.fewer)))

  held : Held m n cols prices_of_rows a.prices_of_columns a.total
  held = record {
    columns = cols_size;
    rows = row_prices_size;
    prices = right.column_prices_size;
    column_fits = λ i l. rw (get_or-take m a.cols i 0 l) (omega (arith, right.named.inside i (omega (arith, fits.fewer)), fits.few));
    row_price_fits = λ i l. fits_eight (10 * K) _ (omega (arith, K_small)) (near i l);
    column_price_fits = λ j l. fits_eight (10 * K) _ (omega (arith, K_small)) ((right_within_ten n (solved_costs laid) K a right).1 j l);
    total_fits = fits_eight (n * K) _ (omega (arith, K_small, mul-le-mul_right K fits.few)) right.total_near;
  }

  -- What follows the slip's body.
  abbrev end : List ℕ
  end = row_count edition m ++ trailer (slip_distance edition m n) n edition slip_mark

  -- The bytes that are written: the front of the room.
  abbrev slip : List ℕ
  slip = take (slip_length edition m n) (pair sheet room).slip

  pub slip_is : slip ≡ slip_of edition m n cols prices_of_rows a.prices_of_columns a.total
  unfolding pair
  slip_is =
      ap (λ (o : Delivery). take (slip_length edition m n) o.slip) (ap (paired_as room) e ∙ ap (λ (t : Bool). cond t (blocked_as room laid) (slip_as room laid)) (le-ltb (barred_row laid) n free))
      ∙ take_at (slip_of edition m n cols prices_of_rows a.prices_of_columns a.total) (drop (slip_length edition m n) room) (slip_length edition m n)
      (length-slip_of edition m n cols prices_of_rows a.prices_of_columns a.total cols_size row_prices_size right.column_prices_size)

  pub columns_are : slip_columns m slip ≡ cols
  columns_are = ap (slip_columns m) slip_is ∙ slip_columns_lem m n cols prices_of_rows a.prices_of_columns a.total held end

  pub row_prices_are : slip_row_prices m slip ≡ prices_of_rows
  row_prices_are = ap (slip_row_prices m) slip_is ∙ slip_row_prices_lem m n cols prices_of_rows a.prices_of_columns a.total held end

  pub column_prices_are : slip_column_prices m n slip ≡ a.prices_of_columns
  column_prices_are = ap (slip_column_prices m n) slip_is ∙ slip_column_prices_lem m n cols prices_of_rows a.prices_of_columns a.total held end

  pub total_is : slip_total m n slip ≡ a.total
  total_is = ap (slip_total m n) slip_is ∙ slip_total_lem m n cols prices_of_rows a.prices_of_columns a.total held end

  -- No pairing of the sheet's night has a smaller total than the slip's.
  pub slip_least : Least its (slip_columns m slip)
  slip_least = rw columns_are (night_least sheet (length room) laid e free)

  pub slip_states_total : slip_total m n slip ≡ total its (slip_columns m slip)
  slip_states_total = total_is ∙ night_total sheet (length room) laid e free ∙ ap (total its) (sym columns_are)

  -- As many rows as columns: the checker accepts what the slip says on the costs with K on barred places, with the total that it says, under any rows
  -- that the slip's columns name back; and the checker with bars on the sheet's own costs and bars, where the edition has some.
  module _ (uncounted : has_row_count edition ≡ false) where
    square : m ≡ n
    square = fits.square uncounted

    all_columns : cols ≡ a.cols
    all_columns = take_all m a.cols (omega (arith, right.cols_size, square))

    all_row_prices : prices_of_rows ≡ a.prices_of_rows
    all_row_prices = take_all m a.prices_of_rows (omega (arith, right.row_prices_size, square))

    pub slip_accepted : (rows : List ℕ) → n ≤ length rows → Named (pairings.square n (solved_costs laid)) (slip_columns m slip) rows
        → check n (solved_costs laid) (slip_columns m slip) rows (slip_row_prices m slip) (slip_column_prices m n slip) ≡ Ok (slip_total m n slip)
    slip_accepted =
        rw (columns_are, row_prices_are, column_prices_are, total_is, all_columns, all_row_prices)
        (run_accepted n (solved_costs laid) (omega (arith, fits.small, sheet_side_within)) (filled_costs_length n (pos K) laid.costs laid.bars)
        (solver.filled_within_all edition m n laid.costs laid.bars fits.filled fits.rows fits.fewer fits.small fits.passes))

    pub slip_barred_accepted : has_bars edition ≡ true → (rows : List ℕ) → n ≤ length rows → Named (pairings.square n (solved_costs laid)) (slip_columns m slip) rows
        → check_barred n laid.costs (slip_columns m slip) rows (slip_row_prices m slip) (slip_column_prices m n slip) laid.bars ≡ Ok (slip_total m n slip)
    slip_barred_accepted bars =
        rw (columns_are, row_prices_are, column_prices_are, total_is, all_columns, all_row_prices)
        (run_barred_accepted n laid.costs laid.bars fits.small (fits.filled ∙ ap (λ (k : ℕ). k * n) square) (omega (arith, fits.rows))
        (λ k l. subst (λ (c : ℕ). Within c (signed_at laid.costs k)) (ap (λ (t : Bool). cond t barred_most K) bars) (costs_near sheet (length room) laid e k l))
        ((bars_clear_lem n laid.bars).0 ((then_iff _ _).0 fits.passes).1) free)

  -- Without bars, and with as many columns as rows or more: the checker of oblong nights accepts it.
  module _ (unbarred : has_bars edition ≡ false) where
    plain : (i j : ℕ) → i < m → its.allowed i j ≡ true
    plain i j l =
        let none : at laid.bars i ≡ 0 = ap (λ (b : List ℕ). at b i) (fits.unbarred unbarred) ∙ get_or-replicate {A = ℕ} n i 0 0 (omega (arith, fits.fewer)) in
        ap (λ (b : ℕ). not (bit_of b j)) none ∙ ap not (bit_none j)

    pub slip_oblong_accepted : check_oblong m n laid.costs (slip_columns m slip) (slip_row_prices m slip) (slip_column_prices m n slip) ≡ Ok (slip_total m n slip)
    slip_oblong_accepted =
        rw (columns_are, row_prices_are, column_prices_are, total_is)
        (let p = night_pairing sheet (length room) laid e free in
        let tight = night_tight sheet (length room) laid e free in
        let fair = night_feasible sheet (length room) laid e free in
        (accepted_oblong_iff m n laid.costs cols prices_of_rows a.prices_of_columns).1 (
          record {
            small = fits.small;
            fits = fits.fewer;
            filled = fits.filled;
            columns_listed = omega (arith, cols_size);
            within = λ k l. within_mono (cost_most_within edition) (costs_near sheet (length room) laid e k l);
            inside = p.inside;
            once = p.apart;
          },
          record {
            row_prices = record { enough = omega (arith, row_prices_size); within = near };
            column_prices = record { enough = omega (arith, right.column_prices_size); within = (right_within_ten n (solved_costs laid) K a right).1 };
            feasible = record { under = λ i j hi hj h. rw (row_price i hi) (fair.under i j hi hj (plain i j hi)) };
          },
          record { met = λ i l. rw (row_price i l) (tight.met i l) },
          record { not_below = (night_spares sheet (length room) laid e free).not_below },
          night_total sheet (length room) laid e free,
        ))
