-- The state in which a night ends: the first entries of its arrays are the night's solved costs, its bars and its answer. Where no pair is barred, costs
-- at allowed places are the sheet's, so that the state's lines and its second pairing are the night's. Assumes nothing.
use mathlib.Core.Path.{◌≡◌, refl, sym, ap, ap₂, ◌∙◌}
use mathlib.Core.Bool.{Bool, true, false, cond, not}
use mathlib.Core.List.{List, ◌++◌}
use Prim.Native.Nat.{ℕ, zero, suc, ◌+◌, ◌*◌, ◌≤◌, ◌<◌}
use native.Mathlib.Nat.{mul-le-mul_right}
use native.Mathlib.Omega.{arith}
use borrow.Author.Tests.{not-true}
use lib.IntN.{ℤ, pos}
use lib.ListN.{length, take, drop}
use lib.Seq.{take_at, take-take, get_or-take}
use Rattle.layout.specs.Editions.{named}
use Rattle.lists.specs.Permutations.{at}
use Rattle.lists.specs.Counts.{bit_of}
use Rattle.lists.proofs.Runs.{first_before}
use Rattle.assignment.specs.Pairings.{signed_at}
use Rattle.assignment.proofs.Longer.{tight_first, spares_first}
use Rattle.bars.specs.Barred.{night_of}
use Rattle.bars.proofs.FilledCosts.{filled-place, filled_costs_length, filled_costs_at}
use Rattle.matrix.specs.Limits.{K}
use Rattle.matrix.proofs.Places.{place-below}
use Rattle.matrix.proofs.SmallLimits.{sheet_side_within}
use Rattle.checker.specs.Proven.{Shown}
use Rattle.rules.specs.Run.{Result}
use Rattle.rules.proofs.Run.{right_within_ten}
use Rattle.swaps.specs.Second.{Answer, second}
use Rattle.swaps.proofs.Costs.{second_same, shown_same}
use Rattle.sheet.specs.declared.Settled.{Settled}
use Rattle.sheet.specs.Reading.{Laid, night, read}
use Rattle.sheet.specs.Settle.{fresh, solved_costs, found, barred_row, ended}
use Rattle.sheet.proofs.Nights as nights
use Rattle.lines.specs.Lines.{accepted_line, row_line, row_lines, spare_lines, second_line, second_of, night_lines}
use Rattle.lines.specs.Asked.{Searchable, settled_lines, Ready}

-- At a place that is not barred the solved cost is the sheet's.
cost-same : (laid : Laid) (i j : ℕ) → i < laid.side → j < laid.side → bit_of (at laid.bars i) j ≡ false
    → signed_at (solved_costs laid) (i * laid.side + j) ≡ signed_at laid.costs (i * laid.side + j)
cost-same laid i j h l free =
    let n = laid.side in
    filled_costs_at n (pos K) laid.costs laid.bars (i * n + j) (place-below n i j h l)
    ∙ filled-place n (pos K) laid.costs laid.bars i j l
    ∙ ap (λ (t : Bool). cond t (pos K) (signed_at laid.costs (i * n + j))) free

module _ (sheet : List ℕ) (room : ℕ) (laid : Laid) (e : read room sheet ≡ night laid) (free : laid.side ≤ barred_row laid) where
  abbrev m : ℕ
  m = laid.row_count

  abbrev n : ℕ
  n = laid.side

  abbrev a : Result
  a = found laid

  fewer : m ≤ n
  fewer = (nights.readable sheet room laid e).fewer

  few : n ≤ 64
  few = (nights.readable sheet room laid e).few

  -- ---- the lines of the rows, whose pairs are not barred

  inside : (i : ℕ) → i < n → at a.cols i < n
  inside = (nights.owed sheet room laid e).named.inside

  rows_same : (k : ℕ) → k ≤ n → row_lines n (solved_costs laid) a.cols k ≡ row_lines n laid.costs a.cols k
  unfolding row_lines
  rows_same zero h = refl
  rows_same (suc k) h =
      ap₂ (λ (l : List ℕ) (z : ℤ). l ++ row_line k (at a.cols k) z) (rows_same k (omega arith))
      (cost-same laid k (at a.cols k) (omega arith) (inside k (omega arith)) (first_before (λ i. bit_of (at laid.bars i) (at a.cols i)) n k (omega arith)))

  -- ---- the search

  -- The solved costs of the night's rows.
  abbrev kept : List ℤ
  kept = take (m * n) (solved_costs laid)

  kept_same : (i j : ℕ) → i < m → j < n → not (bit_of (at laid.bars i) j) ≡ true → signed_at kept (i * n + j) ≡ signed_at laid.costs (i * n + j)
  kept_same i j h l allowed =
      get_or-take (m * n) (solved_costs laid) (i * n + j) (pos 0) (omega (arith, mul-le-mul_right n h, next i))
      ∙ cost-same laid i j (omega (arith, fewer)) l (not-true (bit_of (at laid.bars i) j) allowed)
    where
      next : (i : ℕ) → suc i * n ≡ i * n + n
      next i = omega arith

  pub night_shown : Shown (nights.sheet_night sheet room laid e) a.cols a.prices_of_rows a.prices_of_columns
  night_shown =
      let night = nights.sheet_night sheet room laid e in
      record {
        pairing = nights.night_pairing sheet room laid e free;
        feasible = nights.night_feasible sheet room laid e free;
        tight = (tight_first night a.cols a.prices_of_rows a.prices_of_columns).0 (nights.night_tight sheet room laid e free);
        spares = (spares_first night a.cols a.prices_of_columns).0 (nights.night_spares sheet room laid e free);
      }

  searchable : Searchable m n kept laid.bars a.cols a.prices_of_rows a.prices_of_columns
  searchable =
      let right = nights.owed sheet room laid e in
      let within = right_within_ten n (solved_costs laid) K a right in
      record {
        fewer = fewer;
        few = few;
        small = omega (arith, (nights.readable sheet room laid e).small, sheet_side_within);
        row_prices = record { enough = omega (arith, right.row_prices_size, fewer); within = λ i l. within.0 i (omega (arith, fewer)) };
        column_prices = record { enough = omega (arith, right.column_prices_size); within = within.1 };
        listed = omega (arith, right.cols_size, fewer);
        shown = shown_same (nights.sheet_night sheet room laid e) (λ i j. signed_at kept (i * n + j)) kept_same a.prices_of_rows a.prices_of_columns a.cols night_shown;
      }

  second_kept : second (night_of m n kept laid.bars) a.prices_of_rows a.prices_of_columns a.cols ≡ second_of laid
  second_kept = second_same (nights.sheet_night sheet room laid e) (λ i j. signed_at kept (i * n + j)) kept_same a.prices_of_rows a.prices_of_columns a.cols

  -- ---- what stands at the front of the arrays

  filled_size : length (solved_costs laid) ≡ n * n
  filled_size = filled_costs_length n (pos K) laid.costs laid.bars

  costs_are : take (n * n) (ended laid).costs ≡ solved_costs laid
  costs_are = take_at (solved_costs laid) (drop (n * n) fresh.costs) (n * n) filled_size

  kept_are : take (m * n) (ended laid).costs ≡ kept
  kept_are = sym (take-take (m * n) (n * n) (ended laid).costs (mul-le-mul_right n fewer)) ∙ ap (take (m * n)) costs_are

  bars_are : take n (ended laid).bars ≡ laid.bars
  bars_are = take_at laid.bars (drop n fresh.bars) n (nights.readable sheet room laid e).rows

  cols_are : take n (ended laid).cols ≡ a.cols
  cols_are = take_at a.cols (drop n fresh.cols) n (nights.owed sheet room laid e).cols_size

  row_prices_are : take n (ended laid).row_prices ≡ a.prices_of_rows
  row_prices_are = take_at a.prices_of_rows (drop n fresh.row_prices) n (nights.owed sheet room laid e).row_prices_size

  column_prices_are : take n (ended laid).col_prices ≡ a.prices_of_columns
  column_prices_are = take_at a.prices_of_columns (drop n fresh.col_prices) n (nights.owed sheet room laid e).column_prices_size

  -- What is settled, what `put_night` is asked with, and what it then writes.
  abbrev pub done : Settled
  done = record { edition = named laid.edition; row_count = m; side = n; total = a.total; state = ended laid }

  pub ended_ready : Ready done
  ended_ready = record {
    rows = rw (costs_are, cols_are)
        (record { fewer = fewer; squared = filled_size; listed = omega (arith, (nights.owed sheet room laid e).cols_size, fewer); inside = λ i l. inside i (omega (arith, fewer)) });
    searchable = rw (kept_are, bars_are, cols_are, row_prices_are, column_prices_are) searchable;
  }

  pub ended_lines : settled_lines done ≡ night_lines laid
  ended_lines =
      rw (costs_are, kept_are, bars_are, cols_are, row_prices_are, column_prices_are)
      (ap₂ (λ (l : List ℕ) (t : Answer). accepted_line n a.total ++ (l ++ (spare_lines m a.cols n ++ second_line t))) (rows_same m fewer) second_kept)
