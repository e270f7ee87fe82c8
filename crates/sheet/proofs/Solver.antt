-- A sheet's night in the state: what is read, tested, filled and solved in the arrays is what is settled of the sheet. It rests on the solver's
-- definition alone, none of whose tests can apply. Assumes nothing.
use mathlib.Core.Path.{◌≡◌, refl, sym, ap, ap₂, ◌∙◌}
use mathlib.Core.Bool.{Bool, true, false, cond}
use mathlib.Core.List.{List, ◌++◌}
use Prim.Native.Nat.{ℕ, zero, suc, ◌+◌, ◌*◌, ◌-◌, ◌/◌, ◌%◌, ◌≤◌, ◌<◌}
use native.Mathlib.Nat.{mul-le-mul, div-lt_iff_lt-mul, zero-lt-suc}
use native.Mathlib.Decide.{dec_lt}
use native.Mathlib.Omega.{arith}
use lib.Dec.{ltb}
use lib.IntN.{ℤ, pos}
use lib.ListN.{length, drop, replicate, length-replicate, get_or-replicate, replicate-append-replicate, get_or-append, get_or-eq_default}
use lib.Seq.{take_at, drop_at, drop-drop, drop-append-add, get_or-drop, get_or-append-add, sets}
use Rattle.ints.specs.Parts.{Within}
use Rattle.ints.proofs.Ranges.{within_mono}
use Rattle.lists.specs.Permutations.{at}
use Rattle.lists.specs.Counts.{bit_of}
use Rattle.lists.proofs.Tables.{table_cong}
use Rattle.layout.specs.Editions.{number}
use Rattle.layout.specs.Trailers.{side_of, edition_of}
use Rattle.layout.specs.Sheets.{costs_at, bars_at}
use Rattle.layout.proofs.Fields.{length_fields}
use Rattle.layout.proofs.Stores.{sets_front}
use Rattle.assignment.specs.Pairings.{signed_at}
use Rattle.bars.specs.Barred.{bits_above, filled_at, filled_costs}
use Rattle.bars.proofs.FilledCosts.{filled_costs_length, filled_costs_within}
use Rattle.bars.proofs.Longer.{first_barred_same, shown_rows_same}
use Rattle.matrix.specs.Limits.{sheet_side, K}
use Rattle.matrix.specs.Verdicts.{Passes, ◌then◌}
use Rattle.matrix.specs.declared.refusals.Reason.TheVariants.{BarsPastSide}
use Rattle.matrix.specs.Tests.{costs_in}
use Rattle.matrix.specs.Verdicts.{Verdict}
use Rattle.matrix.specs.declared.refusals.Refusal.{Refusal}
use Rattle.std.specs.Prelude.{Ok, Err}
use Rattle.matrix.proofs.SmallLimits.{sheet_side_small, sheet_side_within}
use Rattle.matrix.proofs.Verdicts.{then_iff, fails_at_cong}
use Rattle.matrix.proofs.Passed.{costs_in_lem}
use Rattle.rules.specs.Right.{Right}
use Rattle.lapjv.specs.Solve as lapjv
use Rattle.lapjv.specs.Solve.{solve}
use Rattle.lapjv.specs.WithinLimits.{WithinLimits}
use Rattle.lapjv.proofs.Tests.{passes_paired}
use Rattle.lapjv.proofs.Owed.{answer_owes}
use Rattle.sheet.specs.declared.State.{State}
use Rattle.sheet.specs.declared.shape.Shape.{Shape}
use Rattle.sheet.specs.declared.Unpaired.TheVariants.{Refused, Blocked}
use Rattle.sheet.specs.Reading.{has_bars, rows_of, distance_due, cost_most, Laid, laid_at, bars_in, night_tests, night_if, night_tested, read_if, sheet_tests, read, night}
use Rattle.sheet.specs.Settle.{fresh, lent, state_of, solved_costs, found, barred_row, rows_shown, ended, Outcome, blocked_with, accepted_with, settled_as, settled}
use Rattle.sheet.specs.Steps.{read_into, bars_into, filled_in, settled_with, settled_by, solved_in, state_tests, settled_if, settled_in}
use Rattle.sheet.specs.Asked.{Shaped}
use Rattle.sheet.proofs.Editions.{cost_most_within}
use Rattle.sheet.proofs.Passing.{tests_passed, laid_found}

-- A list of one entry again and again is its first n and the rest.
zeros_split : (a n m : ℕ) → n ≤ m → replicate m a ≡ replicate n a ++ drop n (replicate m a)
zeros_split a n m h =
    let e : n + (m - n) ≡ m = omega arith in
    let whole = replicate-append-replicate n (m - n) a ∙ ap (λ (k : ℕ). replicate k a) e in
    sym whole ∙ ap (λ (l : List ℕ). replicate n a ++ l) (sym (drop_at (replicate n a) (replicate (m - n) a) n (length-replicate n a)) ∙ ap (drop n) whole)

below-side : (n k : ℕ) → k < n * n → k / n < n
below-side zero k l = absurd (omega arith)
below-side (suc m) k l = (div-lt_iff_lt-mul (zero-lt-suc m)).1 l

-- ---- bars behind those of the night

module _ (n : ℕ) (dear : ℤ) (costs : List ℤ) (bars more : List ℕ) (rows : length bars ≡ n) where
  bars_front : (i : ℕ) → i < n → at (bars ++ more) i ≡ at bars i
  bars_front i l = get_or-append bars more 0 i (omega arith)

  bars_longer : filled_costs n dear costs (bars ++ more) ≡ filled_costs n dear costs bars
  unfolding filled_costs
  bars_longer =
      table_cong (n * n) (filled_at n dear costs (bars ++ more)) (filled_at n dear costs bars)
      (λ k l. ap (λ (b : ℕ). cond (bit_of b (k % n)) dear (signed_at costs k)) (bars_front (k / n) (below-side n k l)))

-- ---- zeros behind the costs

module _ (n : ℕ) (dear : ℤ) (costs : List ℤ) (k m : ℕ) (bars : List ℕ) where
  -- They are what stands past the end of the costs.
  zeros_behind : filled_costs n dear (costs ++ drop k (replicate m (pos 0))) bars ≡ filled_costs n dear costs bars
  unfolding filled_costs
  zeros_behind =
      table_cong (n * n) (filled_at n dear (costs ++ drop k (replicate m (pos 0))) bars) (filled_at n dear costs bars)
      (λ i l. ap (cond (bit_of (at bars (i / n)) (i % n)) dear) (by i (dec_lt i (length costs))))
    where
      zero_at : (i : ℕ) → Dec (i < m) → signed_at (replicate m (pos 0)) i ≡ pos 0
      zero_at i (yes h) = get_or-replicate m i (pos 0) (pos 0) h
      zero_at i (no h) = get_or-eq_default (replicate m (pos 0)) (pos 0) (omega (arith, length-replicate m (pos 0)))

      by : (i : ℕ) → Dec (i < length costs) → signed_at (costs ++ drop k (replicate m (pos 0))) i ≡ signed_at costs i
      by i (yes h) = get_or-append costs (drop k (replicate m (pos 0))) (pos 0) i h
      by i (no h) =
          let j = i - length costs in
          let e : length costs + j ≡ i = omega arith in
          ap (signed_at (costs ++ drop k (replicate m (pos 0)))) (sym e) ∙ get_or-append-add costs (drop k (replicate m (pos 0))) j (pos 0) ∙ get_or-drop k (replicate m (pos 0)) j (pos 0)
          ∙ zero_at (k + j) (dec_lt (k + j) m) ∙ sym (get_or-eq_default costs (pos 0) (omega arith))

-- Costs and zeros behind them, from a later place on, are zeros.
later_zeros : (costs : List ℤ) (m k j : ℕ) → length costs ≡ k → k ≤ j → drop j (costs ++ drop k (replicate m (pos 0))) ≡ drop j (replicate m (pos 0))
later_zeros costs m k j e h =
    let f : length costs + (j - k) ≡ j = omega arith in
    let g : k + (j - k) ≡ j = omega arith in
    ap (λ (i : ℕ). drop i (costs ++ drop k (replicate m (pos 0)))) (sym f) ∙ drop-append-add costs (drop k (replicate m (pos 0))) (j - k)
    ∙ drop-drop (j - k) k (replicate m (pos 0)) ∙ ap (λ (i : ℕ). drop i (replicate m (pos 0))) g

-- ---- a night in the state

module _ (edition m n : ℕ) (costs : List ℤ) (bars : List ℕ) (size : length costs ≡ m * n) (rows : length bars ≡ n) (fewer : m ≤ n) (small : n ≤ sheet_side) where
  abbrev laid : Laid
  laid = record { edition = edition; row_count = m; side = n; costs = costs; bars = bars }

  abbrev bars_kept : List ℕ
  bars_kept = bars ++ drop n fresh.bars

  -- The state in which it was read.
  abbrev held : State
  held = state_of (costs ++ drop (m * n) fresh.costs) bars_kept (lent fresh)

  -- The tests are those of the night.
  tests_same : state_tests edition m n held ≡ night_tests laid
  tests_same =
      ap₂ ◌then◌ (ap (costs_in (pos (cost_most edition))) (take_at costs (drop (m * n) fresh.costs) (m * n) size))
      (fails_at_cong BarsPastSide n (λ i. i) (λ i. i) (λ i. bits_above n (at bars_kept i)) (λ i. bits_above n (at bars i)) (λ i. refl)
      (λ i l. ap (bits_above n) (bars_front n (pos K) costs bars (drop n fresh.bars) rows i l)))

  -- The state with K on barred places.
  abbrev filled-held : State
  filled-held = state_of (solved_costs laid ++ drop (n * n) fresh.costs) bars_kept (lent fresh)

  filled-same : filled_in n held ≡ filled-held
  filled-same =
      let rest = drop (m * n) fresh.costs in
      ap₂ (λ (l r : List ℤ). state_of (l ++ r) bars_kept (lent fresh)) (zeros_behind n (pos K) costs (m * n) 4096 bars_kept ∙ bars_longer n (pos K) costs bars (drop n fresh.bars) rows)
      (later_zeros costs 4096 (m * n) (n * n) size (mul-le-mul fewer (omega arith)))

  -- No test of the solver can apply.
  module _ (passes : Passes (night_tests laid)) where
    few : n ≤ 64
    few = omega (arith, sheet_side_small)

    filled_size : length (solved_costs laid) ≡ n * n
    filled_size = filled_costs_length n (pos K) costs bars

    filled_within : (k : ℕ) → k < n * n → Within K (signed_at (solved_costs laid) k)
    filled_within =
        filled_costs_within n (pos K) costs bars K (record { low = omega arith; high = omega arith })
        (λ k l. by k (dec_lt k (length costs)))
      where
        by : (k : ℕ) → Dec (k < length costs) → Within K (signed_at costs k)
        by k (yes h) = within_mono (cost_most_within edition) ((costs_in_lem (cost_most edition) costs).0 ((then_iff _ _).0 passes).0 k h)
        by k (no h) = rw (get_or-eq_default costs (pos 0) {n = k} (omega arith)) (record { low = omega arith; high = omega arith })

    pub filled_within_all : (k : ℕ) → k < length (solved_costs laid) → Within K (signed_at (solved_costs laid) k)
    filled_within_all k l = filled_within k (omega (arith, filled_size))

    limits : WithinLimits n (solved_costs laid) (lent fresh)
    limits = record {
      small = omega (arith, sheet_side_within);
      squared = filled_size;
      cols_enough = few;
      rows_enough = few;
      row_prices_enough = few;
      column_prices_enough = few;
      indices_enough = omega (arith, few);
      numbers_enough = few;
      costs_within = filled_within_all;
    }

    pub owed : Right n (solved_costs laid) K (found laid)
    owed = answer_owes n (solved_costs laid) limits.small limits.costs_within

    -- What the solver leaves in the state is the night's answer, and a barred pair is the night's.
    solved_same : solved_in edition m n filled-held ≡ settled_as (night laid)
    solved_same =
        ap (λ (l : List ℤ). after (solve n l (lent fresh))) (take_at (solved_costs laid) (drop (n * n) fresh.costs) (n * n) filled_size)
        ∙ ap after (passes_paired n (solved_costs laid) (lent fresh) limits)
        ∙ ap₂ (λ (bar shown : ℕ). settled_with edition m n (cond (ltb bar n) (Err (Blocked shown)) (Ok (found laid).total)) (ended laid))
        (first_barred_same n bars_kept bars same_bars kept_cols (found laid).cols same_cols)
        (shown_rows_same n bars_kept bars same_bars kept_cols (found laid).cols same_cols)
        ∙ either (ltb (barred_row laid) n)
      where
        after : lapjv.Outcome → Outcome
        after o = settled_by edition m n o.answer (state_of (solved_costs laid ++ drop (n * n) fresh.costs) bars_kept o.lent)

        either : (t : Bool) → settled_with edition m n (cond t (Err (Blocked (rows_shown laid))) (Ok (found laid).total)) (ended laid) ≡ cond t (blocked_with laid) (accepted_with laid)
        either true = refl
        either false = refl

        kept_cols : List ℕ
        kept_cols = (found laid).cols ++ drop n fresh.cols

        same_bars : (i : ℕ) → i < n → at bars_kept i ≡ at bars i
        same_bars = bars_front n (pos K) costs bars (drop n fresh.bars) rows

        same_cols : (i : ℕ) → i < n → at kept_cols i ≡ at (found laid).cols i
        same_cols i l = get_or-append (found laid).cols (drop n fresh.cols) 0 i (omega (arith, owed.cols_size))

  -- Tested, filled and solved.
  pub held_settles : settled_in edition m n held ≡ settled_as (night_tested laid)
  held_settles = ap (settled_if edition m n held) tests_same ∙ by (night_tests laid) refl
    where
      by : (v : Verdict) → night_tests laid ≡ v → settled_if edition m n held v ≡ settled_as (night_if laid v)
      by (Ok _) e = ap (solved_in edition m n) filled-same ∙ solved_same e
      by (Err refusal) e = refl

-- ---- a sheet read into the fresh state

module _ (edition m n : ℕ) (sheet : List ℕ) (fewer : m ≤ n) (small : n ≤ sheet_side) where
  fits : n ≤ 64
  fits = omega (arith, sheet_side_small)

  few_rows : m ≤ 64
  few_rows = omega (arith, fewer, fits)

  abbrev costs_there : List ℤ
  costs_there = costs_at (distance_due edition m n) (m * n) sheet

  costs_size : length costs_there ≡ m * n
  costs_size = length_fields _ _ 4 (m * n) sheet

  -- The bars at the front of the state's, with those of the edition or none.
  bars_read : (t : Bool) → cond t (sets fresh.bars 0 (bars_at n sheet)) fresh.bars ≡ cond t (bars_at n sheet) (replicate n 0) ++ drop n fresh.bars
  bars_read true = sets_front (bars_at n sheet) fresh.bars n (length_fields _ _ 8 n sheet) fits
  bars_read false = zeros_split 0 n 64 fits

  bars_size : (t : Bool) → length (cond t (bars_at n sheet) (replicate n 0)) ≡ n
  bars_size true = length_fields _ _ 8 n sheet
  bars_size false = length-replicate n 0

  -- The fresh state, once the sheet was read into it, settles as the night that lies there.
  pub read_settles : settled_in edition m n (bars_into edition n sheet (read_into (distance_due edition m n) (m * n) sheet fresh)) ≡ settled_as (night_tested (laid_at edition m n (distance_due edition m n) sheet))
  read_settles =
      ap (settled_in edition m n)
      (ap₂ (λ (l : List ℤ) (b : List ℕ). state_of l b (lent fresh)) (sets_front costs_there fresh.costs (m * n) costs_size (mul-le-mul few_rows fits)) (bars_read (has_bars edition)))
      ∙ held_settles edition m n costs_there (bars_in edition n sheet) costs_size (bars_size (has_bars edition)) fewer small

-- A sheet that passes the tests before the costs settles as its night.
pub passed_settles : (room : ℕ) (sheet : List ℕ) → Passes (sheet_tests room sheet)
    → let m = rows_of sheet in let n = side_of sheet in let edition = edition_of sheet in settled_as (night_tested (laid_at edition m n (distance_due edition m n) sheet)) ≡ settled room sheet
unfolding settled read
passed_settles room sheet e =
    ap (λ (l : Laid). settled_as (night_tested l)) (sym (laid_found room sheet (tests_passed room sheet e)))
    ∙ ap (λ (v : Verdict). settled_as (read_if sheet v)) (sym e)

pub fails_settles : (room : ℕ) (sheet : List ℕ) {refusal : Refusal} → sheet_tests room sheet ≡ Err refusal → Err (Refused refusal) ≡ settled room sheet
unfolding settled read
fails_settles room sheet e = ap (λ (v : Verdict). settled_as (read_if sheet v)) (sym e)

-- What code finds of a sheet that passes them: where its costs lie, and what the state settles as, once it was read.
module _ (room : ℕ) (sheet : List ℕ) (shape : Shape) (passes : Passes (sheet_tests room sheet)) (says : Shaped sheet shape) where
  pub shape_inside : distance_due (number shape.edition) shape.row_count shape.side + 12 ≤ length sheet
  shape_inside = rw (says.edition, says.rows, says.side) (tests_passed room sheet passes).inside

  pub shape_settles : let e = number shape.edition in let m = shape.row_count in let n = shape.side in
      settled_in e m n (bars_into e n sheet (read_into (distance_due e m n) (m * n) sheet fresh)) ≡ settled room sheet
  shape_settles =
      let counted = (tests_passed room sheet passes).counted in
      rw (says.edition, says.rows, says.side) (read_settles (edition_of sheet) (rows_of sheet) (side_of sheet) sheet counted.fewer counted.small ∙ passed_settles room sheet passes)
