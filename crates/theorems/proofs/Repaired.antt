-- A repaired pairing is accepted by the checker on the new costs, and so it is least and its total is the fresh run's; its prices stay where the checker
-- wants them, and no column price rises. An accepted pairing of which one row's costs changed is repaired, where its prices lie within 7K; those of a
-- fresh run do. Assumes nothing.
use mathlib.Core.Path.{◌≡◌, refl, sym, ap, ◌∙◌, subst}
use mathlib.Core.List.{List}
use Prim.Native.Nat.{ℕ, ◌+◌, ◌*◌, ◌≤◌, ◌<◌}
use native.Mathlib.Omega.{arith}
use lib.IntN.{ℤ, pos}
use lib.Signed.{◌≤ℤ◌}
use lib.ListN.{length, length-append, set, take, drop, replicate, length-replicate, get_or-append}
use lib.Seq.{get_or-take, take_at}
use Rattle.ints.specs.Parts.{Within}
use Rattle.ints.proofs.Ranges.{zarith, within_mono}
use Rattle.lists.specs.Permutations.{at}
use Rattle.lists.proofs.Tables.{length-table}
use Rattle.assignment.specs.Pairings.{Least, signed_at, square, total}
use Rattle.matrix.specs.Limits.{K}
use Rattle.std.specs.Prelude.{Ok}
use Rattle.rules.specs.Lowest.{reduced}
use Rattle.rules.specs.Columns.{free}
use Rattle.rules.specs.Augmentation.{Progress}
use Rattle.rules.specs.Run.{prices_of_rows}
use Rattle.rules.specs.Right.{Between}
use Rattle.rules.proofs.Augment.{Gain}
use Rattle.rules.proofs.Run.{all_named}
use Rattle.rules.proofs.Sizes.{within_everywhere}
use Rattle.augmentation.specs.Augmentation.{pairs_of}
use Rattle.checker.specs.Check.{check}
use Rattle.checker.specs.Proven.{Proven}
use Rattle.checker.proofs.Accepted.{accepted_proven, proven_accepted}
use Rattle.checker.proofs.Least.{accepted_least}
use Rattle.lapjv.specs.Answers.{answer}
use Rattle.lapjv.specs.Solve.{Lent, paired, solve}
use Rattle.lapjv.specs.Solve as solving
use Rattle.lapjv.specs.WithinLimits.{WithinLimits}
use Rattle.lapjv.proofs.Owed.{answer_owes}
use Rattle.lapjv.proofs.Tests.{passes_paired}
use Rattle.lapjv.proofs.Ready.{side-free}
use Rattle.repair.specs.Repair.{Outcome, mended, mended_in, repaired_by, settled, repair}
use Rattle.repair.specs.Repairable.{Repairable, OneRowChanged}
use Rattle.repair.specs.Asked.{FairBut, CanMend}
use Rattle.repair.proofs.Mended.{mend_gain, mend_paired, mend_feasible, mend_tight, mend_column_between, mend_row_within}
use Rattle.repair.proofs.Repairing.{can_mend}
use Rattle.repair.proofs.Tests.{passes_repaired}
use Rattle.theorems.proofs.Front.{proven_front}
use Rattle.theorems.proofs.Accepted.{checker_accepts_solver}

module _ (n : ℕ) (costs : List ℤ) (row : ℕ) (lent : Lent) (r : Repairable n costs row lent) where
  abbrev cost : ℕ → ℕ → ℤ
  cost = (square n costs).cost

  abbrev cols : List ℕ
  cols = take n lent.cols

  abbrev rows : List ℕ
  rows = take n lent.rows

  abbrev vs : List ℤ
  vs = take n lent.prices_of_columns

  -- What the search leaves, and the row prices made of it.
  abbrev y : Progress
  y = mended_in n costs row lent

  abbrev us' : List ℤ
  us' = prices_of_rows n cost y.pairs.cols y.prices

  below_free : n ≤ free
  below_free = omega (arith, side-free, r.limits.small)

  within : (k : ℕ) → Within K (signed_at costs k)
  within = within_everywhere K costs r.limits.costs_within

  near : (j : ℕ) → j < n → Within (7 * K) (signed_at vs j)
  near j l = rw (get_or-take n lent.prices_of_columns j (pos 0) l) (r.column_prices_near j l)

  -- The first n entries of the lists are fair but for the row, under these row prices.
  abbrev can : CanMend n costs row (pairs_of cols rows) vs (take (4 * n) lent.indices) (take n lent.numbers)
  can = can_mend n costs row lent r

  abbrev us : List ℤ
  us = can.us

  fair_but : FairBut n costs row (pairs_of cols rows) us vs
  fair_but = can.fair

  gain : Gain n cost (record { pairs = record { cols = cols; rows = set rows (at cols row) free }; prices = vs; scanned = 0 }) row y
  unfolding mended
  gain = mend_gain n costs row (pairs_of cols rows) us vs below_free fair_but

  us_size : length us' ≡ n
  us_size = length-table n (λ i. reduced cost (signed_at y.prices) i (at y.pairs.cols i))

  columns_between : (j : ℕ) → j < n → Between (7 * K + 2 * K) (7 * K) (signed_at y.prices j)
  unfolding mended
  columns_between = mend_column_between n costs row (pairs_of cols rows) us vs below_free fair_but K (7 * K) within near

  rows_within : (i : ℕ) → i < n → Within (K + 7 * K) (signed_at us' i)
  unfolding mended
  rows_within = mend_row_within n costs row (pairs_of cols rows) us vs below_free fair_but K (7 * K) within near

  mended_proven : Proven n costs y.pairs.cols y.pairs.rows us' y.prices
  unfolding mended
  mended_proven = record {
    sizes = record {
      small = r.limits.small;
      squared = r.limits.squared;
      columns_listed = omega (arith, gain.agree.cols_size);
      rows_listed = omega (arith, gain.agree.rows_size);
    };
    within = r.limits.costs_within;
    named = all_named n costs y.pairs y.prices gain.agree gain.fair
        (mend_paired n costs row (pairs_of cols rows) us vs below_free fair_but);
    row_prices = record { enough = omega (arith, us_size); within = λ i l. within_mono (omega arith) (rows_within i l) };
    column_prices = record {
      enough = omega (arith, gain.prices_size);
      within = λ j l. let b = columns_between j l in record { low = omega (arith, b); high = omega (arith, b) };
    };
    feasible = mend_feasible n costs row (pairs_of cols rows) us vs below_free fair_but;
    tight = mend_tight n costs row (pairs_of cols rows) us vs below_free fair_but;
  }

  -- ---- what a caller finds

  abbrev after : Lent
  after = (repair n costs row lent).lent

  is : repair n costs row lent ≡ settled n lent (repaired_by n costs y)
  is = passes_repaired n costs row lent r

  repaired_proven : Proven n costs after.cols after.rows after.prices_of_rows after.prices_of_columns
  repaired_proven =
      subst (λ (o : Outcome). Proven n costs o.lent.cols o.lent.rows o.lent.prices_of_rows o.lent.prices_of_columns) (sym is)
      (proven_front n costs y.pairs.cols y.pairs.rows us' y.prices gain.agree.cols_size gain.agree.rows_size us_size gain.prices_size
      mended_proven (drop n lent.cols) (drop n lent.rows) (drop n lent.prices_of_rows) (drop n lent.prices_of_columns))

  -- The checker accepts what the repair leaves, on the new costs.
  pub checker_accepts_repair : check n costs after.cols after.rows after.prices_of_rows after.prices_of_columns ≡ Ok (total (square n costs) after.cols)
  checker_accepts_repair = proven_accepted n costs after.cols after.rows after.prices_of_rows after.prices_of_columns repaired_proven

  pub repaired_least : Least (square n costs) (take n after.cols)
  repaired_least = accepted_least n costs after.cols after.rows after.prices_of_rows after.prices_of_columns checker_accepts_repair

  -- The answer is the total, and it is the fresh run's.
  pub repaired_answer : (repair n costs row lent).answer ≡ Ok (answer n costs).total
  repaired_answer =
      let R = answer_owes n costs r.limits.small r.limits.costs_within in
      let L = repaired_least in
      let first : take n after.cols ≡ y.pairs.cols =
      ap (λ (o : Outcome). take n o.lent.cols) is ∙ take_at y.pairs.cols (drop n lent.cols) n gain.agree.cols_size in
      let M : Least (square n costs) y.pairs.cols = subst (Least (square n costs)) first L in
      ap (λ (o : Outcome). o.answer) is
      ∙ ap Ok (same (total (square n costs) y.pairs.cols) (total (square n costs) (answer n costs).cols) (answer n costs).total
      (M.least (answer n costs).cols R.pairing) (R.least.least y.pairs.cols M.pairing) R.total_is)
    where
      same : (a b t : ℤ) → a ≤ℤ b → b ≤ℤ a → t ≡ b → a ≡ t
      same a b t h g e = omega zarith

  -- ---- where the prices stay

  column_is : (j : ℕ) → j < n → signed_at after.prices_of_columns j ≡ signed_at y.prices j
  column_is j l =
      ap (λ (o : Outcome). signed_at o.lent.prices_of_columns j) is
      ∙ get_or-append y.prices (drop n lent.prices_of_columns) (pos 0) j (omega (arith, gain.prices_size))

  -- Column prices in -9K..7K, row prices in -8K..8K, "which 8 admits".
  pub repaired_columns_between : (j : ℕ) → j < n → Between (9 * K) (7 * K) (signed_at after.prices_of_columns j)
  repaired_columns_between j l = rw (column_is j l) (let b = columns_between j l in record { low = omega (arith, b); high = omega (arith, b) })

  pub repaired_rows_within : (i : ℕ) → i < n → Within (8 * K) (signed_at after.prices_of_rows i)
  repaired_rows_within i l =
      rw (ap (λ (o : Outcome). signed_at o.lent.prices_of_rows i) is ∙ get_or-append us' (drop n lent.prices_of_rows) (pos 0) i (omega (arith, us_size)))
      (within_mono (omega arith) (rows_within i l))

  -- A repair never raises a column price.
  pub repaired_not_risen : (j : ℕ) → j < n → signed_at after.prices_of_columns j ≤ℤ signed_at lent.prices_of_columns j
  repaired_not_risen j l = rw (column_is j l, sym (get_or-take n lent.prices_of_columns j (pos 0) l)) (gain.not_risen j l)

-- ---- what is repaired

-- An accepted pairing, new costs for one row, prices within 7K, and room: it is repaired.
pub changed_repairable : (n : ℕ) (old costs : List ℤ) (row : ℕ) (lent : Lent) → Proven n old lent.cols lent.rows lent.prices_of_rows lent.prices_of_columns
    → WithinLimits n costs lent → row < n → OneRowChanged n old costs row
    → ((i : ℕ) → i < n → Within (7 * K) (signed_at lent.prices_of_rows i)) → ((j : ℕ) → j < n → Within (7 * K) (signed_at lent.prices_of_columns j))
    → Repairable n costs row lent
changed_repairable n old costs row lent f w l c nu nv = record {
  limits = w;
  row_below = l;
  named = record { inside = f.named.inside; back = f.named.back };
  row_prices_near = nu;
  column_prices_near = nv;
  feasible = record { under = λ i j li d lj e. rw (c.others_same i j li d lj) (f.feasible.under i j li lj refl) };
  tight = record { met = λ i li d. f.tight.met i li ∙ sym (c.others_same i (at lent.cols i) li d (f.named.inside i li)) };
}

-- What the solver left is repaired, whatever the new costs of the row.
pub solved_repairable : (n : ℕ) (old costs : List ℤ) (row : ℕ) (lent : Lent) → WithinLimits n old lent → WithinLimits n costs lent → row < n
    → OneRowChanged n old costs row → Repairable n costs row (solve n old lent).lent
solved_repairable n old costs row lent p q l c =
    let a = answer n old in
    let o = (solve n old lent).lent in
    let R = answer_owes n old p.small p.costs_within in
    let is = passes_paired n old lent p in
    let limits : WithinLimits n costs (paired n lent a).lent = record {
      small = q.small;
      squared = q.squared;
      cols_enough = omega (arith, length-append a.cols (drop n lent.cols), R.cols_size);
      rows_enough = omega (arith, length-append a.rows (drop n lent.rows), R.rows_size);
      row_prices_enough = omega (arith, length-append a.prices_of_rows (drop n lent.prices_of_rows), R.row_prices_size);
      column_prices_enough = omega (arith, length-append a.prices_of_columns (drop n lent.prices_of_columns), R.column_prices_size);
      indices_enough = omega (arith, length-append (replicate (4 * n) 0) (drop (4 * n) lent.indices), length-replicate {A = ℕ} (4 * n) 0);
      numbers_enough = omega (arith, length-append (replicate n (pos 0)) (drop n lent.numbers), length-replicate n (pos 0));
      costs_within = q.costs_within;
    } in
    let rows-near : (i : ℕ) → i < n → Within (7 * K) (signed_at (paired n lent a).lent.prices_of_rows i) = λ i h.
    rw (get_or-append a.prices_of_rows (drop n lent.prices_of_rows) (pos 0) i (omega (arith, R.row_prices_size))) (wide (R.row_prices_between i h)) in
    let columns-near : (j : ℕ) → j < n → Within (7 * K) (signed_at (paired n lent a).lent.prices_of_columns j) = λ j h.
    rw (get_or-append a.prices_of_columns (drop n lent.prices_of_columns) (pos 0) j (omega (arith, R.column_prices_size))) (wider (R.column_prices_between j h)) in
    changed_repairable n old costs row o (accepted_proven n old o.cols o.rows o.prices_of_rows o.prices_of_columns (checker_accepts_solver n old lent p)).0
    (subst (λ (x : solving.Outcome). WithinLimits n costs x.lent) (sym is) limits) l c
    (subst (λ (x : solving.Outcome). (i : ℕ) → i < n → Within (7 * K) (signed_at x.lent.prices_of_rows i)) (sym is) rows-near)
    (subst (λ (x : solving.Outcome). (j : ℕ) → j < n → Within (7 * K) (signed_at x.lent.prices_of_columns j)) (sym is) columns-near)
  where
    wide : {z : ℤ} → Between 0 (4 * K) z → Within (7 * K) z
    wide b = record { low = omega (arith, b); high = omega (arith, b) }

    wider : {z : ℤ} → Between (5 * K) K z → Within (7 * K) z
    wider b = record { low = omega (arith, b); high = omega (arith, b) }
