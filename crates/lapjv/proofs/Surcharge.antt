-- The solver on a night and on the same night with amounts on its columns, both within the limits: the same pairing, counts and row prices, each of the first
-- n column prices higher by its column's amount, the total by their sum, and every other lent entry the same. With amounts on its rows, what it pairs of
-- either night is least in both. There are such nights at every side and for any amounts within the limits. Assumes nothing.
use mathlib.Core.Path.{◌≡◌, sym, ap, ◌∙◌, subst}
use mathlib.Core.List.{List, ◌++◌}
use Prim.Native.Nat.{ℕ, ◌*◌, ◌%◌, ◌≤◌, ◌<◌}
use native.Mathlib.Omega.{arith}
use lib.IntN.{ℤ, pos, ◌+ℤ◌, +ℤ_idl}
use lib.ListN.{length, take, drop, replicate, length-replicate}
use lib.Seq.{take_at, drop_at}
use Rattle.ints.specs.Parts.{Within}
use Rattle.lists.specs.Permutations.{table}
use Rattle.lists.proofs.Tables.{length-table, get_d_table, get_d_constant}
use Rattle.assignment.specs.Pairings.{Least, signed_at, square}
use Rattle.assignment.specs.Amounts.{ColumnAmounts, RowAmounts}
use Rattle.assignment.proofs.Amounts.{with_amounts, column_amounts_made}
use Rattle.matrix.specs.Limits.{side, K}
use Rattle.rules.specs.Columns.{free}
use Rattle.rules.specs.Run.{Result, run}
use Rattle.rules.specs.Surcharge.{surcharged}
use Rattle.rules.proofs.Surcharge.{run_right_bounded, run_surcharge, run_row_surcharge}
use Rattle.lapjv.specs.Solve.{Lent, lent_of, Outcome, paired, solve}
use Rattle.lapjv.specs.WithinLimits.{WithinLimits}
use Rattle.lapjv.specs.Surcharge.{surcharged_outcome}
use Rattle.lapjv.proofs.Tests.{passes_paired}
use Rattle.lapjv.proofs.Ready.{side-free}

-- ---- amounts on the columns

paired-surcharged : (n : ℕ) (lent : Lent) (amount : ℕ → ℤ) (a : Result) → length a.prices_of_columns ≡ n
    → paired n lent (surcharged n amount a) ≡ surcharged_outcome n amount (paired n lent a)
paired-surcharged n lent amount a size =
    let v = a.prices_of_columns in
    let behind = drop n lent.prices_of_columns in
    let first : take n (v ++ behind) ≡ v = take_at v behind n size in
    let rest : drop n (v ++ behind) ≡ behind = drop_at v behind n size in
    cc

pub solver_surcharge : (n : ℕ) (lent : Lent) (amount : ℕ → ℤ) (costs costs' : List ℤ) → ColumnAmounts (square n costs) amount (square n costs').cost
    → WithinLimits n costs lent → WithinLimits n costs' lent → solve n costs' lent ≡ surcharged_outcome n amount (solve n costs lent)
solver_surcharge n lent amount costs costs' with-amounts p p' =
    let room : n ≤ free = omega (arith, side-free, p.small) in
    passes_paired n costs' lent p'
    ∙ ap (paired n lent) (run_surcharge n room amount costs costs' with-amounts)
    ∙ paired-surcharged n lent amount (run n costs) (run_right_bounded n costs room).column_prices_size
    ∙ ap (surcharged_outcome n amount) (sym (passes_paired n costs lent p))

-- ---- amounts on the rows

pub solver_row_surcharge : (n : ℕ) (lent : Lent) (amount : ℕ → ℤ) (costs costs' : List ℤ) → RowAmounts (square n costs) amount (square n costs').cost
    → WithinLimits n costs lent → WithinLimits n costs' lent
    → Least (square n costs') (take n (solve n costs lent).lent.cols) × Least (square n costs) (take n (solve n costs' lent).lent.cols)
solver_row_surcharge n lent amount costs costs' with-amounts p p' =
    let o = run_row_surcharge n room amount costs costs' with-amounts in
    (subst (Least (square n costs')) (sym (chosen costs p)) o.0, subst (Least (square n costs)) (sym (chosen costs' p')) o.1)
  where
    room : n ≤ free
    room = omega (arith, side-free, p.small)

    chosen : (l : List ℤ) → WithinLimits n l lent → take n (solve n l lent).lent.cols ≡ (run n l).cols
    chosen l q =
        ap (λ (x : Outcome). take n x.lent.cols) (passes_paired n l lent q)
        ∙ take_at (run n l).cols (drop n lent.cols) n (run_right_bounded n l room).cols_size

-- ---- there are such nights

-- A night that passes, with amounts that keep every cost within K.
pub amounts_pass : (n : ℕ) (lent : Lent) (amount : ℕ → ℤ) (costs : List ℤ) → WithinLimits n costs lent
    → ((k : ℕ) → k < n * n → Within K (signed_at costs k +ℤ amount (k % n))) → WithinLimits n (with_amounts n amount costs) lent
amounts_pass n lent amount costs p within = record {
  small = p.small;
  squared = size;
  cols_enough = p.cols_enough;
  rows_enough = p.rows_enough;
  row_prices_enough = p.row_prices_enough;
  column_prices_enough = p.column_prices_enough;
  indices_enough = p.indices_enough;
  numbers_enough = p.numbers_enough;
  costs_within = λ k l. let m : k < n * n = omega (arith, size) in subst (Within K) (sym (get_d_table (n * n) plus (pos 0) k m)) (within k m);
}
  where
    plus : ℕ → ℤ
    plus k = signed_at costs k +ℤ amount (k % n)

    size : length (with_amounts n amount costs) ≡ n * n
    size = length-table (n * n) plus

-- The night whose costs are all 0, with lists just long enough.
abbrev nothing : ℕ → List ℤ
nothing n = table (n * n) (λ k. pos 0)

abbrev room : ℕ → Lent
room n = lent_of (replicate n 0) (replicate n 0) (replicate n (pos 0)) (replicate n (pos 0)) (replicate (4 * n) 0) (replicate n (pos 0))

nothing_passes : (n : ℕ) → n ≤ side → WithinLimits n (nothing n) (room n)
nothing_passes n small = record {
  small = small;
  squared = length-table (n * n) (λ k. pos 0);
  cols_enough = omega (arith, length-replicate {A = ℕ} n 0);
  rows_enough = omega (arith, length-replicate {A = ℕ} n 0);
  row_prices_enough = omega (arith, length-replicate n (pos 0));
  column_prices_enough = omega (arith, length-replicate n (pos 0));
  indices_enough = omega (arith, length-replicate {A = ℕ} (4 * n) 0);
  numbers_enough = omega (arith, length-replicate n (pos 0));
  costs_within = λ k l. subst (Within K) (sym (get_d_constant (n * n) (pos 0) k)) (record { low = omega arith; high = omega arith });
}

-- At every side within the limit and for any amounts within K: all that `solver_surcharge` asks for.
pub surcharges_exist : (n : ℕ) → n ≤ side → (amount : ℕ → ℤ) → ((j : ℕ) → Within K (amount j))
    → (lent : Lent) × (costs costs' : List ℤ) × ColumnAmounts (square n costs) amount (square n costs').cost × WithinLimits n costs lent × WithinLimits n costs' lent
surcharges_exist n small amount within = (
  room n,
  nothing n,
  with_amounts n amount (nothing n),
  column_amounts_made n amount (nothing n),
  nothing_passes n small,
  amounts_pass n (room n) amount (nothing n) (nothing_passes n small)
      (λ k l. subst (λ (z : ℤ). Within K (z +ℤ amount (k % n))) (sym (get_d_constant (n * n) (pos 0) k))
      (subst (Within K) (sym (+ℤ_idl (amount (k % n)))) (within (k % n)))),
)
