-- A surcharge on a column changes nobody's partner: with any amounts on the columns, the run's pairing both ways, its counts and its row prices are the same,
-- each column's price rises by its own amount, and the total by their sum. A surcharge on a row leaves the same pairings least, but the run may choose another
-- among them. No limits are needed, on costs or amounts; a side up to the free mark. Assumes nothing.
use mathlib.Core.Path.{◌≡◌, refl, sym, ap, ◌∙◌}
use mathlib.Core.Logic.{◌≢◌}
use mathlib.Core.Bool.{true}
use mathlib.Core.List.{List, [], ◌∷◌}
use Prim.Native.Nat.{ℕ, zero, suc, ◌+◌, ◌≤◌, ◌<◌}
use native.Mathlib.Omega.{arith}
use lib.IntN.{ℤ, pos, ◌+ℤ◌}
use lib.ListN.{length, set}
use Rattle.ints.specs.Parts.{up, down, Within}
use Rattle.lists.specs.Runs.{turns, upward, downward, until}
use Rattle.lists.specs.Sums.{sum}
use Rattle.lists.specs.Permutations.{at, table}
use Rattle.lists.proofs.Tables.{table_cong}
use Rattle.assignment.specs.Pairings.{Least, square, signed_at, total}
use Rattle.assignment.specs.Amounts.{ColumnAmounts, RowAmounts, only, risen}
use Rattle.assignment.proofs.Amounts.{column_amounts_total, row_amounts_least, sum-only, risen-only}
use Rattle.rules.specs.Lowest.{reduced, two_lowest, lowest, least_but}
use Rattle.rules.specs.Block.{block}
use Rattle.rules.specs.Columns.{free, claims, transfers, column_reduction}
use Rattle.rules.specs.Rows.{looks, row_reduction}
use Rattle.rules.specs.Search.{scan, last_free, search_blocks, search, new_prices}
use Rattle.rules.specs.Augmentation.{flips, augments, augmentation}
use Rattle.rules.specs.Run.{stages, prices_of_rows, Result, answer_of, run}
use Rattle.rules.specs.Right.{Right}
use Rattle.rules.specs.Nights.{even, row_dearer}
use Rattle.rules.specs.Surcharge.{surcharged}
use Rattle.rules.proofs.Risen.{reduced-same}
use Rattle.rules.proofs.StagesInStep.{stages_in_step}
use Rattle.rules.proofs.Run.{side_zero, run_right}

-- ---- what the run owes on any costs: every list of costs lies within some bound

pub bounded : (costs : List ℤ) → (K : ℕ) × ((k : ℕ) → Within K (signed_at costs k))
bounded [] = (0, λ k. record { low = omega arith; high = omega arith })
bounded (c ∷ costs) = let r = bounded costs in (r.0 + up c + down c, within r)
  where
    within : (r : (K : ℕ) × ((k : ℕ) → Within K (signed_at costs k))) (k : ℕ) → Within (r.0 + up c + down c) (signed_at (c ∷ costs) k)
    within r zero = record { low = omega arith; high = omega arith }
    within r (suc k) = let w = r.1 k in record { low = omega arith; high = omega arith }

pub run_right_bounded : (n : ℕ) (costs : List ℤ) → n ≤ free → Right n costs (bounded costs).0 (run n costs)
run_right_bounded n costs room = run_right n costs (bounded costs).0 (bounded costs).1 room

-- ---- an amount on each column

module _ (n : ℕ) (room : n ≤ free) (amount : ℕ → ℤ) (costs costs' : List ℤ) (with-amounts : ColumnAmounts (square n costs) amount (square n costs').cost) where
  abbrev cost : ℕ → ℕ → ℤ
  cost = (square n costs).cost

  abbrev cost' : ℕ → ℕ → ℤ
  cost' = (square n costs').cost

  added : (i j : ℕ) → i < n → j < n → cost' i j ≡ cost i j +ℤ amount j
  added i j l m = with-amounts.added i j l m refl

  row_prices_same : (cols : List ℕ) (v : List ℤ) → length v ≡ n → ((i : ℕ) → i < n → at cols i < n)
      → prices_of_rows n cost' cols (risen amount v) ≡ prices_of_rows n cost cols v
  row_prices_same cols v size inside =
      table_cong n (λ i. reduced cost' (signed_at (risen amount v)) i (at cols i)) (λ i. reduced cost (signed_at v) i (at cols i))
      (λ i l. reduced-same n amount cost cost' added v size i (at cols i) l (inside i l))

  some_surcharge : 1 ≤ n → run n costs' ≡ surcharged n amount (run n costs)
  unfolding run
  some_surcharge one =
      let r = stages n cost in
      let x = r.last in
      let R : Right n costs (bounded costs).0 (answer_of n costs r) = run_right_bounded n costs room in
      let cols = x.pairs.cols in
      let prices : prices_of_rows n cost' cols (risen amount x.prices) ≡ prices_of_rows n cost cols x.prices =
      row_prices_same cols x.prices R.column_prices_size R.named.inside in
      let totals : total (square n costs') cols ≡ total (square n costs) cols +ℤ sum n amount =
      column_amounts_total (square n costs) refl amount cost' with-amounts cols R.pairing in
      ap (answer_of n costs') (stages_in_step n one amount cost cost' added) ∙ cc

-- Side 0 has no column, and nothing to add to.
none_surcharge : (amount : ℕ → ℤ) (costs costs' : List ℤ) → run 0 costs' ≡ surcharged 0 amount (run 0 costs)
unfolding risen table sum
none_surcharge amount costs costs' = side_zero costs' ∙ sym (ap (surcharged 0 amount) (side_zero costs))

-- A SURCHARGE ON A COLUMN CHANGES NOBODY'S PARTNER, and surcharges on many change none either.
pub run_surcharge : (n : ℕ) → n ≤ free → (amount : ℕ → ℤ) (costs costs' : List ℤ) → ColumnAmounts (square n costs) amount (square n costs').cost
    → run n costs' ≡ surcharged n amount (run n costs)
run_surcharge zero room amount costs costs' with-amounts = none_surcharge amount costs costs'
run_surcharge (suc m) room amount costs costs' with-amounts = some_surcharge (suc m) room amount costs costs' with-amounts (omega arith)

-- One column: its price and the total rise by the amount. (That the other prices stay is `set`.)
pub run_one_surcharge : (n : ℕ) → n ≤ free → (c : ℕ) → c < n → (a : ℤ) (costs costs' : List ℤ)
    → ColumnAmounts (square n costs) (only c a) (square n costs').cost
    → ((run n costs').prices_of_columns ≡ set (run n costs).prices_of_columns c (signed_at (run n costs).prices_of_columns c +ℤ a))
    × ((run n costs').total ≡ (run n costs).total +ℤ a)
run_one_surcharge n room c l a costs costs' with-amounts =
    let e = run_surcharge n room (only c a) costs costs' with-amounts in (
      ap (λ (x : Result). x.prices_of_columns) e ∙ risen-only c a (run n costs).prices_of_columns (omega (arith, (run_right_bounded n costs room).column_prices_size)),
      ap (λ (x : Result). x.total) e ∙ ap (λ (z : ℤ). (run n costs).total +ℤ z) (sum-only c a n l),
    )

-- ---- an amount on each row

-- What the run chooses without them is least with them, and what it chooses with them is least without them.
pub run_row_surcharge : (n : ℕ) → n ≤ free → (amount : ℕ → ℤ) (costs costs' : List ℤ) → RowAmounts (square n costs) amount (square n costs').cost
    → Least (square n costs') (run n costs).cols × Least (square n costs) (run n costs').cols
run_row_surcharge n room amount costs costs' with-amounts = (
  (row_amounts_least (square n costs) amount (square n costs').cost with-amounts (run n costs).cols).0 (run_right_bounded n costs room).least,
  (row_amounts_least (square n costs) amount (square n costs').cost with-amounts (run n costs').cols).1 (run_right_bounded n costs' room).least,
)

-- But it may choose another among them: the table's last two nights differ by 1 on row 0.
pub row_dearer_lem : RowAmounts (square 2 even.costs) (only 0 (pos 1)) (square 2 row_dearer.costs).cost
row_dearer_lem = record { added = by }
  where
    by : (i j : ℕ) → i < 2 → j < 2 → (square 2 even.costs).allowed i j ≡ true
        → (square 2 row_dearer.costs).cost i j ≡ (square 2 even.costs).cost i j +ℤ only 0 (pos 1) i
    by zero zero l m e = refl
    by zero (suc zero) l m e = refl
    by zero (suc (suc j)) l m e = absurd (omega arith)
    by (suc zero) zero l m e = refl
    by (suc zero) (suc zero) l m e = refl
    by (suc zero) (suc (suc j)) l m e = absurd (omega arith)
    by (suc (suc i)) j l m e = absurd (omega arith)

pub row_surcharge_moves : (run 2 even.costs).cols ≢ (run 2 row_dearer.costs).cols
unfolding turns upward downward until table sum two_lowest lowest least_but block free claims transfers column_reduction looks row_reduction scan last_free search_blocks search new_prices flips augments augmentation stages run
row_surcharge_moves e = let first : ◌≡◌ {A = ℕ} 1 0 = ap (λ (l : List ℕ). at l 0) e in absurd (omega arith)
