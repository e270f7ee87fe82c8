-- The checker in document 01's own words: the test of a place says yes or no, and no refusal has a slack. What `check` refuses, and at which
-- place, is what is refused here (proofs/Scope.antt).
use Rattle.std.specs.Prelude.{Bool, ◌&&◌, List, [], ◌∷◌, ℕ, ◌+◌, ◌*◌, ltb, ℤ, length}
use Rattle.std.specs.Int.Signed.{lt_z}
use Rattle.lists.specs.Runs.{first}
use Rattle.lists.specs.Permutations.{at}
use Rattle.assignment.specs.Pairings.{Night, square, total}
use Rattle.assignment.specs.Prices.{priced}
use Rattle.matrix.specs.Verdicts.{◌then◌, fails_at}
use Rattle.matrix.specs.Tests.{shaped, costs_within, columns_inside, prices_within}
use Rattle.matrix.specs.Answers.{totalled}
use Rattle.matrix.specs.declared.refusals.Reason.TheVariants.{PricesOverCost, PricesNotCost}
use Rattle.matrix.specs.Verdicts.{Verdict}
use Rattle.matrix.specs.Answers.{Answer}
use Rattle.checker.specs.Tests.{rows_named, differ}

-- "row price + column price over the cost", at place (i, j), where it is allowed.
abbrev pub over_cost : Night → List ℤ → List ℤ → ℕ → ℕ → Bool
over_cost night us vs i j = night.allowed i j && lt_z (night.cost i j) (priced us vs i j)

-- The first such column of row i, or the number of columns.
abbrev pub over_cost_first : Night → List ℤ → List ℤ → ℕ → ℕ
over_cost_first night us vs i = first night.column_count (over_cost night us vs i)

-- "on a paired place that sum is not the cost", in row i.
abbrev pub not_cost : Night → List ℕ → List ℤ → List ℤ → ℕ → Bool
not_cost night cols us vs i = differ (priced us vs i (at cols i)) (night.cost i (at cols i))

-- 8, 9 "first i*n+j", 10 "first row", of any night.
abbrev pub scope_prices : Night → List ℕ → List ℤ → List ℤ → Verdict
scope_prices night cols us vs =
    prices_within night.row_count night.column_count us vs
    then fails_at PricesOverCost (λ i. i * night.column_count + over_cost_first night us vs i) night.row_count (λ i. ltb (over_cost_first night us vs i) night.column_count)
    then fails_at PricesNotCost (λ i. i) night.row_count (not_cost night cols us vs)

-- "Checker: 1, 2, 3, 5, 6, 7, 8, 9, 10", "it accepts with the total".
unfoldable pub scope_check : ℕ → List ℤ → List ℕ → List ℕ → List ℤ → List ℤ → Answer
scope_check n costs cols rows us vs =
    totalled
    (shaped n costs (length cols ∷ length rows ∷ length us ∷ length vs ∷ [])
    then (costs_within costs then columns_inside n n cols then rows_named n cols rows then scope_prices (square n costs) cols us vs))
    (total (square n costs) cols)
