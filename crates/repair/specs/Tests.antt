-- The tests of a repair: the solver's, then the checker's, "leaving out 9 and 10 for that row"; and two of its own.
use Rattle.std.specs.Prelude.{List, ℕ, ◌*◌, leb, ℤ, pos}
use Rattle.assignment.specs.Pairings.{square}
use Rattle.matrix.specs.Limits.{K}
use Rattle.matrix.specs.Verdicts.{◌then◌, fails_if}
use Rattle.matrix.specs.declared.refusals.Reason.TheVariants.{ColumnOutside, PriceFar}
use Rattle.matrix.specs.Tests.{columns_inside, prices_in, prices_within}
use Rattle.matrix.specs.Verdicts.{Verdict}
use Rattle.checker.specs.Tests.{rows_named, under_costs_but, tight_on_but}
use Rattle.lapjv.specs.Solve.{Lent, tested}

-- "A row number outside the side is 6, place the side". At side 0 every row number is.
abbrev pub row_inside : ℕ → ℕ → Verdict
row_inside n row = fails_if ColumnOutside n (leb n row)

-- "Prices outside 7K either side of zero are refused (24, place as for 8 [..])": the changed row's too.
abbrev pub prices_near : ℕ → List ℤ → List ℤ → Verdict
prices_near n us vs = prices_in PriceFar (pos (7 * K)) n n us vs

-- 1, 2, 3, 4, 5; 6 of the row; 6, 7, 8; 24; 9 and 10 but for the row.
unfoldable pub repair_tests : ℕ → List ℤ → ℕ → Lent → Verdict
repair_tests n costs row lent =
    tested n costs lent
    then row_inside n row
    then columns_inside n n lent.cols
    then rows_named n lent.cols lent.rows
    then prices_within n n lent.prices_of_rows lent.prices_of_columns
    then prices_near n lent.prices_of_rows lent.prices_of_columns
    then under_costs_but row (square n costs) lent.prices_of_rows lent.prices_of_columns
    then tight_on_but row (square n costs) lent.cols lent.prices_of_rows lent.prices_of_columns
