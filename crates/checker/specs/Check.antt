-- The checker: what it answers for every costs, lists and prices.
use Rattle.std.specs.Prelude.{List, [], ◌∷◌, ℕ, ℤ, length}
use Rattle.assignment.specs.Pairings.{Night, square, total}
use Rattle.matrix.specs.Limits.{sheet_side}
use Rattle.matrix.specs.Verdicts.{◌then◌}
use Rattle.matrix.specs.Tests.{side_within, costs_fill, lists_long, list_long, shaped, costs_within, columns_inside, prices_within}
use Rattle.matrix.specs.Answers.{totalled}
use Rattle.matrix.specs.Verdicts.{Verdict}
use Rattle.matrix.specs.Answers.{Answer}
use Rattle.bars.specs.Barred.{night_of, barred}
use Rattle.bars.specs.Tests.{costs_small, bars_clear, unbarred}
use Rattle.checker.specs.Tests.{rows_named, under_costs, tight_on, rows_fit, columns_once, spares_not_below}

-- 8, 9, 10: the prices, of any night.
abbrev pub price_tests : Night → List ℕ → List ℤ → List ℤ → Verdict
price_tests night cols us vs =
    prices_within night.row_count night.column_count us vs
    then under_costs night us vs
    then tight_on night cols us vs

-- 5, 6, 7, 8, 9, 10: the costs, the pairing and its prices, of a square night.
abbrev pub proof_tests : ℕ → List ℤ → List ℕ → List ℕ → List ℤ → List ℤ → Verdict
proof_tests n costs cols rows us vs =
    costs_within costs
    then columns_inside n n cols
    then rows_named n cols rows
    then price_tests (square n costs) cols us vs

-- "Checker: 1, 2, 3, 5, 6, 7, 8, 9, 10; its lists need at least n entries and only the first n are read".
unfoldable pub checks : ℕ → List ℤ → List ℕ → List ℕ → List ℤ → List ℤ → Verdict
checks n costs cols rows us vs =
    shaped n costs (length cols ∷ length rows ∷ length us ∷ length vs ∷ [])
    then proof_tests n costs cols rows us vs

-- "it accepts with the total".
unfoldable pub check : ℕ → List ℤ → List ℕ → List ℕ → List ℤ → List ℤ → Answer
check n costs cols rows us vs = totalled (checks n costs cols rows us vs) (total (square n costs) cols)

-- ---- with bars: "The checker then takes n 64-bit bars (list 5), sides to 64"

-- 1, 2, 3, given the lengths of the lists.
abbrev pub shaped_barred : ℕ → List ℤ → List ℕ → ℕ → Verdict
shaped_barred n costs lengths bars =
    side_within sheet_side n
    then costs_fill n n costs
    then lists_long n lengths
    then list_long 5 n bars

-- 5, 22, 6, 7, 26: the costs, the bars and the pairing. It "tests 5 and 22 as above", where costs lie within 1,000,000.
abbrev pub paired_barred : ℕ → List ℤ → List ℕ → List ℕ → List ℕ → Verdict
paired_barred n costs cols rows bars =
    costs_small costs
    then bars_clear n bars
    then columns_inside n n cols
    then rows_named n cols rows
    then unbarred n bars cols

-- 1, 2, 3, 5, 22, 6, 7, 26, 8, 9, 10: it "skips 9 on barred places".
unfoldable pub checks_barred : ℕ → List ℤ → List ℕ → List ℕ → List ℤ → List ℤ → List ℕ → Verdict
checks_barred n costs cols rows us vs bars =
    shaped_barred n costs (length cols ∷ length rows ∷ length us ∷ length vs ∷ []) (length bars)
    then paired_barred n costs cols rows bars
    then price_tests (barred n costs bars) cols us vs

unfoldable pub check_barred : ℕ → List ℤ → List ℕ → List ℕ → List ℤ → List ℤ → List ℕ → Answer
check_barred n costs cols rows us vs bars = totalled (checks_barred n costs cols rows us vs bars) (total (barred n costs bars) cols)

-- ---- an oblong night: "m rows and n columns, m at most n, at most 64"; "It takes columns by row only"

-- 1, 23, 2, 3, given the lengths of the lists: "lists by row need m", there is no list 2.
abbrev pub shaped_oblong : ℕ → ℕ → List ℤ → ℕ → ℕ → ℕ → Verdict
shaped_oblong m n costs cols us vs =
    side_within sheet_side n
    then rows_fit m n
    then costs_fill m n costs
    then list_long 1 m cols
    then list_long 3 m us
    then list_long 4 n vs

-- 5, 6, 7: the costs and the choice of columns.
abbrev pub paired_oblong : ℕ → ℕ → List ℤ → List ℕ → Verdict
paired_oblong m n costs cols = costs_within costs then columns_inside m n cols then columns_once m cols

-- 1, 23, 2, 3, 5, 6, 7, 8, 9, 10, 27.
unfoldable pub checks_oblong : ℕ → ℕ → List ℤ → List ℕ → List ℤ → List ℤ → Verdict
checks_oblong m n costs cols us vs =
    shaped_oblong m n costs (length cols) (length us) (length vs)
    then paired_oblong m n costs cols
    then price_tests (night_of m n costs []) cols us vs
    then spares_not_below m n cols vs

unfoldable pub check_oblong : ℕ → ℕ → List ℤ → List ℕ → List ℤ → List ℤ → Answer
check_oblong m n costs cols us vs = totalled (checks_oblong m n costs cols us vs) (total (night_of m n costs []) cols)
