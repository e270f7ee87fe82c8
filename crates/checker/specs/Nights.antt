-- The checker's nights on paper: document 01's starred N9 and N10 and further ones, on the costs of N8; then nights with bars, and oblong ones.
use Rattle.std.specs.Prelude.{List, [], ◌∷◌, ℕ, ℤ, pos, negsuc}
use Rattle.matrix.specs.Answers.{Answer}
use Rattle.std.specs.Prelude.{Ok, Err}
use Rattle.matrix.specs.declared.refusals.Reason.{Reason}
use Rattle.matrix.specs.declared.refusals.Reason.TheVariants.{ListLength, ColumnOutside, RowNotNamed, PriceOutside, PricesOverCost, PricesNotCost, BarsPastSide, BarredPair, SpareBelow}
use Rattle.checker.specs.Check.{check, check_barred, check_oblong}

-- Columns, rows, row prices, column prices, and what the checker answers.
pub record Line : Type 0 where
  pub cols : List ℕ
  pub rows : List ℕ
  pub prices_of_rows : List ℤ
  pub prices_of_columns : List ℤ
  pub answer : Answer

abbrev pub line : List ℕ → List ℕ → List ℤ → List ℤ → Answer → Line
line cols rows us vs answer = record { cols = cols; rows = rows; prices_of_rows = us; prices_of_columns = vs; answer = answer }

abbrev pub refused_by : Reason → ℕ → ℤ → Answer
refused_by reason place slack = Err (record { reason = reason; place = place; slack = slack })

abbrev pub refused : Reason → ℕ → Answer
refused reason place = refused_by reason place (pos 0)

-- N8: [3 1 0 / 0 0 2 / 4 1 0], its row prices and its column prices.
abbrev pub costs : List ℤ
costs = pos 3 ∷ pos 1 ∷ pos 0 ∷ pos 0 ∷ pos 0 ∷ pos 2 ∷ pos 4 ∷ pos 1 ∷ pos 0 ∷ []

abbrev pub us : List ℤ
us = pos 1 ∷ pos 0 ∷ pos 1 ∷ []

abbrev pub vs : List ℤ
vs = pos 0 ∷ pos 0 ∷ negsuc 0 ∷ []

-- The line that the checker makes of a line's lists.
abbrev pub checked : Line → Line
checked l = line l.cols l.rows l.prices_of_rows l.prices_of_columns (check 3 costs l.cols l.rows l.prices_of_rows l.prices_of_columns)

abbrev pub nights : List Line
nights =
    -- "N9: N8's prices, columns 1 0 2: checker accepts, total 1."
    line (1 ∷ 0 ∷ 2 ∷ []) (1 ∷ 0 ∷ 2 ∷ []) us vs (Ok (pos 1))
    -- "N10: N8's prices, columns 0 1 2: refusal 10, row 0." The prices of its place, 1 and 0, are 2 below the cost.
    ∷ line (0 ∷ 1 ∷ 2 ∷ []) (0 ∷ 1 ∷ 2 ∷ []) us vs (refused_by PricesNotCost 0 (pos 2))
    -- N8's own columns, with entries past the side, which are not read.
    ∷ line (2 ∷ 0 ∷ 1 ∷ 9 ∷ []) (1 ∷ 2 ∷ 0 ∷ 9 ∷ []) us vs (Ok (pos 1))
    -- A column price list that is short; a column that is not below 3 in row 1, though row 0 is not named back; a column listed twice.
    ∷ line (1 ∷ 0 ∷ 2 ∷ []) (1 ∷ 0 ∷ 2 ∷ []) us (pos 0 ∷ pos 0 ∷ []) (refused ListLength 4)
    ∷ line (1 ∷ 3 ∷ 2 ∷ []) (1 ∷ 1 ∷ 2 ∷ []) us vs (refused ColumnOutside 1)
    ∷ line (1 ∷ 1 ∷ 2 ∷ []) (1 ∷ 0 ∷ 2 ∷ []) us vs (refused RowNotNamed 1)
    -- A column price over 10K; a column price one too high, and so over the cost at place (0, 1).
    ∷ line (1 ∷ 0 ∷ 2 ∷ []) (1 ∷ 0 ∷ 2 ∷ []) us (pos 0 ∷ pos 0 ∷ pos 10000000001 ∷ []) (refused PriceOutside 5)
    ∷ line (1 ∷ 0 ∷ 2 ∷ []) (1 ∷ 0 ∷ 2 ∷ []) us (negsuc 0 ∷ pos 1 ∷ negsuc 0 ∷ []) (refused_by PricesOverCost 1 (negsuc 0))
    ∷ []

-- "[K, 900,000,000 / 900,000,000, 0] pairs the barred place for K although 1,800,000,000 avoids it": the same in numbers that a night with bars may have.
abbrev pub dear_costs : List ℤ
dear_costs = pos 1000000 ∷ pos 900000 ∷ pos 900000 ∷ pos 0 ∷ []

abbrev pub dear_us : List ℤ
dear_us = pos 900000 ∷ pos 0 ∷ []

abbrev pub dear_vs : List ℤ
dear_vs = pos 900000 ∷ pos 0 ∷ []

-- The line that the checker makes of a line's lists and of bars.
abbrev pub checked_barred : List ℕ → Line → Line
checked_barred bars l =
    line l.cols l.rows l.prices_of_rows l.prices_of_columns (check_barred 2 dear_costs l.cols l.rows l.prices_of_rows l.prices_of_columns bars)

-- Column 0 is barred to row 0.
abbrev pub barred_nights : List Line
barred_nights =
    -- The prices of the barred place, 900,000 both, are over its cost: there 9 is skipped.
    line (1 ∷ 0 ∷ []) (1 ∷ 0 ∷ []) dear_us dear_vs (Ok (pos 1800000))
    -- The cheaper pairing has a barred pair.
    ∷ line (0 ∷ 1 ∷ []) (0 ∷ 1 ∷ []) dear_us dear_vs (refused BarredPair 0)
    -- A column price one too high, and so over the cost at place (0, 1), which is allowed.
    ∷ line (1 ∷ 0 ∷ []) (1 ∷ 0 ∷ []) dear_us (pos 900000 ∷ pos 1 ∷ []) (refused_by PricesOverCost 1 (negsuc 0))
    ∷ []

-- A bit from 2 up in row 1; a list of bars that is short; and no bars at all, where the first line is refused.
abbrev pub past_side : Line
past_side = line (1 ∷ 0 ∷ []) (1 ∷ 0 ∷ []) dear_us dear_vs (refused BarsPastSide 1)

abbrev pub bars_short : Line
bars_short = line (1 ∷ 0 ∷ []) (1 ∷ 0 ∷ []) dear_us dear_vs (refused ListLength 5)

abbrev pub none_barred : Line
none_barred = line (1 ∷ 0 ∷ []) (1 ∷ 0 ∷ []) dear_us dear_vs (refused_by PricesOverCost 0 (negsuc 799999))

-- Two rows and three columns: [3 1 0 / 0 0 2]. There is no list of rows.
abbrev pub oblong_costs : List ℤ
oblong_costs = pos 3 ∷ pos 1 ∷ pos 0 ∷ pos 0 ∷ pos 0 ∷ pos 2 ∷ []

abbrev pub no_prices : List ℤ
no_prices = pos 0 ∷ pos 0 ∷ pos 0 ∷ []

abbrev pub checked_oblong : Line → Line
checked_oblong l = line l.cols [] l.prices_of_rows l.prices_of_columns (check_oblong 2 3 oblong_costs l.cols l.prices_of_rows l.prices_of_columns)

abbrev pub oblong_nights : List Line
oblong_nights =
    -- Columns 2 0, and 2 1, for nothing.
    line (2 ∷ 0 ∷ []) [] no_prices no_prices (Ok (pos 0))
    ∷ line (2 ∷ 1 ∷ []) [] no_prices no_prices (Ok (pos 0))
    -- A column used twice; a column price list that is short, where two row prices are enough.
    ∷ line (2 ∷ 2 ∷ []) [] no_prices no_prices (refused RowNotNamed 1)
    ∷ line (2 ∷ 0 ∷ []) [] (pos 0 ∷ pos 0 ∷ []) (pos 0 ∷ pos 0 ∷ []) (refused ListLength 4)
    -- Spare column 1 has a price below the used ones.
    ∷ line (2 ∷ 0 ∷ []) [] no_prices (pos 0 ∷ negsuc 0 ∷ pos 0 ∷ []) (refused SpareBelow 1)
    -- The price of column 2 is named as 2 + 2.
    ∷ line (2 ∷ 0 ∷ []) [] no_prices (pos 0 ∷ pos 0 ∷ pos 10000000001 ∷ []) (refused PriceOutside 4)
    ∷ []
