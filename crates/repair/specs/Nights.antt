-- Repairs on paper.
use Rattle.std.specs.Prelude.{List, [], ◌∷◌, ℕ, ◌*◌, ℤ, pos, neg_ℤ, replicate}
use Rattle.matrix.specs.Limits.{K}
use Rattle.matrix.specs.declared.refusals.Reason.{Reason}
use Rattle.matrix.specs.declared.refusals.Reason.TheVariants.{ColumnOutside, PriceOutside, PricesOverCost, PricesNotCost, PriceFar}
use Rattle.std.specs.Prelude.{Ok, Err}
use Rattle.lapjv.specs.Solve.{Lent, lent_of}
use Rattle.repair.specs.Repair.{outcome_of, Outcome, repair}

-- A night of side 2 with the changed row, what is lent, and what is got and found. The rooms have 8 indices and 2 numbers.
pub record Line : Type 0 where
  pub costs : List ℤ
  pub row : ℕ
  pub before : Lent
  pub after : Outcome

-- The line that the repair makes of a line's input.
abbrev pub made : Line → Line
made l = record { costs = l.costs; row = l.row; before = l.before; after = repair 2 l.costs l.row l.before }

-- k times K, above and below 0.
abbrev pub above : ℕ → ℤ
above k = pos (k * K)

abbrev pub below : ℕ → ℤ
below k = neg_ℤ (pos (k * K))

-- Two columns, two rows, two row prices, two column prices; rooms of 8 and 2 that hold a number.
abbrev pub pairs : List ℕ → List ℕ → List ℤ → List ℤ → ℕ → ℤ → Lent
pairs cols rows us vs index number = lent_of cols rows us vs (replicate 8 index) (replicate 2 number)

abbrev pub mending : List ℤ → ℕ → Lent → ℤ → Lent → Line
mending costs row before total after = record { costs = costs; row = row; before = before; after = outcome_of (Ok total) after }

-- A refused repair changes nothing.
abbrev pub refusing : List ℤ → ℕ → Lent → Reason → ℕ → ℤ → Line
refusing costs row before reason place slack = record {
  costs = costs;
  row = row;
  before = before;
  after = outcome_of (Err (record { reason = reason; place = place; slack = slack })) before;
}

-- [K -K / -K -K], whose row 1 becomes K -K.
abbrev pub changed : List ℤ
changed = above 1 ∷ below 1 ∷ above 1 ∷ below 1 ∷ []

abbrev pub crossed : List ℕ
crossed = 1 ∷ 0 ∷ []

-- The old prices 6K and -7K, and the same with one of them moved.
abbrev pub old : Lent
old = pairs crossed crossed (above 6 ∷ above 6 ∷ []) (below 7 ∷ below 7 ∷ []) 9 (pos 9)

abbrev pub nights : List Line
nights =
    -- "u 6K 6K, v -7K -7K gives v -7K -9K": the search passes over column 1, whose price falls by 2K, to the column given up.
    mending changed 1 old (pos 0) (pairs crossed crossed (above 8 ∷ above 8 ∷ []) (below 7 ∷ below 9 ∷ []) 0 (pos 0))
    -- The row does not change: row 0 gets its column back.
    ∷ mending changed 0 (pairs crossed crossed (pos 0 ∷ pos 0 ∷ []) (above 1 ∷ below 1 ∷ []) 9 (pos 9)) (pos 0)
    (pairs crossed crossed (pos 0 ∷ pos 0 ∷ []) (above 1 ∷ below 1 ∷ []) 0 (pos 0))
    -- A row number that is the side; a price of 7K and 1, though the prices of row 0 are over its cost; the changed row's own old price.
    ∷ refusing changed 2 old ColumnOutside 2 (pos 0)
    ∷ refusing changed 1 (pairs crossed crossed (above 6 ∷ above 6 ∷ []) (pos 7000000001 ∷ below 7 ∷ []) 9 (pos 9)) PriceFar 2 (pos 0)
    ∷ refusing changed 1 (pairs crossed crossed (above 6 ∷ above 8 ∷ []) (below 7 ∷ below 7 ∷ []) 9 (pos 9)) PriceFar 1 (pos 0)
    -- Over 10K it is 8.
    ∷ refusing changed 1 (pairs crossed crossed (above 6 ∷ above 11 ∷ []) (below 7 ∷ below 7 ∷ []) 9 (pos 9)) PriceOutside 1 (pos 0)
    -- 9 and 10 of the row that did not change, with their slack.
    ∷ refusing changed 1 (pairs crossed crossed (above 7 ∷ above 6 ∷ []) (below 7 ∷ below 7 ∷ []) 9 (pos 9)) PricesOverCost 1 (below 1)
    ∷ refusing changed 1 (pairs crossed crossed (above 5 ∷ above 6 ∷ []) (below 7 ∷ below 7 ∷ []) 9 (pos 9)) PricesNotCost 0 (above 1)
    ∷ []
