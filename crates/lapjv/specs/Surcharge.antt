-- What amounts on the columns make of what a caller of the solver gets and finds.
use Rattle.std.specs.Prelude.{Ok, Err, ◌++◌, ℕ, ℤ, ◌+ℤ◌, take, drop}
use Rattle.lists.specs.Sums.{sum}
use Rattle.assignment.specs.Amounts.{risen}
use Rattle.lapjv.specs.Solve.{Solved, Outcome, lent_of, outcome_of}

-- The total rises by t; the counts stay.
abbrev pub total_risen : ℤ → Solved → Solved
total_risen t (Ok night) = Ok (record { total = night.total +ℤ t; counts = night.counts })
total_risen t (Err refusal) = Err refusal

-- The first n column prices each rise by their column's amount, and the total by the sum of the amounts; every other lent entry is as without them.
abbrev pub surcharged_outcome : ℕ → (ℕ → ℤ) → Outcome → Outcome
surcharged_outcome n amount o =
    let v = o.lent.prices_of_columns in
    outcome_of (total_risen (sum n amount) o.answer)
    (lent_of o.lent.cols o.lent.rows o.lent.prices_of_rows (risen amount (take n v) ++ drop n v) o.lent.indices o.lent.numbers)
