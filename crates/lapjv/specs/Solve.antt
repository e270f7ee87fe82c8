-- The solver: what it answers, and what a caller finds in the six lent lists, for every input.
use Rattle.std.specs.Prelude.{List, [], ◌∷◌, ◌++◌, ℕ, ◌*◌, ℤ, pos, length, drop, replicate}
use Rattle.matrix.specs.Verdicts.{◌then◌}
use Rattle.matrix.specs.Tests.{shaped, rooms_long, costs_within}
use Rattle.matrix.specs.declared.refusals.Refusal.{Refusal}
use Rattle.matrix.specs.Verdicts.{Verdict}
use Rattle.std.specs.Prelude.{Ok, Err}
use Rattle.std.specs.Prelude as std
use Rattle.rules.specs.Run.{Result}
use Rattle.lapjv.specs.Answers.{answer}
use Rattle.lapjv.specs.declared.Sums.{Sums}

-- What the solver answers: what a paired night comes to, or why the input is refused.
abbrev pub Solved : Type 0
Solved = std.Result Sums Refusal

-- The six lent lists: columns, rows, row prices, column prices, and the two work rooms.
pub record Lent : Type 0 where
  pub cols : List ℕ
  pub rows : List ℕ
  pub prices_of_rows : List ℤ
  pub prices_of_columns : List ℤ
  pub indices : List ℕ
  pub numbers : List ℤ

abbrev pub lent_of : List ℕ → List ℕ → List ℤ → List ℤ → List ℕ → List ℤ → Lent
lent_of cols rows us vs indices numbers = record { cols = cols; rows = rows; prices_of_rows = us; prices_of_columns = vs; indices = indices; numbers = numbers }

-- "Solver: 1, 2, 3, 4, 5."
unfoldable pub tested : ℕ → List ℤ → Lent → Verdict
tested n costs lent =
    shaped n costs (length lent.cols ∷ length lent.rows ∷ length lent.prices_of_rows ∷ length lent.prices_of_columns ∷ [])
    then rooms_long n (length lent.indices) (length lent.numbers)
    then costs_within costs

-- What a caller gets and finds.
pub record Outcome : Type 0 where
  pub answer : Solved
  pub lent : Lent

abbrev pub outcome_of : Solved → Lent → Outcome
outcome_of answer lent = record { answer = answer; lent = lent }

-- "A refusal [..] changes no lent entry."
abbrev pub refused : Lent → Refusal → Outcome
refused lent refusal = outcome_of (Err refusal) lent

-- "After acceptance the first n entries of each output hold the answer, the first 4n and n work entries are 0, and later entries are
-- untouched. [..] The answer carries the total and" six "counts."
abbrev pub paired : ℕ → Lent → Result → Outcome
paired n lent a = record {
  answer = Ok (record { total = a.total; counts = a.counts });
  lent = record {
    cols = a.cols ++ drop n lent.cols;
    rows = a.rows ++ drop n lent.rows;
    prices_of_rows = a.prices_of_rows ++ drop n lent.prices_of_rows;
    prices_of_columns = a.prices_of_columns ++ drop n lent.prices_of_columns;
    indices = replicate (4 * n) 0 ++ drop (4 * n) lent.indices;
    numbers = replicate n (pos 0) ++ drop n lent.numbers;
  };
}

-- What a caller gets and finds, from the verdict on the input.
unfoldable pub outcome : ℕ → List ℤ → Lent → Verdict → Outcome
outcome n costs lent (Ok _) = paired n lent (answer n costs)
outcome n costs lent (Err refusal) = refused lent refusal

-- The solver.
unfoldable pub solve : ℕ → List ℤ → Lent → Outcome
solve n costs lent = outcome n costs lent (tested n costs lent)
