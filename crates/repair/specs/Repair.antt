-- The repair of a pairing after one row's costs changed: "repair it in place with one search". What a caller gets, and finds in the six lent lists, for
-- every input.
use Rattle.std.specs.Prelude.{List, ◌++◌, ℕ, ◌*◌, ℤ, pos, set, take, drop, replicate}
use Rattle.lists.specs.Permutations.{at}
use Rattle.assignment.specs.Pairings.{square, total}
use Rattle.matrix.specs.declared.refusals.Refusal.{Refusal}
use Rattle.matrix.specs.Verdicts.{Verdict}
use Rattle.std.specs.Prelude.{Ok, Err}
use Rattle.matrix.specs.Answers.{Answer}
use Rattle.rules.specs.Columns.{free, Pairs}
use Rattle.rules.specs.Augmentation.{Progress, augment}
use Rattle.rules.specs.Run.{prices_of_rows}
use Rattle.lapjv.specs.Solve.{Lent}
use Rattle.repair.specs.Tests.{repair_tests}

-- The row and its column are freed. (The row still lists it, as every free row lists one.)
abbrev pub freed : Pairs → ℕ → Pairs
freed p row = record { cols = p.cols; rows = set p.rows (at p.cols row) free }

-- Before the search: the row is freed, under the prices that the columns have.
abbrev pub unpaired : Pairs → List ℤ → ℕ → Progress
unpaired p vs row = record { pairs = freed p row; prices = vs; scanned = 0 }

-- One search from the row, by rules 5 and 6.
unfoldable pub mended : ℕ → (ℕ → ℕ → ℤ) → Pairs → List ℤ → ℕ → Progress
mended n cost p vs row = augment n cost (unpaired p vs row) row

-- What a repair comes to.
pub record Repaired : Type 0 where
  pub cols : List ℕ
  pub rows : List ℕ
  pub prices_of_rows : List ℤ
  pub prices_of_columns : List ℤ
  pub total : ℤ

-- Pairs and column prices, with the row prices anew and the total.
abbrev pub repaired_by : ℕ → List ℤ → Progress → Repaired
repaired_by n costs x = record {
  cols = x.pairs.cols;
  rows = x.pairs.rows;
  prices_of_rows = prices_of_rows n (square n costs).cost x.pairs.cols x.prices;
  prices_of_columns = x.prices;
  total = total (square n costs) x.pairs.cols;
}

-- The first n entries of the lists, mended.
abbrev pub mended_in : ℕ → List ℤ → ℕ → Lent → Progress
mended_in n costs row lent =
    mended n (square n costs).cost (record { cols = take n lent.cols; rows = take n lent.rows }) (take n lent.prices_of_columns) row

-- What a caller gets and finds.
pub record Outcome : Type 0 where
  pub answer : Answer
  pub lent : Lent

abbrev pub outcome_of : Answer → Lent → Outcome
outcome_of answer lent = record { answer = answer; lent = lent }

-- "A refused repair changes nothing."
abbrev pub refused : Lent → Refusal → Outcome
refused lent refusal = outcome_of (Err refusal) lent

-- The first n entries of each output hold the repaired pairing, the rooms are left "as the solver's", and later entries are untouched.
abbrev pub settled : ℕ → Lent → Repaired → Outcome
settled n lent r = record {
  answer = Ok r.total;
  lent = record {
    cols = r.cols ++ drop n lent.cols;
    rows = r.rows ++ drop n lent.rows;
    prices_of_rows = r.prices_of_rows ++ drop n lent.prices_of_rows;
    prices_of_columns = r.prices_of_columns ++ drop n lent.prices_of_columns;
    indices = replicate (4 * n) 0 ++ drop (4 * n) lent.indices;
    numbers = replicate n (pos 0) ++ drop n lent.numbers;
  };
}

-- What a caller gets and finds, from the verdict on the input.
unfoldable pub outcome : ℕ → List ℤ → ℕ → Lent → Verdict → Outcome
outcome n costs row lent (Ok _) = settled n lent (repaired_by n costs (mended_in n costs row lent))
outcome n costs row lent (Err refusal) = refused lent refusal

-- The repair.
unfoldable pub repair : ℕ → List ℤ → ℕ → Lent → Outcome
repair n costs row lent = outcome n costs row lent (repair_tests n costs row lent)
