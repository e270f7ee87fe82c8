-- The entries: what each answers, and what a caller finds in the three lists that it may write, for every input.
use Rattle.std.specs.Prelude.{Bool, true, false, Result, Ok, Err, List, [], ◌∷◌, ◌++◌, ℕ, ◌*◌, ℤ, pos, length, drop, replicate}
use Rattle.assignment.specs.Pairings.{Night, square, total}
use Rattle.matrix.specs.Refusals.{number_of, place_of, slack_of}
use Rattle.matrix.specs.Verdicts.{Verdict, ◌then◌}
use Rattle.matrix.specs.Tests.{list_long, shaped, rooms_long}
use Rattle.matrix.specs.declared.refusals.Refusal.{Refusal}
use Rattle.bars.specs.Barred.{night_of, barred}
use Rattle.checker.specs.Tests.{spares_not_below}
use Rattle.checker.specs.Check.{price_tests, proof_tests, shaped_barred, paired_barred, shaped_oblong, paired_oblong}
use Rattle.swaps.specs.Second.{second}
use Rattle.swaps.specs.Found.{another, written_front}
use Rattle.swaps.specs.declared.Pairings.{Pairings}

-- What an entry answers: what the pairing comes to and whether another does, or why the input is refused.
abbrev pub Seconded : Type 0
Seconded = Result Pairings Refusal

-- The lists that may be written: the second's columns, and the two work rooms.
pub record Lent : Type 0 where
  pub list : List ℕ
  pub indices : List ℕ
  pub numbers : List ℤ

abbrev pub lent_of : List ℕ → List ℕ → List ℤ → Lent
lent_of list indices numbers = record { list = list; indices = indices; numbers = numbers }

-- What a caller gets and finds.
pub record Outcome : Type 0 where
  pub answer : Seconded
  pub lent : Lent

abbrev pub outcome_of : Seconded → Lent → Outcome
outcome_of answer lent = record { answer = answer; lent = lent }

-- From the verdict on a night, a pairing and its prices: the total and whether there is another, "the second's columns go to list 6, untouched for
-- "only one"", and the work room "left as there"; a refusal changes nothing.
unfoldable pub outcome : Night → List ℕ → List ℤ → List ℤ → Lent → Verdict → Outcome
outcome night cols us vs lent (Ok _) = record {
  answer = Ok (record { total = total night cols; another = another (second night us vs cols) });
  lent = record {
    list = written_front night.row_count (second night us vs cols) lent.list;
    indices = replicate (4 * night.column_count) 0 ++ drop (4 * night.column_count) lent.indices;
    numbers = replicate night.column_count (pos 0) ++ drop night.column_count lent.numbers;
  };
}
outcome night cols us vs lent (Err refusal) = outcome_of (Err refusal) lent

-- 3 of "list 6", which needs as many entries as there are rows; and "4 after 3 with the solver's work room".
abbrev pub lent_long : ℕ → ℕ → Lent → Verdict
lent_long m n lent = list_long 6 m (length lent.list) then rooms_long n (length lent.indices) (length lent.numbers)

-- "It tests as the checker does": 1, 2, 3, 4, 5, 6, 7, 8, 9, 10.
unfoldable pub second_tests : ℕ → List ℤ → List ℕ → List ℕ → List ℤ → List ℤ → Lent → Verdict
second_tests n costs cols rows us vs lent =
    shaped n costs (length cols ∷ length rows ∷ length us ∷ length vs ∷ [])
    then lent_long n n lent
    then proof_tests n costs cols rows us vs

-- "either "only one" or a second pairing with the same total", of a square night.
unfoldable pub second_square : ℕ → List ℤ → List ℕ → List ℕ → List ℤ → List ℤ → Lent → Outcome
second_square n costs cols rows us vs lent = outcome (square n costs) cols us vs lent (second_tests n costs cols rows us vs lent)

-- ---- with bars

-- 1, 2, 3, 4, 5, 22, 6, 7, 26, 8, 9, 10.
unfoldable pub second_barred_tests : ℕ → List ℤ → List ℕ → List ℕ → List ℤ → List ℤ → List ℕ → Lent → Verdict
second_barred_tests n costs cols rows us vs bars lent =
    shaped_barred n costs (length cols ∷ length rows ∷ length us ∷ length vs ∷ []) (length bars)
    then lent_long n n lent
    then paired_barred n costs cols rows bars
    then price_tests (barred n costs bars) cols us vs

unfoldable pub second_barred : ℕ → List ℤ → List ℕ → List ℕ → List ℤ → List ℤ → List ℕ → Lent → Outcome
second_barred n costs cols rows us vs bars lent = outcome (barred n costs bars) cols us vs lent (second_barred_tests n costs cols rows us vs bars lent)

-- ---- an oblong night: "list 6 needs m entries", "rooms 4n and n"

-- 1, 23, 2, 3, 4, 5, 6, 7, 8, 9, 10, 27.
unfoldable pub second_oblong_tests : ℕ → ℕ → List ℤ → List ℕ → List ℤ → List ℤ → Lent → Verdict
second_oblong_tests m n costs cols us vs lent =
    shaped_oblong m n costs (length cols) (length us) (length vs)
    then lent_long m n lent
    then paired_oblong m n costs cols
    then price_tests (night_of m n costs []) cols us vs
    then spares_not_below m n cols vs

unfoldable pub second_oblong : ℕ → ℕ → List ℤ → List ℕ → List ℤ → List ℤ → Lent → Outcome
second_oblong m n costs cols us vs lent = outcome (night_of m n costs []) cols us vs lent (second_oblong_tests m n costs cols us vs lent)

-- ---- what the scope says of each case of the answer

-- Number, place and slack of a refusal, all 0 where the input is accepted; the total, and whether there is another.
pub record SecondValues : Type 0 where
  pub accepted : Bool
  pub number : ℕ
  pub place : ℕ
  pub slack : ℤ
  pub total : ℤ
  pub also : Bool

-- "a refusal has total and also 0, and slack 0 but for 9 and 10".
abbrev pub second_values : Seconded → SecondValues
second_values (Ok pairings) = record { accepted = true; number = 0; place = 0; slack = pos 0; total = pairings.total; also = pairings.another }
second_values (Err refusal) = record { accepted = false; number = number_of refusal; place = place_of refusal; slack = slack_of refusal; total = pos 0; also = false }

-- The values of the answer, and the lent lists.
pub record Found : Type 0 where
  pub values : SecondValues
  pub lent : Lent

abbrev pub told_of : Outcome → Found
told_of o = record { values = second_values o.answer; lent = o.lent }
