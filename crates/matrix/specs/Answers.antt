-- What the scope says of each case of an answer, and the answer from a verdict.
use Rattle.std.specs.Prelude.{Bool, true, false, ℕ, ℤ, pos, Result, Ok, Err}
use Rattle.matrix.specs.Refusals.{number_of, place_of, slack_of}
use Rattle.matrix.specs.Verdicts.{Verdict}
use Rattle.matrix.specs.declared.refusals.Refusal.{Refusal}

-- What an entry answers: a total, or why the input is refused.
abbrev pub Answer : Type 0
Answer = Result ℤ Refusal

-- Number, place and slack of a refusal, all 0 where the input is accepted, and the total.
pub record Values : Type 0 where
  pub accepted : Bool
  pub number : ℕ
  pub place : ℕ
  pub slack : ℤ
  pub total : ℤ

-- "A refusal has total 0, counts 0, a place".
abbrev pub values_of : Answer → Values
values_of (Ok total) = record { accepted = true; number = 0; place = 0; slack = pos 0; total = total }
values_of (Err refusal) = record { accepted = false; number = number_of refusal; place = place_of refusal; slack = slack_of refusal; total = pos 0 }

-- An answer but for its slack.
unfoldable pub bare_answer : Answer → Answer
bare_answer (Ok total) = Ok total
bare_answer (Err refusal) = Err (record { reason = refusal.reason; place = place_of refusal; slack = pos 0 })

-- An answer from the verdict on an input: the refusal, else the total.
unfoldable pub totalled : Verdict → ℤ → Answer
totalled (Ok _) total = Ok total
totalled (Err refusal) total = Err refusal
