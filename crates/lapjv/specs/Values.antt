-- What the scope says of each case of the solver's answer, and what a caller is told and finds.
use Rattle.std.specs.Prelude.{Ok, Err, Bool, true, false, ℕ, ℤ, pos}
use Rattle.matrix.specs.Refusals.{number_of, place_of, slack_of}
use Rattle.rules.specs.declared.Counts.{Counts}
use Rattle.rules.specs.Nights.{six}
use Rattle.lapjv.specs.Solve.{Solved, Lent, Outcome}

-- "counts 0".
abbrev pub no_counts : Counts
no_counts = six 0 0 0 0 0 0

-- Number, place and slack of a refusal, all 0 where the night is paired, the total and the counts.
pub record SolvedValues : Type 0 where
  pub accepted : Bool
  pub number : ℕ
  pub place : ℕ
  pub slack : ℤ
  pub total : ℤ
  pub counts : Counts

-- "A refusal has total 0, counts 0, a place".
abbrev pub solved_values : Solved → SolvedValues
solved_values (Ok night) = record { accepted = true; number = 0; place = 0; slack = pos 0; total = night.total; counts = night.counts }
solved_values (Err refusal) = record { accepted = false; number = number_of refusal; place = place_of refusal; slack = slack_of refusal; total = pos 0; counts = no_counts }

-- The values of the answer, and the lent lists.
pub record Told : Type 0 where
  pub values : SolvedValues
  pub lent : Lent

abbrev pub told_of : Outcome → Told
told_of o = record { values = solved_values o.answer; lent = o.lent }
