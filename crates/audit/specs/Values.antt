-- What the scope says of each case of what the auditor is told.
use Rattle.std.specs.Prelude.{Bool, true, false, ℕ, ℤ, pos}
use Rattle.matrix.specs.Refusals.{number_of, place_of, slack_of}
use Rattle.audit.specs.Audit.{Audited}
use Rattle.std.specs.Prelude.{Ok, Err}

-- Number, place and slack of a refusal, all 0 where the slip holds; side and total.
pub record AuditedValues : Type 0 where
  pub accepted : Bool
  pub number : ℕ
  pub place : ℕ
  pub slack : ℤ
  pub side : ℕ
  pub total : ℤ

-- "side and total 0 on refusal".
abbrev pub audited_values : Audited → AuditedValues
audited_values (Ok held) = record { accepted = true; number = 0; place = 0; slack = pos 0; side = held.side; total = held.total }
audited_values (Err refusal) = record { accepted = false; number = number_of refusal; place = place_of refusal; slack = slack_of refusal; side = 0; total = pos 0 }
