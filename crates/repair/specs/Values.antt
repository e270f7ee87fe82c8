-- What the scope says of each case of a repair's answer, and what a caller is told and finds.
use Rattle.matrix.specs.Answers.{Values, values_of}
use Rattle.lapjv.specs.Solve.{Lent}
use Rattle.repair.specs.Repair.{Outcome}

-- The values of the answer, and the lent lists.
pub record Told : Type 0 where
  pub values : Values
  pub lent : Lent

abbrev pub told_of : Outcome → Told
told_of o = record { values = values_of o.answer; lent = o.lent }
