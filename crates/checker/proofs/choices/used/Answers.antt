-- `used` answers whether a row has the column. Assumes nothing.
use Rattle.std.proofs.Common.{rules}
use Rattle.std.proofs.iter.runs.Sources.{ranges}
use Rattle.checker.proofs.Found.{some_by_any}
use Rattle.checker.proofs.choices.used.Goals as goal

pub returns : goal.returns
returns c = some_by_any _ _ _ (search (rules, ranges))
