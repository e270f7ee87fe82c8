-- `some_above` answers whether a price is above v. Assumes nothing.
use Rattle.std.proofs.Common.{rules}
use Rattle.std.proofs.iter.runs.Sources.{ranges}
use Rattle.checker.proofs.Found.{some_by_any}
use Rattle.checker.proofs.choices.some_above.Goals as goal

pub returns : goal.returns
returns c = some_by_any _ _ _ (search (rules, ranges))
