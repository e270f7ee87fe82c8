-- `taken` answers whether a row before row i has its column. Assumes nothing.
use Rattle.std.proofs.Common.{rules}
use Rattle.std.proofs.iter.runs.Sources.{ranges}
use Rattle.plain.proofs.Pairings.{taken_before}
use Rattle.plain.proofs.taken.Goals as goal

pub returns : goal.returns
returns c = taken_before _ _ _ (search (rules, ranges))
