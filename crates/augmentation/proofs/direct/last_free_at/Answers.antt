-- `last_free_at` answers the last column at which its test holds. Assumes nothing.
use Rattle.std.proofs.Common.{rules}
use Rattle.std.proofs.iter.runs.Sources.{ranges}
use Rattle.augmentation.proofs.direct.last_free_at.Goals as goal

pub returns : goal.returns
returns c = search (rules, ranges)
