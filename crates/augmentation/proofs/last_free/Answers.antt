-- `last_free` answers the last free column of a block: the last free place, by its own test, has it. Assumes nothing.
use mathlib.Core.Path.{◌≡◌, ◌∙◌}
use lib.Dec.{leb}
use lib.ListN.{length}
use Rattle.std.proofs.Common.{rules}
use Rattle.std.proofs.iter.runs.Sources.{ranges}
use Rattle.std.specs.Option.{option_map}
use Rattle.lists.specs.Permutations.{at}
use Rattle.augmentation.proofs.LastFree.{LastFrom, last_free_by}
use Rattle.augmentation.proofs.last_free.Goals as goal

pub returns : goal.returns
returns c =
    let u = c.args in
    let place : LastFrom u.lo u.hi (λ k. leb (length u.rows.now) (at u.rows.now (at u.list.now k))) c.find-place.result = search (rules, ranges) in
    let column : c.map.result ≡ option_map (at u.list.now) c.find-place.result = search rules in
    column ∙ last_free_by (length u.rows.now) (at u.rows.now) u.list.now u.lo u.hi c.requires.0 c.find-place.result place
