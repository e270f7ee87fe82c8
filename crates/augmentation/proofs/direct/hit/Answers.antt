-- `hit` answers the last free column at the row's least reduced cost. Assumes nothing.
use mathlib.Core.Path.{◌≡◌, sym, ap, ◌∙◌}
use lib.ListN.{length}
use mir.Syntax.{w64}
use mir.Val.{to_z, of_z}
use Rattle.std.proofs.Common.{rules}
use Rattle.lists.specs.Permutations.{at}
use Rattle.rules.specs.Lowest.{lowest}
use Rattle.augmentation.specs.DirectHit.{reduced_in, free_at, LastOf}
use Rattle.augmentation.proofs.Scan.{row_length}
use Rattle.augmentation.proofs.direct.hit.Goals as goal

pub returns : goal.returns
returns c =
    let u = c.args in
    let p = c.requires in
    let n = length u.rows.now in
    let row = c.row-own.result.now in
    let g = reduced_in row u.v.now in
    let low : to_z w64 (of_z w64 c.least_of-least.result) ≡ (lowest (length row) g).value = search rules in
    let size : length row ≡ n = ap length c.row-own.ensures ∙ row_length _ _ _ p.start_below p.costs_size in
    let found : LastOf n (free_at n g (at u.rows.now) (lowest n g).value) c.last_free_at.result = rw (low, size) at c.last_free_at.ensures in
    rw (sym c.row-own.ensures) found
