-- `mend` is one search from the freed row. Assumes nothing.
use Rattle.rules.specs.Columns.{free}
use Rattle.repair.proofs.Mending.{can_augment, mended_by}
use Rattle.repair.proofs.mend.Goals as goal

pub ca_dense-requires : goal.ca_dense-requires
unfolding free
ca_dense-requires c =
    let u = c.args in
    can_augment u.n u.costs.now u.row u.cols.now u.rows.now u.v.now u.room.now u.d.now c.requires

pub returns : goal.returns
unfolding free
returns c =
    let u = c.args in
    let left = c.ca_dense.new in
    mended_by u.n u.costs.now u.row u.cols.now u.rows.now u.v.now u.room.now u.d.now c.requires
    left.cols left.rows left.v left.room c.ca_dense.result c.ca_dense.ensures
