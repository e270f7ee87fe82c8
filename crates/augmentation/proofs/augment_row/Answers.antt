-- `augment_row` gives a row its column: the column that is hit, or the one that a search finds, with the pairs flipped back. Assumes nothing.
use Rattle.augmentation.proofs.OneRow.{can_search, way_back, searched_row, hit_row}
use Rattle.augmentation.proofs.augment_row.Goals as goal

pub hit-requires : goal.hit-requires
hit-requires c = can_search c.requires

pub returns-in-Some : goal.returns-in-Some
returns-in-Some c = hit_row c.requires c.in-Some.j c.in-Some.ensures

pub find_path_dense-reached-requires-clause-can : goal.find_path_dense-reached-requires-clause-can
find_path_dense-reached-requires-clause-can c = can_search c.requires

pub flip_back-requires : goal.flip_back-requires
flip_back-requires c = way_back c.requires c.find_path_dense-reached.ensures

pub returns : goal.returns
returns c = searched_row c.requires c.find_path_dense-reached.ensures c.flip_back.ensures
