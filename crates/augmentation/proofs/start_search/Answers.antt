-- `start_search` leaves the columns in their order, each as far as the start row makes it, and the start row as every predecessor. Assumes
-- nothing.
use Rattle.augmentation.proofs.Start.{started}
use Rattle.augmentation.proofs.start_search.Goals as goal

pub returns : goal.returns
returns c = started c.requires _ _ _ _ c.row.ensures c.first_distances.ensures c.number_columns.ensures (c.fill.ensures.after (λ y e. e))
