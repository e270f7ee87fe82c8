-- `change_prices` adds to the price of each ready column its distance minus the last block's: the loop is the definition's, a column a turn.
use lib.ListN.{length}
use Rattle.augmentation.proofs.Prices.{Changing}
use Rattle.augmentation.proofs.change_prices.Given as goal

abbrev pub invariant-loop-ready : goal.invariant-loop-ready
invariant-loop-ready l = Changing (length l.initial.v) l.lo l.list l.d l.initial.v l.minimum l.v l.ready-index
