use mathlib.Core.Path.{refl}
use Rattle.augmentation.proofs.Prices.{first_change, minimum_is, changed, add_fits, next}
use Rattle.augmentation.proofs.change_prices.Goals as goal

pub loop-ready-init : goal.loop-ready-init
loop-ready-init c = first_change c.requires refl

pub overflow_add-v : goal.overflow_add-v
overflow_add-v c = add_fits c.loop-ready.invariant c.loop-ready-test.true

pub loop-ready-preserved : goal.loop-ready-preserved
loop-ready-preserved c = next c.loop-ready.invariant c.loop-ready-test.true

pub returns : goal.returns
returns c = changed c.loop-ready.invariant c.loop-ready-test.false (minimum_is c.requires)
