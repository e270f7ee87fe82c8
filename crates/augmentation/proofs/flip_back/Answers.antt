use Rattle.augmentation.proofs.Flips.{first-flip, last-flip, next_flip, fewer}
use Rattle.augmentation.proofs.flip_back.Goals as goal

pub loop-i-init : goal.loop-i-init
loop-i-init c = first-flip c.requires

pub loop-i-smaller : goal.loop-i-smaller
loop-i-smaller c = fewer c.loop-i.invariant c.if-i-start.false

pub loop-i-preserved : goal.loop-i-preserved
loop-i-preserved c = next_flip c.loop-i.invariant c.if-i-start.false

pub returns : goal.returns
returns c = last-flip c.loop-i.invariant c.if-i-start.true
