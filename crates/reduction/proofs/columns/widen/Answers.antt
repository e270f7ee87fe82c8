use Rattle.std.proofs.Common.{◌∙◌, pos, arith}
use lib.Seq.{ext_get_or}
use Rattle.reduction.proofs.columns.widen.Goals as goal

pub returns : goal.returns
returns c = ext_get_or (pos 0) c.loop-j.v c.args.row.now (c.loop-j.auto.v ∙ c.requires) (λ k h. c.loop-j.invariant k (omega arith))
