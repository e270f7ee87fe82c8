use native.Mathlib.Omega.{arith}
use Rattle.augmentation.proofs.Filled.{is_table}
use Rattle.augmentation.proofs.number_columns.Goals as goal

pub returns : goal.returns
returns c = is_table _ _ _ _ (omega arith) (λ k h. c.loop-j.invariant k (omega arith))
