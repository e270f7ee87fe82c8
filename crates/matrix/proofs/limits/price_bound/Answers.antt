-- `price_bound` answers 10K. Assumes nothing.
use mathlib.Core.Path.{◌∙◌}
use native.Mathlib.Omega.{arith}
use mir.Facts.{to_z-of_z}
use Rattle.matrix.proofs.Multiples.{multiple, multiple_fits}
use Rattle.matrix.proofs.limits.price_bound.Goals as goal

pub overflow_mul-result : goal.overflow_mul-result
overflow_mul-result c = multiple_fits 10 (omega arith) c.bound.result c.bound.ensures c.bound.type_inv

pub returns : goal.returns
returns c =
    let b = c.bound in
    to_z-of_z (multiple_fits 10 (omega arith) b.result b.ensures b.type_inv) ∙ multiple 10 (omega arith) b.result b.ensures b.type_inv
