-- `row` hands back a row of a square. Assumes nothing.
use native.Mathlib.Nat.{mul-le-mul_right}
use native.Mathlib.Omega.{arith}
use Rattle.matrix.proofs.rows.row.Goals as goal

pub row_of-requires : goal.row_of-requires
row_of-requires c = omega (arith, mul-le-mul_right c.args.n c.requires.0, c.requires.1)

pub returns : goal.returns
returns c = c.row_of.ensures
