-- `total` answers what the listed rows of a square cost. Assumes nothing.
use mathlib.Core.Path.{◌∙◌}
use native.Mathlib.Nat.{le_trans, mul-le-mul_right}
use native.Mathlib.Omega.{arith}
use mir.Syntax.{w64}
use Rattle.ints.proofs.Bits.{read_back}
use Rattle.matrix.proofs.total.Goals as goal

pub total_of-requires : goal.total_of-requires
total_of-requires c =
    let p = c.requires in (
      le_trans p.rows p.small,
      p.small,
      omega (arith, mul-le-mul_right c.args.n p.rows, p.squared),
      record { listed = p.listed; inside = p.inside },
    )

pub returns : goal.returns
returns c = read_back w64 c.total_of.result c.total_of.type_inv ∙ c.total_of.ensures
