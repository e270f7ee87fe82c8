-- `total_of` answers what the listed rows cost: after i rows the total has the bits of the sum of their costs. Assumes nothing.
use Rattle.std.proofs.Common.{◌≡◌, ℕ, ◌+◌, ◌*◌, ◌^◌, ◌<◌, List, ℤ, ap₂, sym, ◌∙◌, add-one, arith}
use lib.IntN.{◌+ℤ◌}
use lib.Signed.{mag}
use mir.Syntax.{w32, w64}
use mir.Val.{to_z, of_z}
use Rattle.ints.specs.Parts.{Within}
use Rattle.ints.proofs.Shapes.{zlin}
use Rattle.ints.proofs.Bits.{read_back, told}
use Rattle.lists.specs.Permutations.{at}
use Rattle.lists.proofs.Sums.{sum_none, sum-last}
use Rattle.assignment.specs.Pairings.{signed_at}
use Rattle.matrix.specs.Cost.{total_of}
use Rattle.matrix.proofs.SmallLimits.{side_small}
use Rattle.matrix.proofs.total_of.Goals as goal

-- a turn, over plain variables: t has the bits of the total so far, r is the new one
module _ (n : ℕ) (costs : List ℤ) (cols : List ℕ) (i t : ℕ) (r : ℤ) (small : mag (signed_at costs (i * n + at cols i)) < 2 ^ 31)
    (added : r ≡ to_z w64 t +ℤ to_z w32 (of_z w32 (signed_at costs (i * n + at cols i)))) (fits : mag r < 2 ^ 63) where
  turn : to_z w64 t ≡ total_of n costs i cols → to_z w64 (of_z w64 r) ≡ total_of n costs (i + 1) cols
  turn so_far =
      rw (add-one, sum-last)
      (read_back w64 r fits ∙ added ∙ ap₂ ◌+ℤ◌ so_far (read_back w32 (signed_at costs (i * n + at cols i)) small))

  turn-within : Within (i * 2 ^ 31) (to_z w64 t) → Within ((i + 1) * 2 ^ 31) (to_z w64 (of_z w64 r))
  turn-within w = omega (zlin, told w64 r fits, told w32 (signed_at costs (i * n + at cols i)) small)

pub loop-i-init : goal.loop-i-init
loop-i-init c = (sym (sum_none _), omega arith)

pub plus-total-requires : goal.plus-total-requires
plus-total-requires c = omega (arith, side_small, c.requires.0, c.loop-i.invariant.1)

pub loop-i-preserved : goal.loop-i-preserved
loop-i-preserved c =
    let u = c.args in
    let l = c.loop-i in
    let p = c.plus-total in
    let small : mag (signed_at u.costs.now (l.i * u.n + at u.cols.now l.i)) < 2 ^ 31 = omega arith in (
      turn u.n u.costs.now u.cols.now l.i l.total-bits p.result small p.ensures p.type_inv l.invariant.0,
      turn-within u.n u.costs.now u.cols.now l.i l.total-bits p.result small p.ensures p.type_inv l.invariant.1,
    )
