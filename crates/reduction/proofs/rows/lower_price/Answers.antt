-- `lower_price` answers what its definition says, and neither difference wraps. Assumes nothing.
use Rattle.std.proofs.Common.{true, ◌≡◌, ap, ℤ, ◌+◌, ◌-ℤ◌, w64, to_z, of_z}
use mir.Val.{SFits}
use mir.Facts.{to_z-of_z}
use Rattle.ints.specs.Parts.{Within}
use Rattle.ints.proofs.Sums.{dif}
use Rattle.ints.proofs.Shapes.{zlin}
use Rattle.assignment.specs.Pairings.{signed_at}
use Rattle.matrix.specs.Limits.{near}
use Rattle.reduction.proofs.rows.lower_price.Goals as goal

-- the price x, lowered by second minus lowest
module _ (x lowest second : ℤ) (hx : Within near x) (hl : Within (near + near) lowest) (hs : Within (near + near) second) where
  fits_x : SFits w64 x
  fits_x = omega (zlin, hx)

  fits_lowest : SFits w64 lowest
  fits_lowest = omega (zlin, hl)

  fits_second : SFits w64 second
  fits_second = omega (zlin, hs)

  fits_step : SFits w64 (second -ℤ lowest)
  fits_step = omega (zlin, hl, hs)

  fits_lowered : SFits w64 (x -ℤ (second -ℤ lowest))
  fits_lowered = omega (zlin, hx, hl, hs, dif second lowest)

  lowered_back : to_z w64 (of_z w64 (to_z w64 (of_z w64 x) -ℤ to_z w64 (of_z w64 (to_z w64 (of_z w64 second) -ℤ to_z w64 (of_z w64 lowest))))) ≡ x -ℤ (second -ℤ lowest)
  lowered_back = simp (to_z-of_z fits_lowest, to_z-of_z fits_second, to_z-of_z fits_x, to_z-of_z fits_step, to_z-of_z fits_lowered)

pub returns : goal.returns
returns c =
    let u = c.args in
    ap (λ (z : ℤ). record { column = u.lowest.place; price = z; back = true })
    (lowered_back (signed_at u.v.now u.lowest.place) u.lowest.value u.second.value c.requires.1 c.requires.2 c.requires.3)
