-- Reduced costs of near costs and near prices, and what the rules pick of them: twice as far from 0 at most, so that differences fit. Assumes nothing.
use mathlib.Core.Path.{◌≡◌, sym, ap, subst}
use mathlib.Core.List.{List}
use Prim.Native.Nat.{ℕ, ◌+◌, ◌≤◌, ◌<◌}
use native.Mathlib.Omega.{arith}
use lib.IntN.{ℤ, ◌-ℤ◌}
use mir.Syntax.{w64}
use mir.Val.{SFits}
use Rattle.std.specs.Prelude.{Option, Some, None}
use Rattle.ints.specs.Parts.{Within}
use Rattle.ints.proofs.Shapes.{zlin}
use Rattle.assignment.specs.Pairings.{square, signed_at}
use Rattle.rules.specs.declared.Low.{Low}
use Rattle.rules.specs.declared.TwoLowest.{TwoLowest}
use Rattle.rules.specs.declared.TwoLowest.TheVariants.{One, Two}
use Rattle.rules.specs.Lowest.{reduced, two_lowest, least_but}
use Rattle.rules.proofs.Lowest.{RightTwo, two_lowest_is, RightBut, least_but_is}
use Rattle.matrix.specs.Limits.{near}
use Rattle.reduction.specs.Ranges.{Near, Square}
use Rattle.reduction.specs.Rows.{Inside}

-- A least value that is the difference of a cost and a price that is near.
abbrev NearLeast : Option ℤ → Type 0
NearLeast None = Unit
NearLeast (Some h) = Within (near + near) h

module _ (n : ℕ) (costs v : List ℤ) (s : Square n costs) (prices : Near n v) where
  reduced-near : (i j : ℕ) (z : ℤ) → i < n → j < n → z ≡ reduced (square n costs).cost (signed_at v) i j → Within (near + near) z
  reduced-near i j z li lj e = omega (zlin, s.near_costs i j li lj, prices j lj)

  module _ (i : ℕ) (li : i < n) where
    two_near : (two : TwoLowest) → 1 ≤ n → RightTwo (reduced (square n costs).cost (signed_at v) i) n two → Inside n two
    two_near (One a) one r = omega (arith, ap (λ (x : Low). x.place) r.1)
    two_near (Two a b) one r =
        (r.first_inside, r.second_inside, reduced-near i a.place a.value li r.first_inside r.first_is, reduced-near i b.place b.value li r.second_inside r.second_is)

    pub two_lowest-near : Inside n (two_lowest n (reduced (square n costs).cost (signed_at v) i))
    two_lowest-near =
        two_near (two_lowest n (reduced (square n costs).cost (signed_at v) i)) (omega arith) (two_lowest_is n (reduced (square n costs).cost (signed_at v) i) (omega arith))

    least-near : (j : ℕ) (o : Option ℤ) → RightBut (reduced (square n costs).cost (signed_at v) i) j n o → NearLeast o
    least-near j None r = tt
    least-near j (Some b) r = reduced-near i r.one.0 b li r.one.1 r.one.3

    least_but-near : (j : ℕ) → NearLeast (least_but n (reduced (square n costs).cost (signed_at v) i) j)
    least_but-near j = least-near j (least_but n (reduced (square n costs).cost (signed_at v) i) j) (least_but_is n (reduced (square n costs).cost (signed_at v) i) j)

    -- A price stays in range when the least of the others is taken off.
    pub lowered_fits : (j : ℕ) → j < n → (h : ℤ) → Some h ≡ least_but n (reduced (square n costs).cost (signed_at v) i) j → SFits w64 (signed_at v j -ℤ h)
    lowered_fits j lj h e =
        let within : Within (near + near) h = subst NearLeast (sym e) (least_but-near j) in
        omega (zlin, prices j lj)
