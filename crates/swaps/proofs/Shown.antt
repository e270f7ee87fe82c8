-- Where prices show the first entries of a list to be a least pairing, its second is right. For any night. Assumes nothing.
use mathlib.Core.Path.{subst}
use mathlib.Core.List.{List}
use Prim.Native.Nat.{ℕ}
use lib.IntN.{ℤ}
use lib.ListN.{take}
use Rattle.assignment.specs.Pairings.{Night}
use Rattle.assignment.proofs.Longer.{tight_first, spares_first}
use Rattle.checker.specs.Proven.{Shown}
use Rattle.swaps.specs.Second.{Right, second}
use Rattle.swaps.proofs.Longer.{second_first}
use Rattle.swaps.proofs.Seconds.{second_right}

pub shown_right : (night : Night) (us vs : List ℤ) (cols : List ℕ) → Shown night cols us vs → Right night (take night.row_count cols) (second night us vs cols)
shown_right night us vs cols s =
    let firsts = take night.row_count cols in
    subst (Right night firsts) (second_first night us vs cols)
    (second_right night us vs s.feasible firsts s.pairing ((tight_first night cols us vs).1 s.tight) ((spares_first night cols vs).1 s.spares))
