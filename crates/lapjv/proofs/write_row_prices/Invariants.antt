-- `write_row_prices` leaves the row prices: the first i are written. Assumes nothing.
use mathlib.Core.Path.{◌≡◌}
use mathlib.Core.List.{List}
use Prim.Native.Nat.{ℕ, ◌<◌}
use lib.IntN.{ℤ}
use Rattle.lists.specs.Permutations.{at}
use Rattle.assignment.specs.Pairings.{signed_at, square}
use Rattle.rules.specs.Lowest.{reduced}
use Rattle.lapjv.proofs.write_row_prices.Given as goal

-- The price of row i.
abbrev pub row_price : ℕ → List ℤ → List ℕ → List ℤ → ℕ → ℤ
row_price n costs cols v i = reduced (square n costs).cost (signed_at v) i (at cols i)

abbrev pub invariant-loop-i : goal.invariant-loop-i
invariant-loop-i l = (k : ℕ) → k < l.i → signed_at l.row_prices k ≡ row_price l.n l.costs l.cols l.v k
