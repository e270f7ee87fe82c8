-- The tests that several entries share, each under its number.
use Rattle.std.specs.Prelude.{Bool, not, ◌||◌, List, ℕ, ◌+◌, ◌*◌, leb, ltb, eqb, ℤ, pos, neg_ℤ, length}
use Rattle.std.specs.Int.Signed.{lt_z}
use Rattle.lists.specs.Permutations.{at}
use Rattle.assignment.specs.Pairings.{signed_at}
use Rattle.matrix.specs.Limits.{side, K}
use Rattle.matrix.specs.Verdicts.{◌then◌, fails_if, fails_at}
use Rattle.matrix.specs.Refusals.{SideOver, CostsLength, ListLength, RoomShort, CostOutside, ColumnOutside, PriceOutside}
use Rattle.matrix.specs.Verdicts.{Verdict}
use Rattle.matrix.specs.declared.refusals.Reason.{Reason}

-- "output or list shorter than n": of some lists with these lengths, whether list k is, counted from 0.
abbrev pub short : ℕ → List ℕ → ℕ → Bool
short n lengths k = ltb (at lengths k) n

-- "outside -K..K": below -limit or above limit.
abbrev pub outside : ℤ → ℤ → Bool
outside limit z = lt_z z (neg_ℤ limit) || lt_z limit z

-- 1, "side over its limit".
abbrev pub side_within : ℕ → ℕ → Verdict
side_within limit n = fails_if SideOver 0 (ltb limit n)

-- 2, "cost slice is not exactly n*n long": of m rows and n columns.
abbrev pub costs_fill : ℕ → ℕ → List ℤ → Verdict
costs_fill m n costs = fails_if CostsLength 0 (not (eqb (length costs) (m * n)))

-- 3, "output or list shorter than n", "first such, by its number": of four lists with these lengths.
abbrev pub lists_long : ℕ → List ℕ → Verdict
lists_long n lengths = fails_at ListLength (λ k. k + 1) 4 (short n lengths)

-- 3, of the list with this number, which needs n entries.
abbrev pub list_long : ℕ → ℕ → ℕ → Verdict
list_long number n length = fails_if ListLength number (ltb length n)

-- 1, 2, 3 of a square night and its four lists.
abbrev pub shaped : ℕ → List ℤ → List ℕ → Verdict
shaped n costs lengths = side_within side n then costs_fill n n costs then lists_long n lengths

-- 3, "(`cost`: longer)".
abbrev pub list_short : ℕ → ℕ → Verdict
list_short n length = fails_if ListLength 1 (ltb n length)

-- 4, "work room too short", "1 or 2": 4n indices and n numbers.
abbrev pub rooms_long : ℕ → ℕ → ℕ → Verdict
rooms_long n indices numbers = fails_if RoomShort 1 (ltb indices (4 * n)) then fails_if RoomShort 2 (ltb numbers n)

-- 5, "a cost outside" -limit..limit, "first, in row order".
abbrev pub costs_in : ℤ → List ℤ → Verdict
costs_in limit costs = fails_at CostOutside (λ k. k) (length costs) (λ k. outside limit (signed_at costs k))

-- 5, "a cost outside -K..K".
abbrev pub costs_within : List ℤ → Verdict
costs_within costs = costs_in (pos K) costs

-- 6, "a listed column is not below n", "first row", of the rows listed.
abbrev pub columns_inside : ℕ → ℕ → List ℕ → Verdict
columns_inside count n cols = fails_at ColumnOutside (λ i. i) count (λ i. leb n (at cols i))

-- A price outside -limit..limit, "first: row i, then n+j": m row prices, then n column prices.
abbrev pub prices_in : Reason → ℤ → ℕ → ℕ → List ℤ → List ℤ → Verdict
prices_in reason limit m n us vs =
    fails_at reason (λ i. i) m (λ i. outside limit (signed_at us i))
    then fails_at reason (λ j. m + j) n (λ j. outside limit (signed_at vs j))

-- 8, "a price outside -10K..10K".
abbrev pub prices_within : ℕ → ℕ → List ℤ → List ℤ → Verdict
prices_within m n us vs = prices_in PriceOutside (pos (10 * K)) m n us vs
