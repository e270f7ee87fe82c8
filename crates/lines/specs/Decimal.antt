-- Numbers of 64 bits as text: decimal digits in ASCII, the highest first, and a minus sign before a negative number.
use Rattle.std.specs.Prelude.{cond, List, [], ◌∷◌, ◌++◌, ℕ, zero, suc, ◌+◌, ◌/◌, ◌%◌, ltb, ℤ, pos, negsuc}

-- The digits of x where k are enough: those of x / 10, unless it is 0, and then the last.
unfoldable pub digits : ℕ → ℕ → List ℕ
digits zero x = []
digits (suc k) x = cond (ltb x 10) [] (digits k (x / 10)) ++ ((48 + x % 10) ∷ [])

-- The digits of a number of 64 bits, which has at most 20.
abbrev pub decimal : ℕ → List ℕ
decimal x = digits 20 x

-- An integer, with its sign where it is negative.
abbrev pub signed_decimal : ℤ → List ℕ
signed_decimal (pos n) = decimal n
signed_decimal (negsuc n) = 45 ∷ decimal (suc n)
