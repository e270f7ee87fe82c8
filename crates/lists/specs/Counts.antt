-- Sets of numbers as tests: how many are in one, whether one is, and the set that a number's bits are.
use Rattle.std.specs.Prelude.{Bool, cond, ℕ, zero, suc, ◌+◌, ◌/◌, ◌%◌, ◌^◌, ltb, eqb}
use Rattle.lists.specs.Runs.{first}

-- How many numbers below n pass the test.
unfoldable pub count : ℕ → (ℕ → Bool) → ℕ
count zero test = 0
count (suc n) test = count n test + cond (test n) 1 0

-- Some number below n passes it.
abbrev pub some : ℕ → (ℕ → Bool) → Bool
some n test = ltb (first n test) n

-- Whether bit i of a number is set.
abbrev pub bit_of : ℕ → ℕ → Bool
bit_of bits i = eqb (bits / 2 ^ i % 2) 1
