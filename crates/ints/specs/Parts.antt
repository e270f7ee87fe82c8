-- An integer as the difference of two natural numbers, and what it is to lie within a bound.
use Rattle.std.specs.Prelude.{ℕ, suc, ◌+◌, ◌≤◌, ℤ, pos, negsuc}

-- How far z is above 0: z where it is positive, else 0.
abbrev pub up : ℤ → ℕ
up (pos n) = n
up (negsuc n) = 0

-- How far z is below 0. So z is up z - down z.
abbrev pub down : ℤ → ℕ
down (pos n) = 0
down (negsuc n) = suc n

-- z is in -k..k, both ends included. (The law `within_orders` says it with the order of the integers.)
pub record Within (k : ℕ) (z : ℤ) : Type 0 where
  pub low : down z ≤ up z + k
  pub high : up z ≤ down z + k
