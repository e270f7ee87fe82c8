-- What the rules' code asks of numbers: costs and prices lie so near to 0 that no sum or difference of a few of them wraps in 64 bits.
use Rattle.std.specs.Prelude.{◌≡◌, List, ℕ, ◌*◌, ◌≤◌, ◌<◌, ℤ, length}
use Rattle.ints.specs.Parts.{Within}
use Rattle.assignment.specs.Pairings.{square, signed_at}
use Rattle.matrix.specs.Limits.{side, near}

-- The first n prices of a list are near.
abbrev pub Near : ℕ → List ℤ → Type 0
Near n v = (j : ℕ) → j < n → Within near (signed_at v j)

-- The costs of a square night: its side is within the limit, and its costs are near.
pub record Square (n : ℕ) (costs : List ℤ) : Type 0 where
  pub small : n ≤ side
  pub size : length costs ≡ n * n
  pub near_costs : (i j : ℕ) → i < n → j < n → Within near ((square n costs).cost i j)
