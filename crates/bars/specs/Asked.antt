-- What functions of this crate ask for.
use Rattle.std.specs.Prelude.{List, ℕ, ◌≤◌, ◌<◌, length}
use Rattle.lists.specs.Permutations.{at}

-- For each of n rows its bars and a column below n; the side fits the bits of a u64.
pub record BarsListed (n : ℕ) (bars cols : List ℕ) : Type 0 where
  pub small : n ≤ 64
  pub bars_long : n ≤ length bars
  pub cols_long : n ≤ length cols
  pub inside : (i : ℕ) → i < n → at cols i < n
