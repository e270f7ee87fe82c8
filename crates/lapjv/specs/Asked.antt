-- What functions that the entry calls, and those above it, ask for. The entry asks for nothing.
use Rattle.std.specs.Prelude.{List, Ok, Err, ◌≡◌, ℕ, ◌*◌, ◌≤◌, ◌<◌, ℤ, length}
use Rattle.assignment.specs.Pairings.{signed_at}
use Rattle.ints.specs.Parts.{Within}
use Rattle.lapjv.specs.Solve.{Solved}
use Rattle.lists.specs.Permutations.{at}
use Rattle.matrix.specs.Asked.{Tellable}
use Rattle.matrix.specs.Limits.{side, near}

-- An answer that is a paired night or a refusal that one number tells.
abbrev pub TellableSolved : Solved → Type 0
TellableSolved (Ok night) = Unit {0}
TellableSolved (Err refusal) = Tellable refusal

-- What the row prices are asked with: a square of costs, a column for each row, and prices that are near.
pub record CanPrice (n : ℕ) (costs : List ℤ) (cols : List ℕ) (v us : List ℤ) : Type 0 where
  pub small : n ≤ side
  pub squared : length costs ≡ n * n
  pub cols_size : length cols ≡ n
  pub v_size : length v ≡ n
  pub us_size : length us ≡ n
  pub inside : (i : ℕ) → i < n → at cols i < n
  pub prices_near : (j : ℕ) → j < n → Within near (signed_at v j)
