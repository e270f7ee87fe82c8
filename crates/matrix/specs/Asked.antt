-- What functions that the entries call ask for. No entry asks for anything.
use Rattle.std.specs.Prelude.{◌≡◌, List, ℕ, ◌*◌, ◌^◌, ◌≤◌, ◌<◌, ℤ, length}
use Rattle.lists.specs.Permutations.{at}
use Rattle.matrix.specs.Limits.{side}
use Rattle.matrix.specs.Refusals.{place_of}
use Rattle.matrix.specs.declared.refusals.Refusal.{Refusal}
use Rattle.matrix.specs.Answers.{Answer}
use Rattle.std.specs.Prelude.{Ok, Err}

-- A refusal that fits 64 bits as one number: the numbers lie below 256, and places far below 2 ^ 48.
abbrev pub Tellable : Refusal → Type 0
Tellable refusal = place_of refusal < 2 ^ 48

-- An answer that is a total or such a refusal.
abbrev pub TellableIn : Answer → Type 0
TellableIn (Ok total) = Unit {0}
TellableIn (Err refusal) = Tellable refusal

-- For each of m rows a column below n.
pub record ColumnsListed (m n : ℕ) (cols : List ℕ) : Type 0 where
  pub listed : m ≤ length cols
  pub inside : (i : ℕ) → i < m → at cols i < n

-- What `total` is asked with: a square of costs, and for each of m rows a column.
pub record Listed (n : ℕ) (costs : List ℤ) (m : ℕ) (cols : List ℕ) : Type 0 where
  pub small : n ≤ side
  pub squared : length costs ≡ n * n
  pub rows : m ≤ n
  pub listed : m ≤ length cols
  pub inside : (i : ℕ) → i < m → at cols i < n

-- Each of four lengths is at least n.
pub record Long (n a b c d : ℕ) : Type 0 where
  pub first_long : n ≤ a
  pub second_long : n ≤ b
  pub third_long : n ≤ c
  pub fourth_long : n ≤ d

-- A square of costs within the limit, and four lists that are long enough.
pub record Shaped (n : ℕ) (costs : List ℤ) (a b c d : ℕ) : Type 0 where
  pub small : n ≤ side
  pub squared : length costs ≡ n * n
  pub long : Long n a b c d
