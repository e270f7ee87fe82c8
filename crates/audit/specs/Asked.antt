-- What functions that the entry calls ask for. The entry asks for nothing.
use Rattle.std.specs.Prelude.{◌≡◌, List, ℕ, ◌*◌, ◌≤◌, ℤ, length}
use Rattle.assignment.specs.Pairings.{Least, total}
use Rattle.bars.specs.Barred.{night_of}
use Rattle.matrix.specs.Limits.{sheet_side}
use Rattle.matrix.specs.Asked.{Tellable}
use Rattle.audit.specs.Audit.{Audited}
use Rattle.std.specs.Prelude.{Ok, Err}

-- What an audit answers can be told by one number.
abbrev pub TellableAudited : Audited → Type 0
TellableAudited (Ok held) = Unit {0}
TellableAudited (Err refusal) = Tellable refusal

-- A total that is the least of a night.
pub record LeastTotal (m n : ℕ) (costs : List ℤ) (bars : List ℕ) (t : ℤ) : Type 0 where
  pub cols : List ℕ
  pub least : Least (night_of m n costs bars) cols
  pub totals : t ≡ total (night_of m n costs bars) cols

-- A night of a sheet's size: m rows and n columns, m * n costs, and bars for n rows.
pub record Lies (m n : ℕ) (costs : List ℤ) (bars : List ℕ) : Type 0 where
  pub fewer : m ≤ n
  pub small : n ≤ sheet_side
  pub filled : length costs ≡ m * n
  pub rows : length bars ≡ n

-- Rooms for what a slip says of m rows and n columns, and for counting.
pub record Roomy (m n : ℕ) (cols list : List ℕ) (us vs : List ℤ) : Type 0 where
  pub cols_size : length cols ≡ m
  pub list_size : length list ≡ m
  pub us_size : length us ≡ m
  pub vs_size : length vs ≡ n
