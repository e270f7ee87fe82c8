-- What the search for a second pairing leaves in lent memory.
use Rattle.std.specs.Prelude.{◌≡◌, Bool, true, false, List, ◌++◌, ℕ, ◌+◌, ◌*◌, ◌≤◌, ◌<◌, ℤ, pos, length, drop, replicate}
use Rattle.bars.specs.Barred.{night_of}
use Rattle.matrix.specs.Limits.{side}
use Rattle.checker.specs.Proven.{Prices, Shown}
use Rattle.swaps.specs.Second.{Answer, only, also, second}
use Rattle.swaps.specs.Rooms.{Fair}

-- Whether there is another pairing, and what stands in the list for its columns: untouched for "only one".
abbrev pub another : Answer → Bool
another only = false
another (also other) = true

abbrev pub written_in : Answer → List ℕ → List ℕ
written_in only list = list
written_in (also other) list = other

-- What is searched with: at least one row, a pairing that its prices show to be least, and rooms of their sizes.
pub record CanSearch (m n : ℕ) (costs : List ℤ) (bars cols : List ℕ) (us vs : List ℤ) (list room : List ℕ) (numbers : List ℤ) : Type 0 where
  pub some : 0 < m
  pub fair : Fair m n costs bars cols us vs
  pub list_size : length list ≡ m
  pub room_size : length room ≡ n + n + n + n
  pub numbers_size : length numbers ≡ n

-- What is found.
pub record SearchedBy (m n : ℕ) (costs : List ℤ) (bars cols : List ℕ) (us vs : List ℤ) (list : List ℕ) (r : Bool) (after : List ℕ) : Type 0 where
  pub told : r ≡ another (second (night_of m n costs bars) us vs cols)
  pub written : after ≡ written_in (second (night_of m n costs bars) us vs cols) list

-- The same of any night, and on longer lists: the first m entries of the list, 4n of the indices and n of the numbers, with all behind them untouched.
abbrev pub written_front : ℕ → Answer → List ℕ → List ℕ
written_front m only list = list
written_front m (also other) list = other ++ drop m list

pub record CanFindIn (m n : ℕ) (costs : List ℤ) (bars cols : List ℕ) (us vs : List ℤ) (list indices : List ℕ) (numbers : List ℤ) : Type 0 where
  pub small : n ≤ side
  pub filled : length costs ≡ m * n
  pub row_prices : Prices m us
  pub column_prices : Prices n vs
  pub listed : m ≤ length cols
  pub shown : Shown (night_of m n costs bars) cols us vs
  pub list_long : m ≤ length list
  pub indices_long : 4 * n ≤ length indices
  pub numbers_long : n ≤ length numbers

pub record FoundIn (m n : ℕ) (costs : List ℤ) (bars cols : List ℕ) (us vs : List ℤ) (list indices : List ℕ) (numbers : List ℤ) (r : Bool) (list' indices' : List ℕ) (numbers' : List ℤ) : Type 0 where
  pub told : r ≡ another (second (night_of m n costs bars) us vs cols)
  pub written : list' ≡ written_front m (second (night_of m n costs bars) us vs cols) list
  pub indices_cleared : indices' ≡ replicate (4 * n) 0 ++ drop (4 * n) indices
  pub numbers_cleared : numbers' ≡ replicate n (pos 0) ++ drop n numbers
