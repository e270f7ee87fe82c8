-- Rule 3 as the code goes through it: what stands in the lent lists, and what each function asks.
use Rattle.std.specs.Prelude.{◌≡◌, List, [], ℕ, ◌+◌, ◌≤◌, ◌<◌, ℤ, length, Option, Some, None}
use Rattle.lists.specs.Runs.{upward}
use Rattle.lists.specs.Permutations.{at}
use Rattle.assignment.specs.Pairings.{square, signed_at}
use Rattle.rules.specs.declared.Low.{Low}
use Rattle.rules.specs.Lowest.{low, lower, least}
use Rattle.rules.specs.Columns.{Stage, Claims, claims, Transfer, transfer, untransferred}
use Rattle.reduction.specs.Ranges.{Near, Square}

-- Row i beside the lowest so far of column j.
abbrev pub low_at : ℕ → List ℤ → List ℤ → List ℕ → ℕ → Low
low_at i row v rows j = lower (low (signed_at v j) (at rows j)) (low (signed_at row j) i)

-- The claims that three lists hold.
abbrev pub claims_of : List ℕ → List ℕ → List ℕ → Claims
claims_of cols rows marks = record { cols = cols; rows = rows; marks = marks }

-- What the claims of the columns below k ask: lists of n entries, a row for each of those columns, and columns in range.
pub record Claimable (n k : ℕ) (s : Claims) : Type 0 where
  pub cols_size : length s.cols ≡ n
  pub rows_size : length s.rows ≡ n
  pub marks_size : length s.marks ≡ n
  pub row_below : (j : ℕ) → j < k → at s.rows j < n
  pub col_below : (i : ℕ) → i < n → at s.cols i < n

-- The first place from a on, and below n, at which f may change the least that was found: no value of f before it does, and none where it is none.
abbrev pub NextLeast : (ℕ → ℤ) → Option ℤ → ℕ → ℕ → Option ℕ → Type 0
NextLeast f found a n None = (k : ℕ) → a ≤ k → k < n → least found (f k) ≡ found
NextLeast f found a n (Some j) = (a ≤ j) × (j < n) × ((k : ℕ) → a ≤ k → k < j → least found (f k) ≡ found)

-- The transfer that two lists and a count hold.
abbrev pub transfer_of : List ℤ → List ℕ → ℕ → Transfer
transfer_of v frees count = record { prices = v; frees = frees; count = count }

-- The first m rows, from what the code is lent. No row of a column is read.
abbrev pub transferring : ℕ → List ℤ → List ℕ → List ℕ → List ℤ → List ℕ → ℕ → Transfer
transferring n costs cols marks v frees m = upward 0 m (transfer n (square n costs).cost (claims_of cols [] marks)) (transfer_of v frees 0)

-- What the transfer asks: sizes, columns in range, and near prices before every row.
pub record Transferable (n : ℕ) (costs : List ℤ) (cols marks : List ℕ) (v : List ℤ) (frees : List ℕ) : Type 0 where
  pub squared : Square n costs
  pub cols_size : length cols ≡ n
  pub marks_size : length marks ≡ n
  pub prices_size : length v ≡ n
  pub frees_size : length frees ≡ n
  pub col_below : (i : ℕ) → i < n → at cols i < n
  pub near_prices : (m : ℕ) → m < n → Near n (transferring n costs cols marks v frees m).prices

-- The stage that four lists and a count hold.
abbrev pub stage_at : List ℕ → List ℕ → List ℤ → List ℕ → ℕ → Stage
stage_at cols rows v frees count = record { pairs = record { cols = cols; rows = rows }; prices = v; frees = frees; count = count }

-- The transfer of rule 3 over the first m rows.
abbrev pub transfers_to : ℕ → (ℕ → ℕ → ℤ) → ℕ → Transfer
transfers_to n cost m = upward 0 m (transfer n cost (claims n cost)) (untransferred n cost)

-- What rule 3 asks: lists of n entries, a room of 4n, and near prices before every row of the transfer.
pub record Reducible (n : ℕ) (costs : List ℤ) (cols rows : List ℕ) (v : List ℤ) (room : List ℕ) : Type 0 where
  pub some : 1 ≤ n
  pub squared : Square n costs
  pub cols_size : length cols ≡ n
  pub rows_size : length rows ≡ n
  pub prices_size : length v ≡ n
  pub room_size : length room ≡ n + n + n + n
  pub near_prices : (m : ℕ) → m < n → Near n (transfers_to n (square n costs).cost m).prices
