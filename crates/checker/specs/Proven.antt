-- What is right about an input that the checker accepts, in the words of `assignment`.
use Rattle.std.specs.Prelude.{◌≡◌, ◌≢◌, true, false, List, ℕ, ◌*◌, ◌≤◌, ◌<◌, ℤ, ◌≤ℤ◌, length, take}
use Rattle.ints.specs.Parts.{Within}
use Rattle.assignment.specs.Pairings.{Night, Pairing, square, Named, signed_at}
use Rattle.lists.specs.Permutations.{at}
use Rattle.assignment.specs.Prices.{priced, Feasible, Tight, SparesNotBelow}
use Rattle.matrix.specs.Limits.{side, sheet_side, K}
use Rattle.matrix.specs.Answers.{Answer}
use Rattle.std.specs.Prelude.{Ok}
use Rattle.bars.specs.Tests.{barred_most}
use Rattle.bars.specs.Barred.{barred, bits_above}

-- An answer that accepts: with some total.
abbrev pub Accepts : Answer → Type 0
Accepts answer = (total : ℤ) × (answer ≡ Ok total)

-- Sizes: the side within its limit, n * n costs, at least n columns and at least n rows listed.
pub record Sizes (n : ℕ) (costs : List ℤ) (cols rows : List ℕ) : Type 0 where
  pub small : n ≤ side
  pub squared : length costs ≡ n * n
  pub columns_listed : n ≤ length cols
  pub rows_listed : n ≤ length rows

-- At least n prices, the first n of them in -10K..10K.
pub record Prices (n : ℕ) (prices : List ℤ) : Type 0 where
  pub enough : n ≤ length prices
  pub within : (i : ℕ) → i < n → Within (10 * K) (signed_at prices i)

-- Sizes, ranges, names, and prices that are fair: feasible, and tight on the pairing.
pub record Proven (n : ℕ) (costs : List ℤ) (cols rows : List ℕ) (us vs : List ℤ) : Type 0 where
  pub sizes : Sizes n costs cols rows
  pub within : (k : ℕ) → k < length costs → Within K (signed_at costs k)
  pub named : Named (square n costs) cols rows
  pub row_prices : Prices n us
  pub column_prices : Prices n vs
  pub feasible : Feasible (square n costs) us vs
  pub tight : Tight (square n costs) us vs cols

-- Prices that are feasible but for row s, and tight on the pairing but for it.
pub record FeasibleBut (s : ℕ) (night : Night) (us vs : List ℤ) : Type 0 where
  pub under : (i j : ℕ) → i < night.row_count → i ≢ s → j < night.column_count → night.allowed i j ≡ true → priced us vs i j ≤ℤ night.cost i j

pub record TightBut (s : ℕ) (night : Night) (us vs : List ℤ) (cols : List ℕ) : Type 0 where
  pub met : (i : ℕ) → i < night.row_count → i ≢ s → priced us vs i (at cols i) ≡ night.cost i (at cols i)

-- For any night: prices that show that the first entries of a list of columns are a least pairing.
pub record Shown (night : Night) (cols : List ℕ) (us vs : List ℤ) : Type 0 where
  pub pairing : Pairing night (take night.row_count cols)
  pub feasible : Feasible night us vs
  pub tight : Tight night us vs cols
  pub spares : SparesNotBelow night vs cols

-- For any night: a price for each row and each column, each in -10K..10K, and feasible.
pub record Fair (night : Night) (us vs : List ℤ) : Type 0 where
  pub row_prices : Prices night.row_count us
  pub column_prices : Prices night.column_count vs
  pub feasible : Feasible night us vs

-- A pairing of a night with bars, well-formed: sizes, ranges, names, and no barred pair.
pub record BarredPaired (n : ℕ) (costs : List ℤ) (bars cols rows : List ℕ) : Type 0 where
  pub small : n ≤ sheet_side
  pub squared : length costs ≡ n * n
  pub columns_listed : n ≤ length cols
  pub rows_listed : n ≤ length rows
  pub bars_listed : n ≤ length bars
  pub within : (k : ℕ) → k < length costs → Within barred_most (signed_at costs k)
  pub clear : (i : ℕ) → i < n → bits_above n (at bars i) ≡ false
  pub named : Named (barred n costs bars) cols rows
  pub permitted : (i : ℕ) → i < n → (barred n costs bars).allowed i (at cols i) ≡ true

-- A choice of columns for the m rows of an oblong night, well-formed: sizes, ranges, and no column twice.
pub record OblongPaired (m n : ℕ) (costs : List ℤ) (cols : List ℕ) : Type 0 where
  pub small : n ≤ sheet_side
  pub fits : m ≤ n
  pub filled : length costs ≡ m * n
  pub columns_listed : m ≤ length cols
  pub within : (k : ℕ) → k < length costs → Within K (signed_at costs k)
  pub inside : (i : ℕ) → i < m → at cols i < n
  pub once : (i k : ℕ) → i < m → k < m → at cols i ≡ at cols k → i ≡ k
