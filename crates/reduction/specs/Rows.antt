-- Rule 4 as the code goes through it: what stands in the lent lists, and what each function asks.
use Rattle.std.specs.Prelude.{◌≡◌, List, ℕ, ◌+◌, ◌*◌, ◌^◌, ◌≤◌, ◌<◌, ℤ, length}
use Rattle.ints.specs.Parts.{Within}
use Rattle.lists.specs.Permutations.{at}
use Rattle.lists.specs.Parts.{part}
use Rattle.assignment.specs.Pairings.{square}
use Rattle.rules.specs.declared.TwoLowest.{TwoLowest}
use Rattle.rules.specs.declared.TwoLowest.TheVariants.{One, Two}
use Rattle.rules.specs.declared.Pass.{Pass}
use Rattle.rules.specs.Rows.{Passing, Placed, looks, pass_start, row_reduction}
use Rattle.matrix.specs.Limits.{near}
use Rattle.reduction.specs.Ranges.{Near, Square}
use Rattle.reduction.specs.Candidates.{AllKept}
use Rattle.reduction.specs.Columns.{stage_at}

-- What a choice asks of the two lowest: columns in range, and values that are reduced costs of near numbers.
abbrev pub Inside : ℕ → TwoLowest → Type 0
Inside n (One a) = a.place < n
Inside n (Two a b) = (a.place < n) × (b.place < n) × Within (near + near) a.value × Within (near + near) b.value

-- The free list and where the pass goes on.
abbrev pub placed_at : List ℕ → Pass → Placed
placed_at frees pass = record { frees = frees; pass = pass }

-- The pass under way that four lists and a pass hold.
abbrev pub passing_at : List ℕ → List ℕ → List ℤ → List ℕ → Pass → Passing
passing_at cols rows v frees pass = record { pairs = record { cols = cols; rows = rows }; prices = v; frees = frees; pass = pass }

-- A loose bound of the looks of a pass: no counter of looks wraps below it.
abbrev pub looks_most : ℕ
looks_most = 2 ^ 40

-- What a look asks: lists of n entries, a place and a row in range, and near prices.
pub record Ready (n : ℕ) (costs : List ℤ) (x : Passing) : Type 0 where
  pub squared : Square n costs
  pub cols_size : length x.pairs.cols ≡ n
  pub rows_size : length x.pairs.rows ≡ n
  pub prices_size : length x.prices ≡ n
  pub frees_size : length x.frees ≡ n
  pub current_below : x.pass.current < n
  pub left_most : x.pass.left ≤ x.pass.current
  pub looks_fit : x.pass.looks < looks_most
  pub row_below : at x.frees x.pass.current < n
  pub near_prices : Near n x.prices

-- The room of a pass: the free list stands at 0, what is kept of the rows at n, and is true at prices v.
pub record Keeping (n : ℕ) (costs v : List ℤ) (room : List ℕ) (limits : List ℤ) : Type 0 where
  pub room_size : length room ≡ n + n + n + n
  pub limits_size : length limits ≡ n
  pub kept : AllKept n (square n costs).cost v (part n (n + n + n) room) limits

-- The first m looks of a pass over `count` free rows.
abbrev pub looks_to : ℕ → List ℤ → List ℕ → List ℕ → List ℤ → List ℕ → ℕ → ℕ → Passing
looks_to n costs cols rows v frees count m = looks n (square n costs).cost count m (pass_start (stage_at cols rows v frees count))

-- What a pass asks: lists of n entries; that its turns are enough for all of its rows; and before every look a row in range and near prices.
pub record Passable (n : ℕ) (costs : List ℤ) (cols rows : List ℕ) (v : List ℤ) (frees : List ℕ) (count : ℕ) : Type 0 where
  pub squared : Square n costs
  pub cols_size : length cols ≡ n
  pub rows_size : length rows ≡ n
  pub prices_size : length v ≡ n
  pub frees_size : length frees ≡ n
  pub count_most : count ≤ n
  pub ends : count ≤ (row_reduction n (square n costs).cost (stage_at cols rows v frees count)).pass.current
  pub row_below : (m : ℕ) → m < count * n → (looks_to n costs cols rows v frees count m).pass.current < count
      → at (looks_to n costs cols rows v frees count m).frees (looks_to n costs cols rows v frees count m).pass.current < n
  pub near_prices : (m : ℕ) → m < count * n → (looks_to n costs cols rows v frees count m).pass.current < count
      → Near n (looks_to n costs cols rows v frees count m).prices
