-- What functions that the entry calls ask for. The entry asks for nothing.
use Rattle.std.specs.Prelude.{◌≡◌, List, ◌++◌, ℕ, ◌*◌, ◌≤◌, ◌<◌, ℤ, length, take}
use Rattle.lists.specs.Permutations.{at}
use Rattle.bars.specs.Barred.{night_of}
use Rattle.matrix.specs.Limits.{side}
use Rattle.checker.specs.Proven.{Prices, Shown}
use Rattle.swaps.specs.Second.{Answer, second}
use Rattle.sheet.specs.declared.Settled.{Settled}
use Rattle.lines.specs.Lines.{accepted_line, row_lines, spare_lines, second_line}

-- What `put_rows` is asked with: a square of costs, and a column for each of m rows.
pub record Rows (m n : ℕ) (costs : List ℤ) (cols : List ℕ) : Type 0 where
  pub fewer : m ≤ n
  pub squared : length costs ≡ n * n
  pub listed : m ≤ length cols
  pub inside : (i : ℕ) → i < m → at cols i < n

-- What is searched with: the pairing of a night of a sheet's size, and prices that show it to be least.
pub record Searchable (m n : ℕ) (costs : List ℤ) (bars cols : List ℕ) (us vs : List ℤ) : Type 0 where
  pub fewer : m ≤ n
  pub few : n ≤ 64
  pub small : n ≤ side
  pub row_prices : Prices m us
  pub column_prices : Prices n vs
  pub listed : m ≤ length cols
  pub shown : Shown (night_of m n costs bars) cols us vs

-- The second of what stands at the front of arrays.
abbrev pub second_in : ℕ → ℕ → List ℤ → List ℕ → List ℕ → List ℤ → List ℤ → Answer
second_in m n costs bars cols us vs = second (night_of m n (take (m * n) costs) (take n bars)) (take n us) (take n vs) (take n cols)

-- The second of a night that is settled.
abbrev pub second_settled : Settled → Answer
second_settled s = let a = s.state in second_in s.row_count s.side a.costs a.bars a.cols a.row_prices a.col_prices

-- Its lines but for the last, and all of them.
abbrev pub pair_lines : Settled → List ℕ
pair_lines s =
    let n = s.side in
    let cols = take n s.state.cols in
    accepted_line n s.total ++ (row_lines n (take (n * n) s.state.costs) cols s.row_count ++ spare_lines s.row_count cols n)

abbrev pub settled_lines : Settled → List ℕ
settled_lines s =
    let n = s.side in
    let cols = take n s.state.cols in
    accepted_line n s.total ++ (row_lines n (take (n * n) s.state.costs) cols s.row_count ++ (spare_lines s.row_count cols n ++ second_line (second_settled s)))

-- What they are asked with: the rows, and what is searched with.
pub record Ready (s : Settled) : Type 0 where
  pub rows : Rows s.row_count s.side (take (s.side * s.side) s.state.costs) (take s.side s.state.cols)
  pub searchable : Searchable s.row_count s.side (take (s.row_count * s.side) s.state.costs) (take s.side s.state.bars) (take s.side s.state.cols) (take s.side s.state.row_prices) (take s.side s.state.col_prices)
