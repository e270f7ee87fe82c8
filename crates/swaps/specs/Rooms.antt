-- The walk as it lies in lent memory, in lists of an entry for each node.
use Rattle.std.specs.Prelude.{◌≡◌, false, cond, ◌≢◌, List, ℕ, suc, ◌+◌, ◌*◌, ◌≤◌, ◌<◌, ltb, ℤ, pos, neg_ℤ, length, set}
use Rattle.std.specs.declared.ops.ControlFlow.{ControlFlow}
use Rattle.std.specs.declared.ops.ControlFlow.TheVariants.{Continue, Break}
use Rattle.ints.specs.Parts.{Within}
use Rattle.lists.specs.Runs.{Turn, on, left, until}
use Rattle.lists.specs.Permutations.{at}
use Rattle.assignment.specs.Pairings.{Night, Pairing, signed_at}
use Rattle.assignment.specs.Prices.{Feasible, Tight, SparesNotBelow}
use Rattle.bars.specs.Barred.{night_of}
use Rattle.matrix.specs.Limits.{side, near}
use Rattle.checker.specs.Proven.{Prices}
use Rattle.swaps.specs.Walks.{Walk, Closed, mark, place, unseen, live, choice, turn}
use Rattle.swaps.specs.Second.{behind}

-- A pairing, and prices that show it to be least.
pub record Fair (m n : ℕ) (costs : List ℤ) (bars cols : List ℕ) (us vs : List ℤ) : Type 0 where
  pub small : n ≤ side
  pub filled : length costs ≡ m * n
  pub row_prices : Prices m us
  pub column_prices : Prices n vs
  pub pairing : Pairing (night_of m n costs bars) cols
  pub feasible : Feasible (night_of m n costs bars) us vs
  pub tight : Tight (night_of m n costs bars) us vs cols
  pub spares : SparesNotBelow (night_of m n costs bars) vs cols

-- Column prices as the walk looks at them: where the node behind a column is done, its price may have been lowered, so that its places are passed by
-- without a look at the mark.
pub record Lowered (night : Night) (vs : List ℤ) (cols : List ℕ) (w : Walk) (ts : List ℤ) : Type 0 where
  pub size : length ts ≡ night.column_count
  pub bounded : (j : ℕ) → j < night.column_count → Within near (signed_at ts j)
  pub kept : (j : ℕ) → j < night.column_count → mark w (behind night cols j) ≢ 2 → signed_at ts j ≡ signed_at vs j

-- A price that is below every cost with every row price.
abbrev pub lowest : ℤ
lowest = neg_ℤ (pos near)

-- Where node x is a row, the price of its column is lowered.
abbrev pub lower_at : ℕ → List ℕ → ℕ → List ℤ → List ℤ
lower_at m cols x ts = cond (ltb x m) (set ts (at cols x) lowest) ts

-- The walk with a path of this size, and these marks.
abbrev pub walk_of : ℕ → List ℕ → List ℕ → Walk
walk_of size path marks = record { size = size; path = path; marks = marks }

-- How a turn ends: with a path of another size; or the path of this size has come back to a place of it.
abbrev pub turned_at : ℕ → ControlFlow ℕ ℕ → List ℕ → List ℕ → Turn Walk Closed
turned_at size (Continue next) path marks = on (walk_of next path marks)
turned_at size (Break from) path marks = left (record { from = from; walk = walk_of size path marks })

-- From node x over choice c: the node to which it leads.
abbrev pub over_to : ℕ → List ℕ → ℕ → ℕ → ℕ
over_to m rows x c = cond (ltb x m) (at rows c) c

module _ (nodes width : ℕ) (way : ℕ → ℕ → ℕ) where
  -- The choices to which the nodes of a walk have come: none that a node has passed leads to a node which is not done, and the path went over them.
  pub record Holds (w : Walk) (choices : List ℕ) : Type 0 where
    pub choices_size : length choices ≡ nodes
    pub bounded : (x : ℕ) → x < nodes → at choices x ≤ width
    pub passed : (x c : ℕ) → x < nodes → c < at choices x → live nodes w (way x c) ≡ false
    pub went : (t : ℕ) → suc t < w.size → (at choices (place w t) < width) × (way (place w t) (at choices (place w t)) ≡ place w (suc t))

  -- This is a walk after some of its turns, and not all.
  abbrev pub Underway : Walk → Type 0
  Underway w = (k : ℕ) × (k < nodes + nodes) × (until 0 k (λ t. turn nodes width way) (unseen nodes) ≡ on w)

  -- Each node of the path has come to its own choice.
  abbrev pub Chosen : Walk → List ℕ → Type 0
  Chosen w choices = (t : ℕ) → t < w.size → at choices (place w t) ≡ choice nodes width way w (place w t)

-- At a place of a path the row is moved: its choice is stored at its place.
abbrev pub move_at : ℕ → List ℕ → List ℕ → ℕ → List ℕ → List ℕ
move_at m path choices k l = cond (ltb (at path k) m) (set l (at path k) (at choices (at path k))) l

-- What the moves are asked with.
pub record CanMove (m : ℕ) (cols choices second : List ℕ) : Type 0 where
  pub rows : m ≤ length choices
  pub listed : length cols ≡ m
  pub second_size : length second ≡ m
