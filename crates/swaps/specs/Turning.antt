-- The walk of an accepted night: what functions that the entries call ask for, and what they leave.
use Rattle.std.specs.Prelude.{◌≡◌, Bool, false, Option, Some, None, List, [], ℕ, ◌≤◌, ◌<◌, ℤ, length}
use Rattle.std.specs.declared.ops.ControlFlow.{ControlFlow}
use Rattle.std.specs.declared.ops.ControlFlow.TheVariants.{Continue, Break}
use Rattle.lists.specs.Runs.{left}
use Rattle.assignment.specs.Pairings.{Night}
use Rattle.bars.specs.Barred.{night_of}
use Rattle.swaps.specs.Walks.{Walk, unseen, live, turn, walk}
use Rattle.swaps.specs.Second.{only, nodes, way, second}
use Rattle.swaps.specs.Rooms.{Lowered, walk_of, turned_at, Holds, Underway, Chosen}
use Rattle.swaps.specs.declared.accepted.Accepted.{Accepted}

-- The night, how many nodes its walk has, and its ways.
abbrev pub night : Accepted → Night
night a = night_of a.m a.n a.costs.now a.bars.now

abbrev pub node_count : Accepted → ℕ
node_count a = nodes (night a)

abbrev pub way_of : Accepted → ℕ → ℕ → ℕ
way_of a = way (night a) a.us.now a.vs.now a.cols.now

-- Whether choice c of node x leads to a node that is not done, under these marks.
abbrev pub leads_on : Accepted → List ℕ → ℕ → ℕ → Bool
leads_on a marks x c = live (node_count a) (walk_of 0 [] marks) (way_of a x c)

-- What a choice is made with.
pub record CanChoose (a : Accepted) (marks : List ℕ) (ts : List ℤ) (x from : ℕ) : Type 0 where
  pub node : x < node_count a
  pub marks_size : length marks ≡ node_count a
  pub lowered : Lowered (night a) a.vs.now a.cols.now (walk_of 0 [] marks) ts
  pub bounded : from ≤ a.n
  pub passed : (c : ℕ) → c < from → leads_on a marks x c ≡ false

-- What stands beside a walk: the choices to which its nodes have come, and column prices.
pub record Beside (a : Accepted) (w : Walk) (choices : List ℕ) (ts : List ℤ) : Type 0 where
  pub holds : Holds (node_count a) a.n (way_of a) w choices
  pub lowered : Lowered (night a) a.vs.now a.cols.now w ts

-- What a turn is asked with, and what it leaves.
pub record CanTurn (a : Accepted) (w : Walk) (choices : List ℕ) (ts : List ℤ) : Type 0 where
  pub beside : Beside a w choices ts
  pub underway : Underway (node_count a) a.n (way_of a) w

abbrev pub AfterTurn : Accepted → ℕ → ControlFlow ℕ ℕ → List ℕ → List ℕ → List ℕ → List ℤ → Type 0
AfterTurn a size (Continue next) path marks choices ts = Beside a (walk_of next path marks) choices ts
AfterTurn a size (Break from) path marks choices ts = Chosen (node_count a) a.n (way_of a) (walk_of size path marks) choices

abbrev pub TurnedTo : Accepted → Walk → ControlFlow ℕ ℕ → List ℕ → List ℕ → List ℕ → List ℤ → Type 0
TurnedTo a w r path marks choices ts =
    (turned_at w.size r path marks ≡ turn (node_count a) a.n (way_of a) w) × AfterTurn a w.size r path marks choices ts

-- What the whole walk is asked with, and what it leaves.
pub record CanWalk (a : Accepted) (path marks choices : List ℕ) (ts : List ℤ) : Type 0 where
  pub at_start : walk_of 0 path marks ≡ unseen (node_count a)
  pub beside : Beside a (walk_of 0 path marks) choices ts

abbrev pub WalkedTo : Accepted → Option (ℕ × ℕ) → List ℕ → List ℕ → List ℕ → Type 0
WalkedTo a None path marks choices = second (night a) a.us.now a.vs.now a.cols.now ≡ only
WalkedTo a (Some came) path marks choices =
    (walk (node_count a) a.n (way_of a) ≡ left (record { from = came.0; walk = walk_of came.1 path marks }))
    × Chosen (node_count a) a.n (way_of a) (walk_of came.1 path marks) choices
