-- A walk over the nodes below a number, at each of which some of the choices below a width lead on: `way x c` is the node to which choice c
-- leads at x, and no node where it is `nodes` or more. The walk goes on along the first choice that leads to a node which is not done; a node
-- at which no choice does is done. The walk is left when it comes back to its own path.
use Rattle.std.specs.Prelude.{Bool, cond, not, ◌&&◌, List, ℕ, suc, ◌+◌, ◌-◌, ltb, leb, eqb, set, replicate}
use Rattle.lists.specs.Runs.{Turn, on, left, until, first}
use Rattle.lists.specs.Permutations.{at}

-- A walk under way: its path, which stands in the first `size` places of a list; and what each node is: 0 not seen, 1 on the path, 2 done.
pub record Walk : Type 0 where
  pub size : ℕ
  pub path : List ℕ
  pub marks : List ℕ

-- The path has come back to the node at its place `from`: the nodes from there on are a closed walk.
pub record Closed : Type 0 where
  pub from : ℕ
  pub walk : Walk

abbrev pub mark : Walk → ℕ → ℕ
mark w x = at w.marks x

-- The node at place k of the path.
abbrev pub place : Walk → ℕ → ℕ
place w k = at w.path k

-- The place of x on the path; its size where x is not on it.
abbrev pub place_of : Walk → ℕ → ℕ
place_of w x = first w.size (λ k. eqb (place w k) x)

-- The last node of the path.
abbrev pub last : Walk → ℕ
last w = place w (w.size - 1)

abbrev pub is_done : Walk → ℕ → Bool
is_done w x = eqb (mark w x) 2

-- Node x joins the path.
abbrev pub enter : ℕ → Walk → Walk
enter x w = record { size = suc w.size; path = set w.path w.size x; marks = set w.marks x 1 }

-- Node x, the last of the path, leaves it: it is done.
abbrev pub finish : ℕ → Walk → Walk
finish x w = record { size = w.size - 1; path = w.path; marks = set w.marks x 2 }

-- Whether x is a node of the closed walk.
abbrev pub on_closed : Closed → ℕ → Bool
on_closed z x = leb z.from (place_of z.walk x) && ltb (place_of z.walk x) z.walk.size

-- No node has been seen.
abbrev pub unseen : ℕ → Walk
unseen nodes = record { size = 0; path = replicate nodes 0; marks = replicate nodes 0 }

-- Whether y is a node that is not done.
abbrev pub live : ℕ → Walk → ℕ → Bool
live nodes w y = ltb y nodes && not (is_done w y)

-- An empty path starts at the first node that is not done. (That there is one whenever a turn starts with an empty path is a law.)
abbrev pub begin : ℕ → Walk → Walk
begin nodes w = enter (first nodes (λ y. not (is_done w y))) w

-- The way leads to node y: the path has come back to it, or it joins the path.
abbrev pub go_to : ℕ → Walk → Turn Walk Closed
go_to y w = cond (eqb (mark w y) 1) (left (record { from = place_of w y; walk = w })) (on (enter y w))

module _ (nodes width : ℕ) (way : ℕ → ℕ → ℕ) where
  -- The first choice at x that leads to a node which is not done; the width where none does.
  abbrev pub choice : Walk → ℕ → ℕ
  choice w x = first width (λ c. live nodes w (way x c))

  -- From x, the last node of the path.
  abbrev pub go_from : ℕ → Walk → Turn Walk Closed
  go_from x w = let c = choice w x in cond (ltb c width) (go_to (way x c) w) (on (finish x w))

  abbrev pub turn : Walk → Turn Walk Closed
  turn w = cond (eqb w.size 0) (on (begin nodes w)) (go_from (last w) w)

  -- The whole walk. A turn that does not leave marks a node once more, so that after twice as many turns as nodes all are done.
  unfoldable pub walk : Turn Walk Closed
  walk = until 0 (nodes + nodes) (λ k w. turn w) (unseen nodes)
