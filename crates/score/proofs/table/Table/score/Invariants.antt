-- `score` answers the sum of the character costs: after k of them it is the sum of the first k. Assumes nothing.
use mathlib.Core.Path.{◌≡◌}
use mathlib.Core.List.{List}
use Prim.Native.Nat.{ℕ}
use lib.IntN.{ℤ, pos}
use lib.ListN.{length}
use Rattle.lists.specs.Permutations.{at}
use Rattle.lists.specs.Sums.{sum}
use Rattle.score.specs.Characters.{character_cost}
use Rattle.score.proofs.table.Table.score.Given as goal

abbrev pub costs : List ℕ → List ℕ → ℕ → ℤ
costs x y k = pos (character_cost (at x k) (at y k))

abbrev pub invariant-loop-a : goal.invariant-loop-a
invariant-loop-a l =
    (goal.iterator-loop-a).can_next l.a-iterator × (goal.iterator-loop-a).is_finite l.a-iterator × (l.total ≡ sum (length l.yielded) (costs l.first l.second))
