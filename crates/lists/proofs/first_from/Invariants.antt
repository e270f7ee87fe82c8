use Rattle.std.proofs.Common.{false, ℕ, ◌≤◌, ◌<◌, ◌-◌}
use Rattle.lists.proofs.first_from.Given as goal

abbrev pub invariant-loop-k : goal.invariant-loop-k
invariant-loop-k g l = (l.from ≤ l.k) × (l.k ≤ l.end) × ((i : ℕ) → l.from ≤ i → i < l.k → goal.F-post g l.test i false)

abbrev pub decreases-loop-k : goal.decreases-loop-k
decreases-loop-k g l = l.end - l.k

abbrev pub invariant-loop-j : goal.invariant-loop-j
invariant-loop-j g l = (i : ℕ) → l.from ≤ i → i < l.j → goal.F-post g l.test i false
