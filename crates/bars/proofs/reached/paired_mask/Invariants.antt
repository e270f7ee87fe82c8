-- `paired_mask` adds the rows paired with a set's columns: so far those passed. Assumes nothing.
use Rattle.std.proofs.Common.{◌≡◌, cond, List, ℕ, ◌^◌}
use Rattle.std.specs.Int.Bits.{bit_or}
use Rattle.lists.specs.Runs.{upward}
use Rattle.lists.specs.Permutations.{at}
use Rattle.lists.specs.Counts.{bit_of}
use Rattle.bars.proofs.reached.paired_mask.Given as goal

-- the turn, as the definition has it
abbrev pub joins : List ℕ → ℕ → ℕ → ℕ → ℕ
joins cols columns k s = cond (bit_of columns (at cols k)) (bit_or s (2 ^ k)) s

abbrev pub invariant-loop-i : goal.invariant-loop-i
invariant-loop-i l = l.set ≡ upward 0 l.i (joins l.cols l.columns) l.rows
