-- `reached_mask` makes the rows reached: so far those of the rounds passed. Assumes nothing.
use Rattle.std.proofs.Common.{◌≡◌, List, ℕ, ◌^◌}
use Rattle.lists.specs.Runs.{upward}
use Rattle.bars.specs.Masks.{columns_mask, paired_mask}
use Rattle.bars.proofs.reached.reached_mask.Given as goal

-- the round, as the definition has it
abbrev pub grows : ℕ → List ℕ → List ℕ → ℕ → ℕ → ℕ
grows n bars cols r rows = paired_mask n cols (columns_mask n bars rows) rows

abbrev pub invariant-loop : goal.invariant-loop
invariant-loop l = l.rows ≡ upward 0 l.counter (grows l.n l.bars l.cols) (2 ^ l.i)
