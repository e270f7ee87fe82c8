-- `columns_mask` makes the columns allowed to a set's rows: so far those of the rows passed. Assumes nothing.
use Rattle.std.proofs.Common.{◌≡◌, cond, List, ℕ, ◌-◌, ◌^◌}
use Rattle.std.specs.Int.Bits.{bit_or}
use Rattle.lists.specs.Runs.{upward}
use Rattle.lists.specs.Permutations.{at}
use Rattle.lists.specs.Counts.{bit_of}
use Rattle.bars.specs.Masks.{allowed_mask}
use Rattle.bars.proofs.reached.columns_mask.Given as goal

-- the turn, as the definition has it
abbrev pub joins : ℕ → List ℕ → ℕ → ℕ → ℕ → ℕ
joins n bars rows i c = cond (bit_of rows i) (bit_or c (allowed_mask n (at bars i))) c

abbrev pub invariant-loop-i : goal.invariant-loop-i
invariant-loop-i l = (l.columns ≡ upward 0 l.i (joins l.n l.bars l.rows) 0) × (l.all ≡ 2 ^ l.n - 1)
