-- What the solver's answer owes on every night within the limits. Assumes nothing.
use mathlib.Core.List.{List}
use Prim.Native.Nat.{ℕ, ◌≤◌, ◌<◌}
use native.Mathlib.Omega.{arith}
use lib.IntN.{ℤ}
use lib.ListN.{length}
use Rattle.ints.specs.Parts.{Within}
use Rattle.assignment.specs.Pairings.{signed_at}
use Rattle.matrix.specs.Limits.{side, K}
use Rattle.rules.specs.Right.{Right}
use Rattle.rules.proofs.Run.{run_right}
use Rattle.rules.proofs.Sizes.{within_everywhere}
use Rattle.lapjv.specs.Answers.{answer}
use Rattle.lapjv.specs.Solve.{Lent}
use Rattle.lapjv.specs.WithinLimits.{WithinLimits}
use Rattle.lapjv.proofs.Ready.{side-free}

pub answer_owes : (n : ℕ) (costs : List ℤ) → n ≤ side → ((k : ℕ) → k < length costs → Within K (signed_at costs k)) → Right n costs K (answer n costs)
answer_owes n costs small within = run_right n costs K (within_everywhere K costs within) (omega (arith, side-free))

-- "A pass over F rows makes F to F*n looks; each search scans at most n-1 columns."
pub solved_owes : (n : ℕ) (costs : List ℤ) (lent : Lent) → WithinLimits n costs lent → Right n costs K (answer n costs)
solved_owes n costs lent p = answer_owes n costs p.small p.costs_within
