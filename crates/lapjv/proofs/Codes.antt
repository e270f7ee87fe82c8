-- The places of the solver's refusals are far below 2^48, so that each is one number. Assumes nothing.
use mathlib.Core.List.{List}
use Prim.Native.Nat.{ℕ}
use native.Mathlib.Omega.{arith}
use lib.IntN.{ℤ}
use lib.ListN.{length}
use Rattle.matrix.specs.Verdicts.{Verdict}
use Rattle.std.specs.Prelude.{Ok, Err}
use Rattle.matrix.proofs.Verdicts.{passed_first, Small, then_small, fails_at_small}
use Rattle.matrix.proofs.Passed.{shaped_iff}
use Rattle.matrix.proofs.Codes.{square_small, shaped_small, rooms_small}
use Rattle.lapjv.specs.Asked.{TellableSolved}
use Rattle.lapjv.specs.Solve.{Lent, tested, outcome, solve}

pub tested_small : (n : ℕ) (costs : List ℤ) (lent : Lent) → Small (tested n costs lent)
unfolding tested
tested_small n costs lent =
    then_small _ _
    (then_small _ _ (shaped_small n costs (length lent.cols) (length lent.rows) (length lent.prices_of_rows) (length lent.prices_of_columns))
    (λ e. rooms_small n (length lent.indices) (length lent.numbers)))
    (λ e. fails_at_small _ _ _ _ (λ k l.
    let s = (shaped_iff n costs (length lent.cols) (length lent.rows) (length lent.prices_of_rows) (length lent.prices_of_columns)).0 (passed_first _ _ e) in
    omega (arith, square_small n (length costs) s.small s.squared)))

pub solve_places : (n : ℕ) (costs : List ℤ) (lent : Lent) → TellableSolved (solve n costs lent).answer
unfolding solve outcome
solve_places n costs lent = by (tested n costs lent) (tested_small n costs lent)
  where
    by : (verdict : Verdict) → Small verdict → TellableSolved (outcome n costs lent verdict).answer
    by (Ok _) h = tt
    by (Err refusal) h = h
