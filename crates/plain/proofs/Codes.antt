-- Refusals as one number: the places of `plain` are far below 2^48. Assumes nothing.
use mathlib.Core.List.{List}
use Prim.Native.Nat.{ℕ, ◌*◌, ◌≤◌}
use native.Mathlib.Nat.{mul-le-mul}
use native.Mathlib.Omega.{arith}
use lib.Dec.{lit<}
use lib.IntN.{ℤ}
use Rattle.assignment.specs.Pairings.{square}
use Rattle.matrix.specs.Asked.{TellableIn}
use Rattle.matrix.specs.Verdicts.{Verdict}
use Rattle.std.specs.Prelude.{Ok, Err}
use Rattle.matrix.proofs.Verdicts.{then_iff, Small, then_small, fails_if_small, fails_at_small}
use Rattle.matrix.proofs.Passed.{side_within_lem, costs_fill_lem}
use Rattle.plain.specs.Engine.{plain_tests, answered, plain}

tests_small : (n : ℕ) (costs : List ℤ) (cols : List ℕ) → Small (plain_tests n costs cols)
unfolding plain_tests
tests_small n costs cols =
    then_small _ _
    (then_small _ _ (then_small _ _ (fails_if_small _ _ _ (λ e. lit< tt)) (λ a. fails_if_small _ _ _ (λ e. lit< tt))) (λ b. fails_if_small _ _ _ (λ e. lit< tt)))
    (λ c. fails_at_small _ _ _ _ (λ k l.
    let b = (then_iff _ _).0 ((then_iff _ _).0 c).0 in
    let few : n ≤ 8 = (side_within_lem 8 n).0 b.0 in
    let most : n * n ≤ 64 = mul-le-mul few few in
    omega (arith, most, (costs_fill_lem n n costs).0 b.1)))

pub plain_places : (n : ℕ) (costs : List ℤ) (cols : List ℕ) → TellableIn (plain n costs cols).0
unfolding answered
plain_places n costs cols = by (plain_tests n costs cols) (tests_small n costs cols)
  where
    by : (v : Verdict) → Small v → TellableIn (answered v (square n costs) cols).0
    by (Ok _) h = tt
    by (Err refusal) h = h
