-- "all other refusals carry 0": of the tests that entries share, and of `cost`. Assumes nothing.
use mathlib.Core.Path.{◌≡◌, ap, ◌∙◌}
use mathlib.Core.List.{List}
use Prim.Native.Nat.{ℕ}
use lib.IntN.{ℤ}
use lib.ListN.{length}
use Rattle.matrix.specs.Verdicts.{bare}
use Rattle.matrix.specs.Tests.{shaped, rooms_long}
use Rattle.matrix.specs.Answers.{bare_answer, totalled}
use Rattle.matrix.specs.Cost.{total_of, cost_tests, cost}
use Rattle.matrix.specs.Verdicts.{Verdict}
use Rattle.matrix.proofs.Verdicts.{bare_then, bare_if, bare-at, bare-totalled}

pub shaped-bare : (n : ℕ) (costs : List ℤ) (lengths : List ℕ) → bare (shaped n costs lengths) ≡ shaped n costs lengths
shaped-bare n costs lengths = bare_then _ _ (bare_then _ _ (bare_if _ _ _ _) (bare_if _ _ _ _)) (bare-at _ _ _ _ _)

pub rooms_bare : (n indices numbers : ℕ) → bare (rooms_long n indices numbers) ≡ rooms_long n indices numbers
rooms_bare n indices numbers = bare_then _ _ (bare_if _ _ _ _) (bare_if _ _ _ _)

pub cost-bare : (n : ℕ) (costs : List ℤ) (listed : List ℕ) → bare_answer (cost n costs listed) ≡ cost n costs listed
unfolding cost cost_tests
cost-bare n costs listed =
    bare-totalled _ _
    ∙ ap (λ (v : Verdict). totalled v (total_of n costs (length listed) listed))
    (bare_then _ _
    (bare_then _ _ (bare_then _ _ (bare_then _ _ (bare_if _ _ _ _) (bare_if _ _ _ _)) (bare_if _ _ _ _)) (bare-at _ _ _ _ _))
    (bare-at _ _ _ _ _))
