-- Refusals as one number: the numbers of `cost` are below 256, and its places far below 2^48. Assumes nothing.
use mathlib.Core.Path.{◌≡◌}
use mathlib.Core.List.{List, [], ◌∷◌}
use Prim.Native.Nat.{ℕ, ◌*◌, ◌^◌, ◌≤◌}
use native.Mathlib.Nat.{mul-le-mul, le_of_lt, lt_of_le_of_lt}
use native.Mathlib.Omega.{arith}
use lib.Dec.{lit<}
use borrow.Author.Tests.{lt-ltb}
use lib.IntN.{ℤ}
use lib.ListN.{length}
use Rattle.matrix.specs.Limits.{side}
use Rattle.matrix.specs.Cost.{cost_tests, cost}
use Rattle.matrix.specs.Answers.{totalled}
use Rattle.matrix.specs.Tests.{shaped, rooms_long}
use Rattle.matrix.specs.Asked.{Tellable, TellableIn}
use Rattle.matrix.specs.Refusals.{place_of, code_of, capped_code_of}
use Rattle.matrix.specs.declared.refusals.Refusal.{Refusal}
use Rattle.matrix.proofs.SmallLimits.{side_small}
use Rattle.matrix.proofs.Verdicts.{then_iff, Small, then_small, fails_if_small, fails_at_small}
use Rattle.matrix.proofs.Passed.{side_within_lem, costs_fill_lem, list_short_lem}
use Rattle.matrix.specs.Verdicts.{Verdict}
use Rattle.std.specs.Prelude.{Ok, Err}

-- Costs within the limit have at most 2^32 places.
pub filled_small : (m n k : ℕ) → m ≤ side → n ≤ side → k ≡ m * n → k ≤ 2 ^ 32
filled_small m n k h l e = omega (arith, mul-le-mul (le_of_lt (lt_of_le_of_lt h side_small)) (le_of_lt (lt_of_le_of_lt l side_small)))

pub square_small : (n m : ℕ) → n ≤ side → m ≡ n * n → m ≤ 2 ^ 32
square_small n m h e = filled_small n n m h h e

-- A place that is far below 2^48 is told as it is.
pub capped_same : (refusal : Refusal) → Tellable refusal → capped_code_of refusal ≡ code_of refusal
capped_same refusal h = rw (lt-ltb (place_of refusal) (2 ^ 56) (omega (arith, h)))

pub totalled_small : (verdict : Verdict) (total : ℤ) → Small verdict → TellableIn (totalled verdict total)
unfolding totalled
totalled_small (Ok _) total h = tt
totalled_small (Err refusal) total h = h

pub shaped_small : (n : ℕ) (costs : List ℤ) (a b c d : ℕ) → Small (shaped n costs (a ∷ b ∷ c ∷ d ∷ []))
shaped_small n costs a b c d =
    then_small _ _ (then_small _ _ (fails_if_small _ _ _ (λ e. lit< tt)) (λ e. fails_if_small _ _ _ (λ e. lit< tt)))
    (λ e. fails_at_small _ _ _ _ (λ k l. omega arith))

pub rooms_small : (n indices numbers : ℕ) → Small (rooms_long n indices numbers)
rooms_small n indices numbers = then_small _ _ (fails_if_small _ _ _ (λ e. lit< tt)) (λ e. fails_if_small _ _ _ (λ e. lit< tt))

pub cost_places : (n : ℕ) (costs : List ℤ) (listed : List ℕ) → TellableIn (cost n costs listed)
unfolding cost cost_tests
cost_places n costs listed =
    totalled_small _ _
    (then_small _ _
    (then_small _ _
    (then_small _ _
    (then_small _ _ (fails_if_small _ _ _ (λ e. lit< tt)) (λ a. fails_if_small _ _ _ (λ e. lit< tt)))
    (λ b. fails_if_small _ _ _ (λ e. lit< tt)))
    (λ c. fails_at_small _ _ _ _ (λ k l. let b = ((then_iff _ _).0 c).0 in omega (arith, square_small n (length costs) ((side_within_lem side n).0 ((then_iff _ _).0 b).0) ((costs_fill_lem n n costs).0 ((then_iff _ _).0 b).1)))))
    (λ d. fails_at_small _ _ _ _ (λ i l. let c = ((then_iff _ _).0 d).0 in omega (arith, side_small, (side_within_lem side n).0 ((then_iff _ _).0 ((then_iff _ _).0 c).0).0, (list_short_lem n (length listed)).0 ((then_iff _ _).0 c).1))))
