-- What the slack decides is what document 01 asks: it is below 0 where the prices are over the cost, and not 0 where they are not the cost.
-- So the same is refused, at the same place and in the same order. Assumes nothing.
use mathlib.Core.Path.{◌≡◌, refl, sym, ap, ap₂, ◌∙◌}
use mathlib.Core.Bool.{Bool, ◌&&◌, ◌||◌, or_comm}
use mathlib.Core.Logic.{⊎_elim}
use mathlib.Core.List.{List, [], ◌∷◌}
use Prim.Native.Nat.{ℕ, ◌+◌, ◌*◌}
use lib.Dec.{ltb}
use lib.IntN.{ℤ, pos, ◌-ℤ◌}
use lib.ListN.{length}
use lib.Signed.{lt_z}
use Rattle.ints.proofs.Sums.{dif}
use Rattle.ints.proofs.Ranges.{zarith}
use Rattle.ints.proofs.Tests.{lt_lt_z, le_lt_z, le_or_lt}
use Rattle.lists.specs.Permutations.{at}
use Rattle.assignment.specs.Pairings.{Night, square, total}
use Rattle.assignment.specs.Prices.{priced}
use Rattle.matrix.specs.Verdicts.{bare}
use Rattle.matrix.specs.Answers.{bare_answer, totalled}
use Rattle.matrix.specs.Verdicts.{Verdict}
use Rattle.matrix.proofs.First.{first_cong}
use Rattle.matrix.proofs.Verdicts.{bare_then, bare-at, bare-totalled, fails_at_cong}
use Rattle.matrix.proofs.Bare.{shaped-bare}
use Rattle.checker.specs.Tests.{over, over_first, loose}
use Rattle.checker.specs.Check.{price_tests, checks, check}
use Rattle.checker.specs.Scope.{over_cost, over_cost_first, not_cost, scope_prices, scope_check}

below : (cost prices : ℤ) → lt_z (cost -ℤ prices) (pos 0) ≡ lt_z cost prices
below cost prices = ⊎_elim
    (λ h. le_lt_z (cost -ℤ prices) (pos 0) (omega (zarith, dif cost prices)) ∙ sym (le_lt_z cost prices h))
    (λ l. lt_lt_z (cost -ℤ prices) (pos 0) (omega (zarith, dif cost prices)) ∙ sym (lt_lt_z cost prices l))
    (le_or_lt prices cost)

above : (cost prices : ℤ) → lt_z (pos 0) (cost -ℤ prices) ≡ lt_z prices cost
above cost prices = ⊎_elim
    (λ h. le_lt_z (pos 0) (cost -ℤ prices) (omega (zarith, dif cost prices)) ∙ sym (le_lt_z prices cost h))
    (λ l. lt_lt_z (pos 0) (cost -ℤ prices) (omega (zarith, dif cost prices)) ∙ sym (lt_lt_z prices cost l))
    (le_or_lt cost prices)

module _ (night : Night) (us vs : List ℤ) where
  -- The slack of an allowed place is below 0 exactly where the prices are over the cost.
  pub over-cost : (i j : ℕ) → over night us vs i j ≡ over_cost night us vs i j
  over-cost i j = ap (λ (t : Bool). night.allowed i j && t) (below (night.cost i j) (priced us vs i j))

  -- The slack of a paired place is not 0 exactly where the prices are not the cost.
  pub loose-cost : (cols : List ℕ) (i : ℕ) → loose night cols us vs i ≡ not_cost night cols us vs i
  loose-cost cols i =
      ap₂ ◌||◌ (below (night.cost i (at cols i)) (priced us vs i (at cols i))) (above (night.cost i (at cols i)) (priced us vs i (at cols i)))
      ∙ or_comm (lt_z (night.cost i (at cols i)) (priced us vs i (at cols i))) (lt_z (priced us vs i (at cols i)) (night.cost i (at cols i)))

  -- 8, 9 and 10 refuse, in this order and at these places, what document 01 says.
  pub prices_scope : (cols : List ℕ) → bare (price_tests night cols us vs) ≡ scope_prices night cols us vs
  prices_scope cols =
      bare_then _ _
      (bare_then _ _ (bare_then _ _ (bare-at _ _ _ _ _) (bare-at _ _ _ _ _))
      (bare-at _ _ _ _ _ ∙ fails_at_cong _ night.row_count _ _ _ _ (λ i. ap (λ (j : ℕ). i * night.column_count + j) (column i)) (λ i l. ap (λ (j : ℕ). ltb j night.column_count) (column i))))
      (bare-at _ _ _ _ _ ∙ fails_at_cong _ night.row_count _ _ _ _ (λ i. refl) (λ i l. loose-cost cols i))
    where
      column : (i : ℕ) → over_first night us vs i ≡ over_cost_first night us vs i
      column i = first_cong night.column_count _ _ (λ j l. over-cost i j)

-- Which inputs are refused, with which number and at which place, and which are accepted with which total: document 01's.
pub check_scope : (n : ℕ) (costs : List ℤ) (cols rows : List ℕ) (us vs : List ℤ)
    → bare_answer (check n costs cols rows us vs) ≡ scope_check n costs cols rows us vs
unfolding check checks scope_check
check_scope n costs cols rows us vs =
    bare-totalled _ _
    ∙ ap (λ (v : Verdict). totalled v (total (square n costs) cols))
    (bare_then _ _ (shaped-bare n costs (length cols ∷ length rows ∷ length us ∷ length vs ∷ []))
    (bare_then _ _ (bare_then _ _ (bare_then _ _ (bare-at _ _ _ _ _) (bare-at _ _ _ _ _)) (bare-at _ _ _ _ _)) (prices_scope (square n costs) us vs cols)))
