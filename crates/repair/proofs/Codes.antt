-- Every refusal of a repair is one number, its place being far below 2^48, and carries the right slack: negative with a 9, positive with a 10, 0 with
-- all others. Assumes nothing.
use mathlib.Core.Path.{◌≡◌, refl, sym, subst, ◌∙◌}
use mathlib.Core.Bool.{Bool, true, true≢false}
use mathlib.Core.Logic.{◌≢◌}
use mathlib.Core.List.{List}
use Prim.Native.Nat.{ℕ, ◌+◌, ◌*◌, ◌^◌, ◌≤◌, ◌<◌}
use native.Mathlib.Nat.{le_of_lt, mul-le-mul_right}
use native.Mathlib.Omega.{arith}
use lib.Dec.{lit<}
use lib.IntN.{ℤ, pos}
use lib.ListN.{length}
use Rattle.ints.specs.Parts.{Within}
use Rattle.lists.specs.Permutations.{at}
use Rattle.lists.proofs.Runs.{first_le}
use Rattle.assignment.specs.Pairings.{square}
use Rattle.matrix.specs.Asked.{Tellable, TellableIn}
use Rattle.matrix.specs.Limits.{K}
use Rattle.matrix.specs.declared.refusals.Reason.{Reason}
use Rattle.matrix.specs.declared.refusals.Reason.TheVariants.{PriceOutside, PriceFar}
use Rattle.matrix.specs.Tests.{columns_inside, prices_in, prices_within}
use Rattle.matrix.specs.Verdicts.{Passes, ◌then◌, fails_at}
use Rattle.matrix.specs.declared.refusals.Refusal.{Refusal}
use Rattle.matrix.specs.Verdicts.{Verdict}
use Rattle.std.specs.Prelude.{Ok, Err}
use Rattle.matrix.proofs.SmallLimits.{side_small}
use Rattle.matrix.proofs.Codes.{square_small}
use Rattle.matrix.proofs.Places.{place-below}
use Rattle.matrix.proofs.Passed.{columns_inside_lem}
use Rattle.matrix.proofs.Verdicts.{then_iff, Every, then_every, fails_at_by_every, Small, then_small, fails_if_small, fails_at_by_small, fails_at_small}
use Rattle.checker.specs.Tests.{rows_named, over, over_in, but, under_costs_but, loose, tight_on_but}
use Rattle.checker.specs.Slacks.{SlackRight}
use Rattle.checker.proofs.But.{but_self, but_holds}
use Rattle.checker.proofs.Tests.{under_costs_but_lem}
use Rattle.checker.proofs.Slacks.{none_if, none_at, neither_right, over_slacks, loose_slacks}
use Rattle.lapjv.specs.Solve.{Lent, tested}
use Rattle.lapjv.proofs.Codes.{tested_small}
use Rattle.lapjv.proofs.Tests.{tested_iff}
use Rattle.repair.specs.Tests.{row_inside, prices_near, repair_tests}
use Rattle.repair.specs.Repair.{outcome, repair}

module _ (n : ℕ) (costs : List ℤ) (row : ℕ) (lent : Lent) where
  abbrev us : List ℤ
  us = lent.prices_of_rows

  abbrev vs : List ℤ
  vs = lent.prices_of_columns

  -- What holds of every refusal of each test, once those before it have passed, holds of every refusal.
  every : (P : Refusal → Type 0) → Every P (tested n costs lent) → (Passes (tested n costs lent) → Every P (row_inside n row))
      → (Passes (tested n costs lent) → Every P (columns_inside n n lent.cols))
      → (Passes (tested n costs lent) → Every P (rows_named n lent.cols lent.rows))
      → (Passes (tested n costs lent) → Every P (prices_within n n us vs))
      → (Passes (tested n costs lent) → Every P (prices_near n us vs))
      → (Passes (tested n costs lent) → Passes (prices_within n n us vs) → Every P (under_costs_but row (square n costs) us vs))
      → (Passes (tested n costs lent) → Passes (columns_inside n n lent.cols) → Passes (prices_within n n us vs) → Passes (under_costs_but row (square n costs) us vs)
      → Every P (tight_on_but row (square n costs) lent.cols us vs))
      → Every P (repair_tests n costs row lent)
  unfolding repair_tests
  every P a r b c d f g h =
      then_every P _ _
      (then_every P _ _
      (then_every P _ _
      (then_every P _ _ (then_every P _ _ (then_every P _ _ (then_every P _ _ a r) (λ e. b ((then_iff _ _).0 e).0)) (λ e. c (listed e).0))
      (λ e. d (listed ((then_iff _ _).0 e).0).0))
      (λ e. f (priced e).0))
      (λ e. let p = priced ((then_iff _ _).0 e).0 in g p.0 p.2))
      (λ e. let t = (then_iff _ _).0 e in let p = priced ((then_iff _ _).0 t.0).0 in h p.0 p.1 p.2 t.1)
    where
      listed : Passes (tested n costs lent then row_inside n row then columns_inside n n lent.cols) → Passes (tested n costs lent) × Passes (columns_inside n n lent.cols)
      listed e = let t = (then_iff _ _).0 e in (((then_iff _ _).0 t.0).0, t.1)

      priced : Passes (tested n costs lent then row_inside n row then columns_inside n n lent.cols then rows_named n lent.cols lent.rows then prices_within n n us vs)
          → Passes (tested n costs lent) × Passes (columns_inside n n lent.cols) × Passes (prices_within n n us vs)
      priced e = let t = (then_iff _ _).0 e in let l = listed ((then_iff _ _).0 t.0).0 in (l.0, l.1, t.1)

  few : Passes (tested n costs lent) → (n < 2 ^ 16) × (n * n ≤ 2 ^ 32)
  few e =
      let h = (tested_iff n costs lent).0 e in
      (omega (arith, side_small, h.small), omega (arith, square_small n (length costs) h.small h.squared, h.squared))

  -- Row prices and column prices, under any reason.
  prices_small : (reason : Reason) (limit : ℤ) → Passes (tested n costs lent) → Small (prices_in reason limit n n us vs)
  prices_small reason limit e =
      then_small _ _ (fails_at_small _ _ _ _ (λ i l. omega (arith, few e))) (λ t. fails_at_small _ _ _ _ (λ j l. omega (arith, few e)))

  tests_small : Small (repair_tests n costs row lent)
  tests_small =
      every Tellable (tested_small n costs lent)
      (λ e. fails_if_small _ _ _ (λ t. omega (arith, few e)))
      (λ e. fails_at_small _ _ _ _ (λ i l. omega (arith, few e)))
      (λ e. fails_at_small _ _ _ _ (λ i l. omega (arith, few e)))
      (prices_small PriceOutside (pos (10 * K)))
      (prices_small PriceFar (pos (7 * K)))
      (λ e f. fails_at_by_small _ _ _ _ _ (λ i l. omega (arith, few e, mul-le-mul_right n (le_of_lt l), first_le (over (square n costs) us vs i) n)))
      (λ e f g h. fails_at_by_small _ _ _ _ _ (λ i l. omega (arith, few e)))

  pub repair_places : TellableIn (repair n costs row lent).answer
  unfolding repair outcome
  repair_places = by (repair_tests n costs row lent) tests_small
    where
      by : (verdict : Verdict) → Small verdict → TellableIn (outcome n costs row lent verdict).answer
      by (Ok _) h = tt
      by (Err refusal) h = h

  -- A row that a test of the rows but one names is another.
  named_other : (test : ℕ → Bool) (i : ℕ) → but row test i ≡ true → i ≢ row
  named_other test i t e = true≢false (sym t ∙ but_self row test i e)

  tests_slacks : Every SlackRight (repair_tests n costs row lent)
  unfolding tested
  tests_slacks =
      every SlackRight
      (then_every SlackRight _ _
      (then_every SlackRight _ _
      (then_every SlackRight _ _ (then_every SlackRight _ _ (none_if _ _ _ (lit< tt)) (λ e. none_if _ _ _ (lit< tt))) (λ e. none_at _ _ _ _ (lit< tt)))
      (λ e. then_every SlackRight _ _ (none_if _ _ _ (lit< tt)) (λ f. none_if _ _ _ (lit< tt))))
      (λ e. none_at _ _ _ _ (lit< tt)))
      (λ e. none_if _ _ _ (lit< tt))
      (λ e. none_at _ _ _ _ (lit< tt))
      (λ e. none_at _ _ _ _ (lit< tt))
      (λ e. then_every SlackRight _ _ (none_at _ _ _ _ (lit< tt)) (λ f. none_at _ _ _ _ (lit< tt)))
      (λ e. then_every SlackRight _ _ (far (λ i. i) _ _) (λ f. far (λ j. n + j) _ _))
      (λ e f. over_slacks (square n costs) us vs (costs_near e) (but row (over_in (square n costs) us vs)) (but_holds row (over_in (square n costs) us vs)) f)
      (λ e i f u. loose_slacks (square n costs) us vs (costs_near e) lent.cols (λ k l. ((columns_inside_lem n n lent.cols).0 i k l, refl))
      (but row (loose (square n costs) lent.cols us vs)) (but_holds row (loose (square n costs) lent.cols us vs))
      (λ k l t. ((under_costs_but_lem (square n costs) us vs row).0 u).under k (at lent.cols k) l (named_other (loose (square n costs) lent.cols us vs) k t) ((columns_inside_lem n n lent.cols).0 i k l) refl) f)
    where
      costs_near : Passes (tested n costs lent) → (i j : ℕ) → i < n → j < n → Within K ((square n costs).cost i j)
      costs_near e i j l m = let h = (tested_iff n costs lent).0 e in h.costs_within _ (omega (arith, place-below n i j l m, h.squared))

      far : (place : ℕ → ℕ) (count : ℕ) (test : ℕ → Bool) → Every SlackRight (fails_at PriceFar place count test)
      far place count test =
          fails_at_by_every SlackRight PriceFar place (λ k. pos 0) count test (λ k l t clear. neither_right PriceFar (place k) (λ e. omega arith) (λ e. omega arith))

  -- A refusal of a repair carries the right slack.
  pub repair_slacks : {refusal : Refusal} → (repair n costs row lent).answer ≡ Err refusal → SlackRight refusal
  unfolding repair outcome
  repair_slacks {refusal} = by (repair_tests n costs row lent) tests_slacks
    where
      by : (verdict : Verdict) → Every SlackRight verdict → (outcome n costs row lent verdict).answer ≡ Err refusal → SlackRight refusal
      by (Ok _) h e = let z : ◌≡◌ {A = ℕ} 0 1 = cc in absurd (omega arith)
      by (Err given) h e = let same : given ≡ refusal = cc e in subst SlackRight same h
