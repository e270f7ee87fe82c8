-- The places of the checker's refusals are far below 2^48, so that each is one number. Assumes nothing.
use mathlib.Core.Path.{◌≡◌, refl}
use mathlib.Core.Bool.{Bool}
use mathlib.Core.Logic.{◌⊎◌, inl, inr, ⊎_elim}
use mathlib.Core.List.{List, [], ◌∷◌}
use Prim.Native.Nat.{ℕ, ◌*◌, ◌^◌, ◌≤◌, ◌<◌}
use native.Mathlib.Nat.{le_of_lt, le_trans, mul-le-mul_right}
use native.Mathlib.Omega.{arith}
use lib.Dec.{lit<}
use lib.IntN.{ℤ, pos}
use lib.ListN.{length}
use Rattle.lists.proofs.Runs.{first_le}
use Rattle.assignment.specs.Pairings.{Night, square}
use Rattle.matrix.specs.Limits.{side}
use Rattle.matrix.specs.Verdicts.{Passes, ◌then◌, fails_if}
use Rattle.matrix.specs.Refusals.{number_of, place_of}
use Rattle.matrix.specs.declared.refusals.Reason.{Reason}
use Rattle.matrix.specs.declared.refusals.Refusal.{Refusal}
use Rattle.matrix.specs.Verdicts.{Verdict}
use Rattle.std.specs.Prelude.{Ok, Err}
use Rattle.matrix.specs.Tests.{shaped}
use Rattle.matrix.specs.Asked.{Tellable, TellableIn}
use Rattle.matrix.proofs.SmallLimits.{side_small, sheet_side_within}
use Rattle.matrix.proofs.Reasons.{number_small}
use Rattle.matrix.proofs.Codes.{filled_small, square_small, totalled_small, shaped_small}
use Rattle.matrix.proofs.Verdicts.{passed_first, Every, then_every, fails_by_every, refused_every, Small, then_small, fails_if_small, fails_at_by_small, fails_at_small}
use Rattle.matrix.proofs.Passed.{shaped_iff}
use Rattle.bars.specs.Barred.{night_of, barred}
use Rattle.checker.specs.Tests.{over, spares_not_below}
use Rattle.checker.specs.Check.{price_tests, checks, check, shaped_barred, checks_barred, check_barred, shaped_oblong, paired_oblong, checks_oblong, check_oblong}
use Rattle.checker.proofs.Barred.{shaped_barred_iff}
use Rattle.checker.proofs.Oblong.{shaped_oblong_iff}

-- 8, 9 and 10, of any night within the limits.
pub prices_small : (night : Night) (cols : List ℕ) (us vs : List ℤ) → night.row_count ≤ side → night.column_count ≤ side → Small (price_tests night cols us vs)
prices_small night cols us vs h k =
    let m = night.row_count in
    let n = night.column_count in
    let places = filled_small m n (m * n) h k refl in
    then_small _ _
    (then_small _ _
    (then_small _ _ (fails_at_small _ _ _ _ (λ i l. omega (arith, side_small))) (λ g. fails_at_small _ _ _ _ (λ j l. omega (arith, side_small))))
    (λ g. fails_at_by_small _ _ _ _ _ (λ i l. omega (arith, side_small, places, mul-le-mul_right n (le_of_lt l), first_le (over night us vs i) n))))
    (λ g. fails_at_by_small _ _ _ _ _ (λ i l. omega (arith, side_small)))

pub check_places : (n : ℕ) (costs : List ℤ) (cols rows : List ℕ) (us vs : List ℤ) → TellableIn (check n costs cols rows us vs)
unfolding check checks
check_places n costs cols rows us vs =
    totalled_small _ _
    (then_small _ _ (shaped_small n costs (length cols) (length rows) (length us) (length vs))
    (λ e. let h = small e in
    then_small _ _
    (then_small _ _
    (then_small _ _ (fails_at_small _ _ _ _ (λ k l. omega (arith, h.1))) (λ f. fails_at_small _ _ _ _ (λ i l. omega (arith, h.0, side_small))))
    (λ f. fails_at_small _ _ _ _ (λ i l. omega (arith, h.0, side_small))))
    (λ f. prices_small (square n costs) cols us vs h.0 h.0)))
  where
    small : Passes (shaped n costs (length cols ∷ length rows ∷ length us ∷ length vs ∷ [])) → (n ≤ side) × (length costs ≤ 2 ^ 32)
    small e =
        let h = (shaped_iff n costs (length cols) (length rows) (length us) (length vs)).0 e in
        (h.small, square_small n (length costs) h.small h.squared)

pub check_barred_places : (n : ℕ) (costs : List ℤ) (cols rows : List ℕ) (us vs : List ℤ) (bars : List ℕ) → TellableIn (check_barred n costs cols rows us vs bars)
unfolding check_barred checks_barred
check_barred_places n costs cols rows us vs bars =
    totalled_small _ _
    (then_small _ _
    (then_small _ _
    (then_small _ _
    (then_small _ _
    (then_small _ _ (fails_if_small _ _ _ (λ e. lit< tt)) (λ e. fails_if_small _ _ _ (λ e. lit< tt)))
    (λ e. fails_at_small _ _ _ _ (λ k l. omega arith)))
    (λ e. fails_if_small _ _ _ (λ e. lit< tt)))
    (λ e. let h = small e in
    then_small _ _
    (then_small _ _
    (then_small _ _
    (then_small _ _ (fails_at_small _ _ _ _ (λ k l. omega (arith, h.1))) (λ f. fails_at_small _ _ _ _ (λ i l. omega (arith, h.0, side_small))))
    (λ f. fails_at_small _ _ _ _ (λ i l. omega (arith, h.0, side_small))))
    (λ f. fails_at_small _ _ _ _ (λ i l. omega (arith, h.0, side_small))))
    (λ f. fails_at_small _ _ _ _ (λ i l. omega (arith, h.0, side_small)))))
    (λ e. let h = small (passed_first _ _ e) in prices_small (barred n costs bars) cols us vs h.0 h.0))
  where
    small : Passes (shaped_barred n costs (length cols ∷ length rows ∷ length us ∷ length vs ∷ []) (length bars)) → (n ≤ side) × (length costs ≤ 2 ^ 32)
    small e =
        let h = (shaped_barred_iff n costs (length cols) (length rows) (length us) (length vs) (length bars)).0 e in
        let s = le_trans h.0 sheet_side_within in
        (s, square_small n (length costs) s h.1)

-- An oblong night's: 23 names the row count, whatever it is; every other place is far below 2^48.
abbrev Placed : ℕ → Refusal → Type 0
Placed m refusal = (place_of refusal < 2 ^ 48) ⊎ (place_of refusal ≡ m)

small_placed : (m : ℕ) (verdict : Verdict) → Small verdict → Every (Placed m) verdict
small_placed m (Ok _) h = tt
small_placed m (Err refusal) h = inl h

oblong_placed : (m n : ℕ) (costs : List ℤ) (cols : List ℕ) (us vs : List ℤ) → Every (Placed m) (checks_oblong m n costs cols us vs)
unfolding checks_oblong
oblong_placed m n costs cols us vs =
    both _ _
    (both _ _
    (both _ _
    (both _ _
    (both _ _
    (both _ _
    (both _ _ (both _ _ (if_small _ 0 _ (lit< tt)) (λ e. fails_by_every (Placed m) _ _ _ _ (λ f. inr refl))) (λ e. if_small _ 0 _ (lit< tt)))
    (λ e. if_small _ 1 _ (lit< tt)))
    (λ e. if_small _ 3 _ (lit< tt)))
    (λ e. if_small _ 4 _ (lit< tt)))
    (λ e. let h = small e in small_placed m (paired_oblong m n costs cols)
    (then_small _ _
    (then_small _ _ (fails_at_small _ _ _ _ (λ k l. omega (arith, h.2))) (λ f. fails_at_small _ _ _ _ (λ i l. omega (arith, h.0, side_small))))
    (λ f. fails_at_small _ _ _ _ (λ i l. omega (arith, h.0, side_small))))))
    (λ e. let h = small (passed_first _ _ e) in small_placed m (price_tests (night_of m n costs []) cols us vs) (prices_small (night_of m n costs []) cols us vs h.0 h.1)))
    (λ e. let h = small (passed_first _ _ (passed_first _ _ e)) in small_placed m (spares_not_below m n cols vs) (fails_at_small _ _ _ _ (λ j l. omega (arith, h.1, side_small))))
  where
    both : (a b : Verdict) → Every (Placed m) a → (Passes a → Every (Placed m) b) → Every (Placed m) (a then b)
    both = then_every (Placed m)

    if_small : (reason : Reason) (place : ℕ) (test : Bool) → place < 2 ^ 48 → Every (Placed m) (fails_if reason place test)
    if_small reason place test l = fails_by_every (Placed m) reason place (pos 0) test (λ f. inl l)

    small : Passes (shaped_oblong m n costs (length cols) (length us) (length vs)) → (m ≤ side) × (n ≤ side) × (length costs ≤ 2 ^ 32)
    small e =
        let h = (shaped_oblong_iff m n costs (length cols) (length us) (length vs)).0 e in
        let s = le_trans h.0 sheet_side_within in
        (le_trans h.1 s, s, filled_small m n (length costs) (le_trans h.1 s) s h.2)

-- So each has a number below 256, and is one number where the row count is below 2^48.
pub check_oblong_numbers : (m n : ℕ) (costs : List ℤ) (cols : List ℕ) (us vs : List ℤ) {refusal : Refusal}
    → check_oblong m n costs cols us vs ≡ Err refusal → number_of refusal < 256
check_oblong_numbers m n costs cols us vs {refusal} e = number_small refusal.reason

pub check_oblong_places : (m n : ℕ) (costs : List ℤ) (cols : List ℕ) (us vs : List ℤ) → m < 2 ^ 48 → {refusal : Refusal}
    → check_oblong m n costs cols us vs ≡ Err refusal → Tellable refusal
unfolding check_oblong
check_oblong_places m n costs cols us vs l e =
    ⊎_elim (λ b. b) (λ s. omega arith) (refused_every (Placed m) _ _ (oblong_placed m n costs cols us vs) e)
