-- A square night checked as an oblong one: where its lists name each other, the answer is that of the square checker, for sides to 64. Where they do
-- not, 7 is told of other rows: the one reads the rows, the other the columns alone. Assumes nothing.
use mathlib.Core.Path.{◌≡◌, refl, sym, ap, ap₂, ◌∙◌}
use mathlib.Core.List.{List, [], ◌∷◌}
use Prim.Native.Nat.{ℕ, ◌+◌, ◌≤◌}
use native.Mathlib.Nat.{le_refl, le_trans}
use mathlib.Core.Bool.{Bool, true, false}
use native.Mathlib.Omega.{arith}
use borrow.Author.Tests.{le-ltb}
use lib.Dec.{ltb}
use lib.IntN.{ℤ}
use lib.ListN.{length}
use Rattle.lists.specs.Permutations.{at, Injective}
use Rattle.lists.proofs.Injections.{reached}
use Rattle.lists.proofs.Permutations.{injective_back}
use Rattle.assignment.specs.Pairings.{Night, square, total, Named}
use Rattle.assignment.specs.Prices.{SparesNotBelow}
use Rattle.matrix.specs.Limits.{side, sheet_side}
use Rattle.matrix.specs.Verdicts.{Passes, ◌then◌, fails_by, fails_if, fails_at}
use Rattle.matrix.specs.declared.refusals.Reason.TheVariants.{ListLength}
use Rattle.matrix.specs.Tests.{short, side_within, costs_fill, lists_long, list_long, shaped, costs_within, columns_inside}
use Rattle.matrix.specs.Answers.{totalled}
use Rattle.matrix.specs.Verdicts.{Verdict}
use Rattle.std.specs.Prelude.{Ok, Err, Some, None}
use Rattle.matrix.proofs.SmallLimits.{sheet_side_within}
use Rattle.matrix.proofs.First.{clear_start, clear_more}
use Rattle.matrix.proofs.Verdicts.{then_iff, then_assoc, passed_then, found_fails}
use Rattle.matrix.proofs.Passed.{side_within_lem, columns_inside_lem}
use Rattle.bars.specs.Barred.{night_of}
use Rattle.bars.proofs.Passed.{square-unbarred}
use Rattle.checker.specs.Tests.{rows_named, rows_fit, columns_once, spares_not_below}
use Rattle.checker.specs.Check.{price_tests, checks, check, shaped_oblong, paired_oblong, checks_oblong, check_oblong}
use Rattle.checker.proofs.Tests.{rows_named_lem, rows_fit_lem, columns_once_lem, spares_not_below_lem}

-- A test that is passed changes nothing.
passed_before : (a b : Verdict) → Passes a → (a then b) ≡ b
passed_before a b e = sym (passed_then b e refl)

passed_after : (a b : Verdict) → Passes b → (a then b) ≡ a
passed_after (Ok _) b e = e
passed_after (Err refusal) b e = refl

-- Three tests in a row refuse as one of four does, whose second is passed.
three : (t : ℕ → Bool) (b₀ b₂ b₃ : Bool) → t 0 ≡ b₀ → t 1 ≡ false → t 2 ≡ b₂ → t 3 ≡ b₃
    → fails_at ListLength (λ k. k + 1) 4 t ≡ (fails_if ListLength 1 b₀ then fails_if ListLength 3 b₂ then fails_if ListLength 4 b₃)
unfolding fails_by
three t true b₂ b₃ e f g h = sym (found_fails ListLength (λ k. k + 1) 4 t (Some 0) (omega arith, e, clear_start t))
three t false true b₃ e f g h = sym (found_fails ListLength (λ k. k + 1) 4 t (Some 2) (omega arith, g, clear_more t 1 (clear_more t 0 (clear_start t) e) f))
three t false false true e f g h = sym (found_fails ListLength (λ k. k + 1) 4 t (Some 3) (omega arith, h, clear_more t 2 (clear_more t 1 (clear_more t 0 (clear_start t) e) f) g))
three t false false false e f g h = sym (found_fails ListLength (λ k. k + 1) 4 t None (clear_more t 3 (clear_more t 2 (clear_more t 1 (clear_more t 0 (clear_start t) e) f) g) h))

-- Where list 2 is long enough, 3 is that of the three other lists.
lists_three : (n a b c d : ℕ) → n ≤ b → lists_long n (a ∷ b ∷ c ∷ d ∷ []) ≡ (list_long 1 n a then list_long 3 n c then list_long 4 n d)
lists_three n a b c d rows = three (short n (a ∷ b ∷ c ∷ d ∷ [])) (ltb a n) (ltb c n) (ltb d n) refl (le-ltb b n rows) refl refl

module _ (n : ℕ) (costs : List ℤ) (cols rows : List ℕ) (us vs : List ℤ) (small : n ≤ sheet_side) (enough : n ≤ length rows) (named : Named (square n costs) cols rows) where
  injective : Injective n n (at cols)
  injective = injective_back (at cols) (at rows) named.inside named.back

  -- No column is spare.
  spares : SparesNotBelow (night_of n n costs []) vs cols
  spares = record { not_below = λ i j hi hj spare. let r = reached injective j hj in absurd (spare r.0 r.1 r.2) }

  abbrev lists : Verdict
  lists = costs_fill n n costs then list_long 1 n (length cols) then list_long 3 n (length us) then list_long 4 n (length vs)

  shaped-same : shaped_oblong n n costs (length cols) (length us) (length vs) ≡ lists
  shaped-same =
      let passes = (then_iff (side_within sheet_side n) (rows_fit n n)).1 ((side_within_lem sheet_side n).1 small, (rows_fit_lem n n).1 (le_refl n)) in
      ap (λ (v : Verdict). v then list_long 1 n (length cols) then list_long 3 n (length us) then list_long 4 n (length vs)) (passed_before _ (costs_fill n n costs) passes)

  square-same : shaped n costs (length cols ∷ length rows ∷ length us ∷ length vs ∷ []) ≡ lists
  square-same =
      ap₂ ◌then◌ (passed_before (side_within side n) (costs_fill n n costs) ((side_within_lem side n).1 (le_trans small sheet_side_within)))
      (lists_three n (length cols) (length rows) (length us) (length vs) enough)
      ∙ sym (then_assoc (costs_fill n n costs) (list_long 1 n (length cols) then list_long 3 n (length us)) (list_long 4 n (length vs)))
      ∙ ap (λ (v : Verdict). v then list_long 4 n (length vs)) (sym (then_assoc (costs_fill n n costs) (list_long 1 n (length cols)) (list_long 3 n (length us))))

  -- 6 and 7 are passed in both.
  paired_same : paired_oblong n n costs cols ≡ costs_within costs
  paired_same =
      passed_after _ (columns_once n cols) ((columns_once_lem n cols).1 injective.once)
      ∙ passed_after (costs_within costs) (columns_inside n n cols) ((columns_inside_lem n n cols).1 named.inside)

  named_same : (costs_within costs then columns_inside n n cols then rows_named n cols rows) ≡ costs_within costs
  named_same =
      passed_after _ (rows_named n cols rows) ((rows_named_lem n cols rows).1 named.back)
      ∙ passed_after (costs_within costs) (columns_inside n n cols) ((columns_inside_lem n n cols).1 named.inside)

  checks-same : checks_oblong n n costs cols us vs ≡ checks n costs cols rows us vs
  unfolding checks_oblong checks
  checks-same =
      passed_after _ (spares_not_below n n cols vs) ((spares_not_below_lem (night_of n n costs []) cols vs).1 spares)
      ∙ ap₂ ◌then◌ (ap₂ ◌then◌ shaped-same paired_same) (ap (λ (night : Night). price_tests night cols us vs) (square-unbarred n costs))
      ∙ then_assoc lists (costs_within costs) (price_tests (square n costs) cols us vs)
      ∙ sym (ap₂ ◌then◌ square-same (ap (λ (v : Verdict). v then price_tests (square n costs) cols us vs) named_same))

  -- The answers are the same.
  pub square_oblong : check_oblong n n costs cols us vs ≡ check n costs cols rows us vs
  unfolding check_oblong check
  square_oblong = ap (λ (v : Verdict). totalled v (total (square n costs) cols)) checks-same
