-- Where the solver pairs a night, its columns are below the side; and what is answered where a pair is barred, or none. Assumes nothing.
use mathlib.Core.Path.{◌≡◌, refl, sym, ap, ◌∙◌, subst}
use mathlib.Core.Bool.{Bool}
use mathlib.Core.List.{List, ◌++◌}
use Prim.Native.Nat.{ℕ, ◌<◌}
use native.Mathlib.Omega.{arith}
use borrow.Author.Tests.{lt-ltb, le-ltb}
use lib.IntN.{ℤ}
use lib.ListN.{drop, get_or-append}
use Rattle.lists.specs.Permutations.{at}
use Rattle.lists.specs.Counts.{bit_of}
use Rattle.lists.specs.Runs.{first, Finds}
use Rattle.lists.proofs.Runs.{first-at, first_none}
use Rattle.bars.specs.Masks.{reached_mask}
use Rattle.matrix.specs.Verdicts.{Verdict}
use Rattle.std.specs.Prelude.{Some, None, Ok, Err}
use Rattle.lapjv.specs.declared.Sums.{Sums}
use Rattle.lapjv.specs.Answers.{answer}
use Rattle.lapjv.specs.Solve.{Lent, Outcome, outcome_of, tested, solve}
use Rattle.lapjv.proofs.Tests.{tested_iff, passes_paired, fails_refused}
use Rattle.lapjv.proofs.Owed.{solved_owes}
use Rattle.sheet.specs.declared.State.{State}
use Rattle.sheet.specs.declared.Unpaired.TheVariants.{Blocked}
use Rattle.sheet.specs.Steps.{unbarred}

pub paired_inside : (n : ℕ) (costs : List ℤ) (lent : Lent) (found : Sums) (l : Lent) → outcome_of (Ok found) l ≡ solve n costs lent → (i : ℕ) → i < n → at l.cols i < n
paired_inside n costs lent found l e i h = by (tested n costs lent) refl
  where
    by : (v : Verdict) → tested n costs lent ≡ v → at l.cols i < n
    by (Ok _) f =
        let p = (tested_iff n costs lent).0 f in
        let owed = solved_owes n costs lent p in
        let cols = (answer n costs).cols in
        let same : l.cols ≡ cols ++ drop n lent.cols = ap (λ (o : Outcome). o.lent.cols) (e ∙ passes_paired n costs lent p) in
        subst (λ (j : ℕ). j < n) (sym (get_or-append cols (drop n lent.cols) 0 i (omega (arith, owed.cols_size))) ∙ ap (λ (c : List ℕ). at c i) (sym same)) (owed.named.inside i h)
    by (Err refusal) f =
        let z : ◌≡◌ {A = ℕ} 0 1 = cc (ap (λ (o : Outcome). o.answer) (e ∙ fails_refused n costs lent refusal f)) in
        absurd (omega arith)

-- ---- a pair that is barred

module _ (n : ℕ) (s : State) where
  abbrev barred_at : ℕ → Bool
  barred_at i = bit_of (at s.bars i) (at s.cols i)

  pub barred_here : {i : ℕ} → Finds n barred_at (Some i) → Err (Blocked (reached_mask n s.bars s.cols i)) ≡ unbarred (tt {0}) n s
  barred_here {i} h =
      let e : first n barred_at ≡ i = first-at barred_at n i h.0 h.1 h.2 in
      rw (e, lt-ltb i n h.0)

  pub barred_nowhere : Finds n barred_at None → Ok (tt {0}) ≡ unbarred (tt {0}) n s
  barred_nowhere h = rw (le-ltb (first n barred_at) n (omega (arith, first_none barred_at n h)))
