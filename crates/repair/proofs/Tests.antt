-- The tests of a repair are passed exactly by the inputs that `Repairable` names; such an input is repaired, and any other changes nothing. Assumes
-- nothing.
use mathlib.Core.Path.{◌≡◌, sym}
use mathlib.Core.Logic.{◌↔◌}
use mathlib.Core.List.{List}
use Prim.Native.Nat.{ℕ, ◌*◌, ◌<◌}
use native.Mathlib.Omega.{arith}
use borrow.Author.Tests.{leb-false, lt-leb}
use lib.IntN.{ℤ}
use Rattle.ints.proofs.Ranges.{within_mono}
use Rattle.assignment.specs.Pairings.{square}
use Rattle.matrix.specs.Limits.{K}
use Rattle.matrix.specs.declared.refusals.Reason.TheVariants.{PriceFar}
use Rattle.matrix.specs.Verdicts.{Verdict, Passes}
use Rattle.matrix.specs.declared.refusals.Refusal.{Refusal}
use Rattle.std.specs.Prelude.{Ok, Err, OnOk}
use Rattle.matrix.proofs.Verdicts.{then_iff, fails_if_iff}
use Rattle.matrix.proofs.Passed.{columns_inside_lem, prices_in_lem, prices_within_lem}
use Rattle.checker.proofs.Tests.{rows_named_lem, under_costs_but_lem, tight_on_but_lem}
use Rattle.lapjv.specs.Solve.{Lent}
use Rattle.lapjv.proofs.Tests.{tested_iff}
use Rattle.repair.specs.Tests.{row_inside, repair_tests}
use Rattle.repair.specs.Repair.{repaired_by, mended_in, refused, settled, outcome, repair}
use Rattle.repair.specs.Repairable.{Repairable}

pub row_inside_lem : (n row : ℕ) → Passes (row_inside n row) ↔ (row < n)
row_inside_lem n row = let t = fails_if_iff _ _ _ in (λ e. leb-false n row (t.0 e), λ h. t.1 (lt-leb n row h))

module _ (n : ℕ) (costs : List ℤ) (row : ℕ) (lent : Lent) where
  pub repair_tests_iff : Passes (repair_tests n costs row lent) ↔ Repairable n costs row lent
  unfolding repair_tests
  repair_tests_iff =
      let us = lent.prices_of_rows in
      let vs = lent.prices_of_columns in
      let night = square n costs in (
        λ e.
            let t10 = (then_iff _ _).0 e in
            let t9 = (then_iff _ _).0 t10.0 in
            let t24 = (then_iff _ _).0 t9.0 in
            let t8 = (then_iff _ _).0 t24.0 in
            let t7 = (then_iff _ _).0 t8.0 in
            let t6 = (then_iff _ _).0 t7.0 in
            let t = (then_iff _ _).0 t6.0 in
            let w = (prices_in_lem PriceFar (7 * K) n n us vs).0 t24.1 in
            record {
              limits = (tested_iff n costs lent).0 t.0;
              row_below = (row_inside_lem n row).0 t.1;
              named = record { inside = (columns_inside_lem n n lent.cols).0 t6.1; back = (rows_named_lem n lent.cols lent.rows).0 t7.1 };
              row_prices_near = w.0;
              column_prices_near = w.1;
              feasible = (under_costs_but_lem night us vs row).0 t9.1;
              tight = (tight_on_but_lem night us vs row lent.cols).0 t10.1;
            },
        λ r.
            let t = (then_iff _ _).1 ((tested_iff n costs lent).1 r.limits, (row_inside_lem n row).1 r.row_below) in
            let t6 = (then_iff _ _).1 (t, (columns_inside_lem n n lent.cols).1 r.named.inside) in
            let t7 = (then_iff _ _).1 (t6, (rows_named_lem n lent.cols lent.rows).1 r.named.back) in
            let t8 = (then_iff _ _).1 (t7, (prices_within_lem n n us vs).1 (λ i l. within_mono (omega arith) (r.row_prices_near i l), λ j l. within_mono (omega arith) (r.column_prices_near j l))) in
            let t24 = (then_iff _ _).1 (t8, (prices_in_lem PriceFar (7 * K) n n us vs).1 (r.row_prices_near, r.column_prices_near)) in
            let t9 = (then_iff _ _).1 (t24, (under_costs_but_lem night us vs row).1 r.feasible) in
            (then_iff _ _).1 (t9, (tight_on_but_lem night us vs row lent.cols).1 r.tight),
      )

  -- What the code tells of it.
  pub tests_limits : (verdict : Verdict) → verdict ≡ repair_tests n costs row lent → OnOk verdict (Repairable n costs row lent)
  tests_limits (Ok _) e = repair_tests_iff.0 (sym e)
  tests_limits (Err refusal) e = tt

  -- Such an input is never refused.
  pub passes_repaired : Repairable n costs row lent → repair n costs row lent ≡ settled n lent (repaired_by n costs (mended_in n costs row lent))
  unfolding repair outcome
  passes_repaired r = rw (repair_tests_iff.1 r)

  -- Any other is, and nothing is written.
  pub fails_refused : (refusal : Refusal) → repair_tests n costs row lent ≡ Err refusal → repair n costs row lent ≡ refused lent refusal
  unfolding repair outcome
  fails_refused refusal e = rw e
