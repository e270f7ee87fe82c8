-- The solver's tests are passed exactly by the inputs that `WithinLimits` names, and such an input is paired. Assumes nothing.
use mathlib.Core.Path.{◌≡◌, sym}
use mathlib.Core.Logic.{◌↔◌}
use mathlib.Core.List.{List}
use Prim.Native.Nat.{ℕ}
use lib.IntN.{ℤ}
use lib.ListN.{length}
use Rattle.matrix.specs.Verdicts as verdicts
use Rattle.matrix.specs.Verdicts.{Verdict}
use Rattle.matrix.specs.declared.refusals.Refusal.{Refusal}
use Rattle.std.specs.Prelude.{Ok, Err, OnOk}
use Rattle.matrix.proofs.Verdicts.{then_iff}
use Rattle.matrix.proofs.Passed.{shaped_iff, rooms_long_lem, costs_within_lem}
use Rattle.rules.specs.Run.{run}
use Rattle.lapjv.specs.Solve.{Lent, tested, outcome, solve, refused, paired}
use Rattle.lapjv.specs.WithinLimits.{WithinLimits}

module _ (n : ℕ) (costs : List ℤ) (lent : Lent) where
  pub tested_iff : verdicts.Passes (tested n costs lent) ↔ WithinLimits n costs lent
  unfolding tested
  tested_iff =
      let shape = shaped_iff n costs (length lent.cols) (length lent.rows) (length lent.prices_of_rows) (length lent.prices_of_columns) in
      let rooms = rooms_long_lem n (length lent.indices) (length lent.numbers) in
      let t5 = then_iff _ _ in
      let t4 = then_iff _ _ in (
        λ e.
            let s = shape.0 (t4.0 (t5.0 e).0).0 in
            let r = rooms.0 (t4.0 (t5.0 e).0).1 in
            record {
              small = s.small;
              squared = s.squared;
              cols_enough = s.long.first_long;
              rows_enough = s.long.second_long;
              row_prices_enough = s.long.third_long;
              column_prices_enough = s.long.fourth_long;
              indices_enough = r.0;
              numbers_enough = r.1;
              costs_within = (costs_within_lem costs).0 (t5.0 e).1;
            },
        λ p.
            let s = shape.1 (record {
              small = p.small;
              squared = p.squared;
              long = record { first_long = p.cols_enough; second_long = p.rows_enough; third_long = p.row_prices_enough; fourth_long = p.column_prices_enough };
            }) in
            t5.1 (t4.1 (s, rooms.1 (p.indices_enough, p.numbers_enough)), (costs_within_lem costs).1 p.costs_within),
      )

  -- What the code tells of it.
  pub tested_limits : (verdict : Verdict) → verdict ≡ tested n costs lent → OnOk verdict (WithinLimits n costs lent)
  tested_limits (Ok _) e = tested_iff.0 (sym e)
  tested_limits (Err refusal) e = tt

  -- Such an input is never refused.
  pub passes_paired : WithinLimits n costs lent → solve n costs lent ≡ paired n lent (run n costs)
  unfolding solve outcome
  passes_paired p = rw (tested_iff.1 p)

  -- Any other is, and nothing is written.
  pub fails_refused : (refusal : Refusal) → tested n costs lent ≡ Err refusal → solve n costs lent ≡ refused lent refusal
  unfolding solve outcome
  fails_refused refusal e = rw e
