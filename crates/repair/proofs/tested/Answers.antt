-- `tested` runs the tests of a repair one after the other; what a test asks for, those before it have shown. Assumes nothing.
use mathlib.Core.Path.{refl, sym, ◌∙◌}
use mathlib.Core.List.{List}
use Prim.Native.Nat.{ℕ}
use native.Mathlib.Omega.{arith}
use lib.IntN.{ℤ}
use Rattle.std.proofs.lemmas.Grind.{common_steps}
use Rattle.matrix.specs.Asked.{ColumnsListed}
use Rattle.matrix.specs.Tests.{columns_inside, prices_within}
use Rattle.matrix.specs.Verdicts.{Passes}
use Rattle.matrix.proofs.Passed.{columns_inside_lem, prices_within_lem}
use Rattle.bars.proofs.Passed.{square-unbarred}
use Rattle.checker.specs.Asked.{Priced}
use Rattle.lapjv.specs.Solve.{Lent}
use Rattle.lapjv.specs.WithinLimits.{WithinLimits}
use Rattle.repair.specs.Tests.{repair_tests}
use Rattle.repair.proofs.Tests.{tests_limits}
use Rattle.repair.proofs.tested.Goals as goal

module _ {n : ℕ} {costs : List ℤ} {lent : Lent} (l : WithinLimits n costs lent) where
  listed : Passes (columns_inside n n lent.cols) → ColumnsListed n n lent.cols
  listed e = record { listed = l.cols_enough; inside = (columns_inside_lem n n lent.cols).0 e }

  priced : Passes (prices_within n n lent.prices_of_rows lent.prices_of_columns) → Priced n n costs lent.prices_of_rows lent.prices_of_columns
  priced e =
      let w = (prices_within_lem n n lent.prices_of_rows lent.prices_of_columns).0 e in
      record {
        rows_small = l.small;
        small = l.small;
        filled = l.squared;
        row_prices = record { enough = l.row_prices_enough; within = w.0 };
        column_prices = record { enough = l.column_prices_enough; within = w.1 };
      }

pub rows_named-requires : goal.rows_named-requires
rows_named-requires c =
    let l = c.in_ok-tested.ensures.limits in
    (l.cols_enough, l.rows_enough, (listed l (sym c.columns_inside.ensures ∙ c.in_ok-columns_inside.was)).inside)

pub under_costs-requires : goal.under_costs-requires
under_costs-requires c =
    (priced c.in_ok-tested.ensures.limits (sym c.prices_within.ensures ∙ c.in_ok-prices_within.was), λ i set. absurd (set refl))

pub tight_on-requires : goal.tight_on-requires
tight_on-requires c =
    let l = c.in_ok-tested.ensures.limits in
    (priced l (sym c.prices_within.ensures ∙ c.in_ok-prices_within.was), listed l (sym c.columns_inside.ensures ∙ c.in_ok-columns_inside.was))

pub returns-in_err-under_costs-clause-tests : goal.returns-in_err-under_costs-clause-tests
unfolding repair_tests
returns-in_err-under_costs-clause-tests c =
    let e = square-unbarred c.args.n c.args.costs.now in
    grind (arith, common_steps, e)

pub returns-clause-tests : goal.returns-clause-tests
unfolding repair_tests
returns-clause-tests c =
    let e = square-unbarred c.args.n c.args.costs.now in
    grind (arith, common_steps, e)

pub returns-clause-limits : goal.returns-clause-limits
returns-clause-limits c = tests_limits c.args.n c.args.costs.now c.args.row _ c.tight_on.result (returns-clause-tests c)
