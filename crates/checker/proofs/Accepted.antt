-- The checker accepts exactly what is fair: sizes, ranges, names, feasible prices that are tight on the pairing; and with the total.
-- Assumes nothing.
use mathlib.Core.Path.{◌≡◌, refl}
use mathlib.Core.Logic.{◌↔◌}
use mathlib.Core.List.{List}
use Prim.Native.Nat.{ℕ}
use lib.IntN.{ℤ}
use lib.ListN.{length}
use Rattle.assignment.specs.Pairings.{square, total}
use Rattle.matrix.specs.Verdicts.{Passes}
use Rattle.std.specs.Prelude.{Ok}
use Rattle.matrix.proofs.Verdicts.{then_iff, totalled_iff}
use Rattle.matrix.proofs.Passed.{shaped_iff, costs_within_lem, columns_inside_lem}
use Rattle.checker.specs.Check.{checks, check}
use Rattle.checker.specs.Proven.{Proven}
use Rattle.checker.proofs.Tests.{rows_named_lem, price_tests_iff}

module _ (n : ℕ) (costs : List ℤ) (cols rows : List ℕ) (us vs : List ℤ) where
  pub checks_iff : Passes (checks n costs cols rows us vs) ↔ Proven n costs cols rows us vs
  unfolding checks
  checks_iff = (
    λ e.
        let t = (then_iff _ _).0 e in
        let p = (then_iff _ _).0 t.1 in
        let t7 = (then_iff _ _).0 p.0 in
        let t6 = (then_iff _ _).0 t7.0 in
        let shape = (shaped_iff n costs (length cols) (length rows) (length us) (length vs)).0 t.0 in
        let prices = (price_tests_iff (square n costs) cols us vs shape.long.third_long shape.long.fourth_long).0 p.1 in
        record {
          sizes = record { small = shape.small; squared = shape.squared; columns_listed = shape.long.first_long; rows_listed = shape.long.second_long };
          within = (costs_within_lem costs).0 t6.0;
          named = record { inside = (columns_inside_lem n n cols).0 t6.1; back = (rows_named_lem n cols rows).0 t7.1 };
          row_prices = prices.0.row_prices;
          column_prices = prices.0.column_prices;
          feasible = prices.0.feasible;
          tight = prices.1;
        },
    λ f.
        let shape = (shaped_iff n costs (length cols) (length rows) (length us) (length vs)).1 (record {
          small = f.sizes.small;
          squared = f.sizes.squared;
          long = record { first_long = f.sizes.columns_listed; second_long = f.sizes.rows_listed; third_long = f.row_prices.enough; fourth_long = f.column_prices.enough };
        }) in
        let t6 = (then_iff _ _).1 ((costs_within_lem costs).1 f.within, (columns_inside_lem n n cols).1 f.named.inside) in
        let t7 = (then_iff _ _).1 (t6, (rows_named_lem n cols rows).1 f.named.back) in
        let prices = (price_tests_iff (square n costs) cols us vs f.row_prices.enough f.column_prices.enough).1
        (record { row_prices = f.row_prices; column_prices = f.column_prices; feasible = f.feasible }, f.tight) in
        (then_iff _ _).1 (shape, (then_iff _ _).1 (t7, prices)),
  )

  -- The checker accepts, with the total, exactly if all is fair.
  pub accepted_iff : {t : ℤ} → (check n costs cols rows us vs ≡ Ok t) ↔ (Proven n costs cols rows us vs × (t ≡ total (square n costs) cols))
  unfolding check
  accepted_iff {t} = (
    λ e. let h = (totalled_iff _ _).0 e in (checks_iff.0 h.0, h.1),
    λ h. (totalled_iff _ _).1 (checks_iff.1 h.0, h.1),
  )

  pub accepted_proven : {t : ℤ} → check n costs cols rows us vs ≡ Ok t → Proven n costs cols rows us vs × (t ≡ total (square n costs) cols)
  accepted_proven = accepted_iff.0

  pub proven_accepted : Proven n costs cols rows us vs → check n costs cols rows us vs ≡ Ok (total (square n costs) cols)
  proven_accepted fair = accepted_iff.1 (fair, refl)
