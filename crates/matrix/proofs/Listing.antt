-- What an input that passes the tests of `cost` is like. Assumes nothing.
use mathlib.Core.List.{List}
use Prim.Native.Nat.{ℕ}
use native.Mathlib.Nat.{le_refl}
use lib.IntN.{ℤ}
use lib.ListN.{length}
use Rattle.matrix.specs.Limits.{side}
use Rattle.matrix.specs.Verdicts.{Passes}
use Rattle.matrix.specs.Cost.{cost_tests}
use Rattle.matrix.specs.Asked.{Listed}
use Rattle.matrix.proofs.Verdicts.{then_iff}
use Rattle.matrix.proofs.Passed.{side_within_lem, costs_fill_lem, list_short_lem, columns_inside_lem}

pub cost_listed : (n : ℕ) (costs : List ℤ) (listed : List ℕ) → Passes (cost_tests n costs listed) → Listed n costs (length listed) listed
unfolding cost_tests
cost_listed n costs listed e =
    let t6 = (then_iff _ _).0 e in
    let t5 = (then_iff _ _).0 t6.0 in
    let t3 = (then_iff _ _).0 t5.0 in
    let t2 = (then_iff _ _).0 t3.0 in
    record {
      small = (side_within_lem side n).0 t2.0;
      squared = (costs_fill_lem n n costs).0 t2.1;
      rows = (list_short_lem n (length listed)).0 t3.1;
      listed = le_refl (length listed);
      inside = (columns_inside_lem (length listed) n listed).0 t6.1;
    }
