-- The entry, over plain lists: an input that passes the tests can be mended on the fronts of the lent lists. Assumes nothing.
use mathlib.Core.Path.{◌≡◌, sym, ap, ◌∙◌}
use mathlib.Core.List.{List}
use Prim.Native.Nat.{ℕ, ◌*◌, ◌<◌}
use native.Mathlib.Omega.{arith}
use lib.IntN.{ℤ, pos, ◌+ℤ◌}
use lib.ListN.{take}
use lib.Seq.{get_or-take, length-take-le}
use Rattle.lists.specs.Permutations.{at}
use Rattle.assignment.specs.Pairings.{signed_at, square}
use Rattle.assignment.proofs.Longer.{at_first}
use Rattle.matrix.specs.Limits.{K}
use Rattle.rules.proofs.Sizes.{within_everywhere}
use Rattle.augmentation.specs.Augmentation.{pairs_of}
use Rattle.lapjv.specs.Solve.{Lent}
use Rattle.repair.specs.Repairable.{Repairable}
use Rattle.repair.specs.Asked.{FairBut, CanMend}

module _ (n : ℕ) (costs : List ℤ) (row : ℕ) (lent : Lent) (r : Repairable n costs row lent) where
  abbrev cols : List ℕ
  cols = take n lent.cols

  abbrev rows : List ℕ
  rows = take n lent.rows

  abbrev us : List ℤ
  us = lent.prices_of_rows

  abbrev vs : List ℤ
  vs = take n lent.prices_of_columns

  -- The first n entries of the lists are fair but for the row.
  column : (i : ℕ) → i < n → at cols i ≡ at lent.cols i
  column = at_first (square n costs) lent.cols

  row_of : (j : ℕ) → j < n → at rows j ≡ at lent.rows j
  row_of = at_first (square n costs) lent.rows

  price : (j : ℕ) → j < n → signed_at vs j ≡ signed_at lent.prices_of_columns j
  price j l = get_or-take n lent.prices_of_columns j (pos 0) l

  fair : FairBut n costs row (pairs_of cols rows) us vs
  fair = record {
    row_below = r.row_below;
    cols_size = length-take-le n lent.cols r.limits.cols_enough;
    rows_size = length-take-le n lent.rows r.limits.rows_enough;
    prices_size = length-take-le n lent.prices_of_columns r.limits.column_prices_enough;
    named = record {
      inside = λ i l. rw (column i l) (r.named.inside i l);
      back = λ i l. ap (at rows) (column i l) ∙ row_of (at lent.cols i) (r.named.inside i l) ∙ r.named.back i l;
    };
    feasible = record { under = λ i j l d m e. rw (price j m) (r.feasible.under i j l d m e) };
    tight = record {
      met = λ i l d.
          ap (λ (j : ℕ). signed_at us i +ℤ signed_at vs j) (column i l)
          ∙ ap (λ (z : ℤ). signed_at us i +ℤ z) (price (at lent.cols i) (r.named.inside i l))
          ∙ r.tight.met i l d ∙ ap ((square n costs).cost i) (sym (column i l));
    };
  }

  pub can_mend : CanMend n costs row (pairs_of cols rows) vs (take (4 * n) lent.indices) (take n lent.numbers)
  can_mend = record {
    small = r.limits.small;
    squared = r.limits.squared;
    costs_within = within_everywhere K costs r.limits.costs_within;
    prices_near = λ j l. rw (price j l) (r.column_prices_near j l);
    room_size = omega (arith, length-take-le (4 * n) lent.indices r.limits.indices_enough);
    distances_size = length-take-le n lent.numbers r.limits.numbers_enough;
    us = us;
    fair = fair;
  }
