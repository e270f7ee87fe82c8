-- A night's answer at the front of longer lists: the checker reads only the answer. Assumes nothing.
use mathlib.Core.Path.{◌≡◌, sym, ap, ap₂, ◌∙◌}
use mathlib.Core.List.{List, ◌++◌}
use Prim.Native.Nat.{ℕ, ◌<◌}
use native.Mathlib.Omega.{arith}
use lib.IntN.{ℤ, pos, ◌+ℤ◌}
use lib.ListN.{length, length-append, get_or-append}
use Rattle.lists.specs.Permutations.{at}
use Rattle.assignment.specs.Pairings.{signed_at, square}
use Rattle.checker.specs.Proven.{Prices, Proven}

-- What stands below n in a list of n entries with more behind it.
at_front : (n : ℕ) (l t : List ℕ) → length l ≡ n → (i : ℕ) → i < n → at (l ++ t) i ≡ at l i
at_front n l t e i h = get_or-append l t 0 i (omega arith)

price_front : (n : ℕ) (l t : List ℤ) → length l ≡ n → (i : ℕ) → i < n → signed_at (l ++ t) i ≡ signed_at l i
price_front n l t e i h = get_or-append l t (pos 0) i (omega arith)

prices_front : (n : ℕ) (l t : List ℤ) → length l ≡ n → Prices n l → Prices n (l ++ t)
prices_front n l t e p = record {
  enough = omega (arith, length-append l t);
  within = λ i h. rw (price_front n l t e i h) (p.within i h);
}

module _ (n : ℕ) (costs : List ℤ) (cols rows : List ℕ) (us vs : List ℤ) (size-cols : length cols ≡ n) (size-rows : length rows ≡ n) (size-us : length us ≡ n)
    (size-vs : length vs ≡ n) (f : Proven n costs cols rows us vs) (c r : List ℕ) (u v : List ℤ) where
  pub proven_front : Proven n costs (cols ++ c) (rows ++ r) (us ++ u) (vs ++ v)
  proven_front = record {
    sizes = record {
      small = f.sizes.small;
      squared = f.sizes.squared;
      columns_listed = omega (arith, length-append cols c);
      rows_listed = omega (arith, length-append rows r);
    };
    within = f.within;
    named = record {
      inside = λ i l. rw (column i l) (f.named.inside i l);
      back = λ i l. ap (at (rows ++ r)) (column i l) ∙ at_front n rows r size-rows (at cols i) (f.named.inside i l) ∙ f.named.back i l;
    };
    row_prices = prices_front n us u size-us f.row_prices;
    column_prices = prices_front n vs v size-vs f.column_prices;
    feasible = record { under = λ i j l m e. rw (price_front n us u size-us i l, price_front n vs v size-vs j m) (f.feasible.under i j l m e) };
    tight = record {
      met = λ i l. ap₂ ◌+ℤ◌ (price_front n us u size-us i l)
          (ap (signed_at (vs ++ v)) (column i l) ∙ price_front n vs v size-vs (at cols i) (f.named.inside i l))
          ∙ f.tight.met i l ∙ ap ((square n costs).cost i) (sym (column i l));
    };
  }
    where
      column : (i : ℕ) → i < n → at (cols ++ c) i ≡ at cols i
      column = at_front n cols c size-cols
