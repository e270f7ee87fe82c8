-- What is proven of a square of costs is accepted of the night that it was made of: of a night with bars, whose barred places were filled, where no pair
-- is barred; and of an oblong night, below which rows of zeros were added. Assumes nothing.
use mathlib.Core.Path.{◌≡◌, refl, ap, ◌∙◌}
use mathlib.Core.Bool.{Bool, true, false, not}
use mathlib.Core.List.{List, []}
use Prim.Native.Nat.{ℕ, ◌*◌, ◌≤◌, ◌<◌}
use native.Mathlib.Nat.{le_trans, lt_of_lt_of_le}
use native.Mathlib.Omega.{arith}
use lib.Dec.{ltb}
use lib.IntN.{ℤ}
use lib.ListN.{length}
use Rattle.ints.specs.Parts.{Within}
use Rattle.lists.specs.Permutations.{at}
use Rattle.lists.specs.Counts.{bit_of}
use Rattle.lists.proofs.Runs.{first_before}
use Rattle.assignment.specs.Pairings.{Night, Pairing, square, total, signed_at}
use Rattle.assignment.specs.Prices.{Feasible, Tight}
use Rattle.assignment.specs.Padded.{padded}
use Rattle.assignment.proofs.Square.{square_named_pairing}
use Rattle.assignment.proofs.Longer.{tight_first, spares_first}
use Rattle.assignment.proofs.Padded.{padded_feasible, padded_tight, padded_spares}
use Rattle.matrix.specs.Limits.{sheet_side, K}
use Rattle.std.specs.Prelude.{Ok}
use Rattle.bars.specs.Barred.{night_of, barred, first_barred, bits_above, filled_costs}
use Rattle.bars.specs.Tests.{barred_most}
use Rattle.bars.proofs.Passed.{none_barred_lem}
use Rattle.bars.proofs.Filled.{filled_feasible}
use Rattle.bars.proofs.Barred.{filled-cost, filled_fair}
use Rattle.checker.specs.Check.{check_barred, check_oblong}
use Rattle.checker.specs.Proven.{Prices, Proven}
use Rattle.checker.proofs.Barred.{accepted_barred_iff}
use Rattle.checker.proofs.Oblong.{accepted_oblong_iff}

-- The filled costs: any cost on the barred places.
module _ (n : ℕ) (dear : ℤ) (costs : List ℤ) (bars : List ℕ) (small : n ≤ sheet_side) (squared : length costs ≡ n * n) (listed : n ≤ length bars)
    (within : (k : ℕ) → k < length costs → Within barred_most (signed_at costs k)) (clear : (i : ℕ) → i < n → bits_above n (at bars i) ≡ false) where
  abbrev night : Night
  night = barred n costs bars

  module _ (cols rows : List ℕ) (us vs : List ℤ) (proven : Proven n (filled_costs n dear costs bars) cols rows us vs) (free : n ≤ first_barred n bars cols) where
    allowed : (i : ℕ) → i < n → night.allowed i (at cols i) ≡ true
    allowed i l = ap not (first_before (λ k. bit_of (at bars k) (at cols k)) n i (lt_of_lt_of_le l free))

    met : Tight night us vs cols
    met = record { met = λ i l. rw (allowed i l) at (proven.tight.met i l ∙ filled-cost n dear costs bars i (at cols i) l (proven.named.inside i l)) }

    pub filled_accepted : check_barred n costs cols rows us vs bars ≡ Ok (total night cols)
    filled_accepted = (accepted_barred_iff n costs bars cols rows us vs).1 (
      record {
        small = small;
        squared = squared;
        columns_listed = proven.sizes.columns_listed;
        rows_listed = proven.sizes.rows_listed;
        bars_listed = listed;
        within = within;
        clear = clear;
        named = record { inside = proven.named.inside; back = proven.named.back };
        permitted = allowed;
      },
      record {
        row_prices = proven.row_prices;
        column_prices = proven.column_prices;
        feasible = filled_feasible night dear us vs (filled_fair n dear costs bars us vs proven.feasible);
      },
      met,
      refl,
    )

-- The padded night: only its first m rows are listed of what shows it.
module _ (m n : ℕ) (costs : List ℤ) (small : n ≤ sheet_side) (fits : m ≤ n) (filled : length costs ≡ m * n)
    (within : (k : ℕ) → k < length costs → Within K (signed_at costs k)) (cols : List ℕ) (us vs : List ℤ) (row_prices : Prices n us) (column_prices : Prices n vs) where
  abbrev oblong : Night
  oblong = night_of m n costs []

  pub padded_accepted : Feasible (padded oblong) us vs → Pairing (padded oblong) cols → Tight (padded oblong) us vs cols
      → check_oblong m n costs cols us vs ≡ Ok (total oblong cols)
  padded_accepted fair p tight = (accepted_oblong_iff m n costs cols us vs).1 (
    record {
      small = small;
      fits = fits;
      filled = filled;
      columns_listed = omega (arith, p.size);
      within = within;
      inside = λ i l. p.inside i (lt_of_lt_of_le l fits);
      once = λ i k l h e. p.apart i k (lt_of_lt_of_le l fits) (lt_of_lt_of_le h fits) e;
    },
    record {
      row_prices = record { enough = le_trans fits row_prices.enough; within = λ i l. row_prices.within i (lt_of_lt_of_le l fits) };
      column_prices = column_prices;
      feasible = padded_feasible oblong fits us vs fair;
    },
    (tight_first oblong cols us vs).0 (padded_tight oblong fits cols us vs tight),
    (spares_first oblong cols vs).0 (padded_spares oblong fits cols us vs fair p tight),
    refl,
  )

  -- The same of a square of costs that reads as the padded night.
  module _ (rows : List ℕ) (square-costs : List ℤ) (reads : (i j : ℕ) → i < n → j < n → (square n square-costs).cost i j ≡ (padded oblong).cost i j)
      (size : length cols ≡ n) (proven : Proven n square-costs cols rows us vs) where
    allowed_all : (i j : ℕ) → (padded oblong).allowed i j ≡ true
    allowed_all i j = by (ltb i m) refl
      where
        by : (t : Bool) → ltb i m ≡ t → (padded oblong).allowed i j ≡ true
        by true e = rw e (none_barred_lem m n costs i j)
        by false e = rw e

    pub padded_proven_accepted : check_oblong m n costs cols us vs ≡ Ok (total oblong cols)
    padded_proven_accepted =
        let p = square_named_pairing n square-costs cols rows size proven.named in
        padded_accepted
        (record { under = λ i j l h e. rw (reads i j l h) at (proven.feasible.under i j l h refl) })
        (record { size = p.size; inside = p.inside; apart = p.apart; permitted = λ i l. allowed_all i (at cols i) })
        (record { met = λ i l. proven.tight.met i l ∙ reads i (at cols i) l (p.inside i l) })
