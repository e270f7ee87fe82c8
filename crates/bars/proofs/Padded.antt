-- A night of m rows and n columns, and the square that its costs and bars read as: past the end of the costs stands 0, and no row from m on has a bar.
-- What shows a pairing of the square least shows its first m rows least. Assumes nothing.
use mathlib.Core.Path.{◌≡◌, sym, ap, ◌∙◌}
use mathlib.Core.Bool.{not}
use mathlib.Core.List.{List}
use Prim.Native.Nat.{ℕ, ◌*◌, ◌≤◌, ◌<◌}
use native.Mathlib.Decide.{dec_lt}
use native.Mathlib.Nat.{mul-le-mul_right}
use native.Mathlib.Omega.{arith}
use borrow.Author.Tests.{lt-ltb, le-ltb}
use lib.IntN.{ℤ, pos}
use lib.ListN.{length, take, get_or-eq_default}
use Rattle.lists.specs.Permutations.{at}
use Rattle.lists.specs.Counts.{bit_of}
use Rattle.lists.proofs.BitSets.{bit_none}
use Rattle.lists.proofs.Sums.{sum_cong}
use Rattle.assignment.specs.Pairings.{Night, Pairing, Least, total}
use Rattle.assignment.specs.Prices.{Feasible, Tight, SparesNotBelow}
use Rattle.assignment.specs.Padded.{padded}
use Rattle.assignment.proofs.Padded.{padded_feasible, padded_pairing, padded-total, padded_tight, padded_spares, padded-least}
use Rattle.bars.specs.Barred.{night_of, barred}

module _ (m n : ℕ) (costs : List ℤ) (bars : List ℕ) (filled : length costs ≡ m * n) (fewer : m ≤ n) (clear : (i : ℕ) → m ≤ i → i < n → at bars i ≡ 0) where
  abbrev night : Night
  night = night_of m n costs bars

  abbrev wide : Night
  wide = barred n costs bars

  cost-padded : (i j : ℕ) → i < n → j < n → wide.cost i j ≡ (padded night).cost i j
  cost-padded i j hi hj = by (dec_lt i m)
    where
      by : Dec (i < m) → wide.cost i j ≡ (padded night).cost i j
      by (yes l) = rw (lt-ltb i m l)
      by (no l) =
          let past : m * n ≤ i * n = mul-le-mul_right n (omega arith) in
          rw (le-ltb i m (omega arith)) (get_or-eq_default costs (pos 0) (omega (arith, filled, past)))

  allowed_padded : (i j : ℕ) → i < n → wide.allowed i j ≡ (padded night).allowed i j
  allowed_padded i j hi = by (dec_lt i m)
    where
      by : Dec (i < m) → wide.allowed i j ≡ (padded night).allowed i j
      by (yes l) = rw (lt-ltb i m l)
      by (no l) = rw (le-ltb i m (omega arith)) (ap (λ (b : ℕ). not (bit_of b j)) (clear i (omega arith) hi) ∙ ap not (bit_none j))

  module _ (us vs : List ℤ) (fair : Feasible wide us vs) where
    fair_padded : Feasible (padded night) us vs
    fair_padded = record { under = λ i j hi hj a. rw (cost-padded i j hi hj) at (fair.under i j hi hj (allowed_padded i j hi ∙ a)) }

    pub rows_feasible : Feasible night us vs
    rows_feasible = padded_feasible night fewer us vs fair_padded

    module _ (cols : List ℕ) (p : Pairing wide cols) (tight : Tight wide us vs cols) where
      pairing_padded : Pairing (padded night) cols
      pairing_padded = record { size = p.size; inside = p.inside; apart = p.apart; permitted = λ i l. sym (allowed_padded i (at cols i) l) ∙ p.permitted i l }

      tight_padded : Tight (padded night) us vs cols
      tight_padded = record { met = λ i l. tight.met i l ∙ cost-padded i (at cols i) l (p.inside i l) }

      pub rows_pairing : Pairing night (take m cols)
      rows_pairing = padded_pairing night fewer cols pairing_padded

      pub rows_tight : Tight night us vs (take m cols)
      rows_tight = padded_tight night fewer cols us vs tight_padded

      pub rows_spares : SparesNotBelow night vs (take m cols)
      rows_spares = padded_spares night fewer cols us vs fair_padded pairing_padded tight_padded

      pub rows_least : Least night (take m cols)
      rows_least = padded-least night fewer cols us vs fair_padded pairing_padded tight_padded

      pub rows_total : total wide cols ≡ total night (take m cols)
      rows_total =
          sum_cong n (λ i. wide.cost i (at cols i)) (λ i. (padded night).cost i (at cols i)) (λ i l. cost-padded i (at cols i) l (p.inside i l))
          ∙ padded-total night fewer cols
