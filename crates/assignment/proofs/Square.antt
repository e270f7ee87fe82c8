-- The square night, every place allowed: it has no spare column, so that the spare condition falls away from every law. Assumes nothing.
use mathlib.Core.Path.{◌≡◌, refl, ap, ◌∙◌}
use mathlib.Core.Logic.{◌↔◌}
use mathlib.Core.List.{List}
use Prim.Native.Nat.{ℕ, ◌<◌}
use lib.IntN.{ℤ, ◌+ℤ◌}
use lib.ListN.{length}
use Rattle.lists.specs.Sums.{sum}
use Rattle.lists.specs.Permutations.{at, Permutation}
use Rattle.lists.proofs.Injections.{reached, sum_permuted}
use Rattle.lists.proofs.Permutations.{back_back}
use Rattle.assignment.specs.Pairings.{Pairing, total, Least, Named, signed_at, square}
use Rattle.assignment.specs.Prices.{Feasible, Tight, SparesNotBelow}
use Rattle.assignment.proofs.Pairings.{pairing_injective, named_pairing}
use Rattle.assignment.proofs.Duality.{tight_total, prices_least, least_iff}

module _ (n : ℕ) (costs : List ℤ) where
  pub square_spares : (vs : List ℤ) (cols : List ℕ) → Pairing (square n costs) cols → SparesNotBelow (square n costs) vs cols
  square_spares vs cols p =
      record { not_below = λ i j hi hj spare. let r = reached (pairing_injective (square n costs) cols p) j hj in absurd (spare r.0 r.1 r.2) }

  pub square_prices_least : (us vs : List ℤ) → Feasible (square n costs) us vs → (cols : List ℕ) → Pairing (square n costs) cols
      → Tight (square n costs) us vs cols → Least (square n costs) cols
  square_prices_least us vs fair cols p tight = prices_least (square n costs) us vs fair cols p tight (square_spares vs cols p)

  pub square_least_iff : (us vs : List ℤ) → Feasible (square n costs) us vs → (cols : List ℕ) → Pairing (square n costs) cols
      → Tight (square n costs) us vs cols → (other : List ℕ) → Pairing (square n costs) other
      → Least (square n costs) other ↔ Tight (square n costs) us vs other
  square_least_iff us vs fair cols p tight other q =
      let i = least_iff (square n costs) us vs fair cols p tight (square_spares vs cols p) other q in
      (λ o. (i.0 o).0, λ t. i.1 (t, square_spares vs other q))

  -- The total is the sum of all prices.
  pub square_tight_total : (us vs : List ℤ) (cols : List ℕ) → Pairing (square n costs) cols → Tight (square n costs) us vs cols
      → total (square n costs) cols ≡ sum n (signed_at us) +ℤ sum n (signed_at vs)
  square_tight_total us vs cols p tight =
      tight_total (square n costs) us vs cols tight
      ∙ ap (λ (z : ℤ). sum n (signed_at us) +ℤ z) (sum_permuted (signed_at vs) (pairing_injective (square n costs) cols p))

  -- Two lists that name each other are a pairing, and the rows name the columns back.
  pub square_named_pairing : (cols rows : List ℕ) → length cols ≡ n → Named (square n costs) cols rows → Pairing (square n costs) cols
  square_named_pairing cols rows size named = named_pairing (square n costs) cols rows size named (λ i l. refl)

  pub square_named_back : (cols rows : List ℕ) → Named (square n costs) cols rows → Named (square n costs) rows cols
  square_named_back cols rows named = record { inside = λ j l. (both j l).0; back = λ j l. (both j l).1 }
    where
      both : (j : ℕ) → j < n → (at rows j < n) × (at cols (at rows j) ≡ j)
      both = back_back (at cols) (at rows) named.inside named.back

  -- A pairing is a permutation of the columns, and each permutation is one.
  pub square_permutation : (cols : List ℕ) → Pairing (square n costs) cols ↔ Permutation n cols
  square_permutation cols = (
    λ p. record { size = p.size; injective = pairing_injective (square n costs) cols p },
    λ p. record { size = p.size; inside = p.injective.below; apart = p.injective.once; permitted = λ i l. refl },
  )
