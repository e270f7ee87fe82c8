-- Lists longer than the night's rows: only the first entries count. Assumes nothing.
use mathlib.Core.Path.{◌≡◌, sym, ap, ◌∙◌}
use mathlib.Core.Logic.{◌↔◌}
use mathlib.Core.List.{List}
use Prim.Native.Nat.{ℕ, ◌<◌}
use lib.IntN.{ℤ}
use lib.ListN.{take}
use lib.Seq.{get_or-take}
use Rattle.lists.specs.Permutations.{at}
use Rattle.lists.proofs.Sums.{sum_cong}
use Rattle.assignment.specs.Pairings.{Night, total, Named}
use Rattle.assignment.specs.Prices.{Tight, SparesNotBelow}

module _ (night : Night) (cols : List ℕ) where
  -- The column of a row, read in the first entries alone.
  pub at_first : (i : ℕ) → i < night.row_count → at (take night.row_count cols) i ≡ at cols i
  at_first i l = get_or-take night.row_count cols i 0 l

  pub total_first : total night (take night.row_count cols) ≡ total night cols
  total_first =
      sum_cong night.row_count (λ i. night.cost i (at (take night.row_count cols) i)) (λ i. night.cost i (at cols i))
      (λ i l. ap (night.cost i) (at_first i l))

  pub named_first : (rows : List ℕ) → Named night (take night.row_count cols) rows ↔ Named night cols rows
  named_first rows = (
    λ h. record { inside = λ i l. rw (at_first i l) at (h.inside i l); back = λ i l. rw (at_first i l) at (h.back i l) },
    λ h. record { inside = λ i l. rw (at_first i l) (h.inside i l); back = λ i l. rw (at_first i l) (h.back i l) },
  )

  pub tight_first : (us vs : List ℤ) → Tight night us vs (take night.row_count cols) ↔ Tight night us vs cols
  tight_first us vs =
      (λ h. record { met = λ i l. rw (at_first i l) at (h.met i l) }, λ h. record { met = λ i l. rw (at_first i l) (h.met i l) })

  pub spares_first : (vs : List ℤ) → SparesNotBelow night vs (take night.row_count cols) ↔ SparesNotBelow night vs cols
  spares_first vs = (
    λ h. record { not_below = λ i j l m spare. rw (at_first i l) at (h.not_below i j l m (λ k n e. spare k n (sym (at_first k n) ∙ e))) },
    λ h. record { not_below = λ i j l m spare. rw (at_first i l) (h.not_below i j l m (λ k n e. spare k n (at_first k n ∙ e))) },
  )
