-- Prices that are feasible, tight on a pairing and not below on its spare columns show that the pairing is least. With such prices held fixed,
-- another pairing is least exactly if they are tight and not below on it too. For any night. Assumes nothing.
use mathlib.Core.Path.{◌≡◌, sym, ◌∙◌}
use mathlib.Core.Logic.{◌↔◌}
use mathlib.Core.List.{List}
use Prim.Native.Nat.{ℕ, ◌<◌}
use lib.IntN.{ℤ, ◌+ℤ◌}
use lib.Signed.{◌≤ℤ◌}
use Rattle.ints.proofs.Shapes.{zlin}
use Rattle.lists.specs.Sums.{sum}
use Rattle.lists.specs.Permutations.{at}
use Rattle.lists.proofs.Sums.{sum_cong, sum_add, sum_le, sum_le_tight}
use Rattle.assignment.specs.Pairings.{Night, Pairing, total, Least, signed_at}
use Rattle.assignment.specs.Prices.{priced, Feasible, Tight, SparesNotBelow}
use Rattle.assignment.proofs.Pairings.{pairing_injective}
use Rattle.assignment.proofs.Columns.{columns_least, columns_least_only}

-- What the prices of all rows and of the columns used come to.
abbrev pub worth : Night → List ℤ → List ℤ → List ℕ → ℤ
worth night us vs cols = sum night.row_count (signed_at us) +ℤ sum night.row_count (λ i. signed_at vs (at cols i))

module _ (night : Night) (us vs : List ℤ) where
  abbrev paired : List ℕ → ℕ → ℤ
  paired cols i = priced us vs i (at cols i)

  worth_paired : (cols : List ℕ) → sum night.row_count (paired cols) ≡ worth night us vs cols
  worth_paired cols = sum_add night.row_count (signed_at us) (λ i. signed_at vs (at cols i))

  -- A pairing's total, where the prices are tight on it: the row prices and the used column prices.
  pub tight_total : (cols : List ℕ) → Tight night us vs cols → total night cols ≡ worth night us vs cols
  tight_total cols t = sym (sum_cong night.row_count (paired cols) (λ i. night.cost i (at cols i)) t.met) ∙ worth_paired cols

  under_paired : Feasible night us vs → (cols : List ℕ) → Pairing night cols → (i : ℕ) → i < night.row_count → paired cols i ≤ℤ night.cost i (at cols i)
  under_paired fair cols p i l = fair.under i (at cols i) l (p.inside i l) (p.permitted i l)

  -- No pairing costs less than its prices come to.
  pub worth_total : Feasible night us vs → (cols : List ℕ) → Pairing night cols → worth night us vs cols ≤ℤ total night cols
  worth_total fair cols p =
      omega (zlin, worth_paired cols, sum_le night.row_count (paired cols) (λ i. night.cost i (at cols i)) (under_paired fair cols p))

  module _ (fair : Feasible night us vs) (cols : List ℕ) (p : Pairing night cols) (tight : Tight night us vs cols) (spares : SparesNotBelow night vs cols) where
    used-least : (other : List ℕ) → Pairing night other → sum night.row_count (λ i. signed_at vs (at cols i)) ≤ℤ sum night.row_count (λ i. signed_at vs (at other i))
    used-least other q =
        columns_least (signed_at vs) night.row_count (at cols) (at other) (pairing_injective night cols p) (pairing_injective night other q) spares.not_below

    -- The pairing is least.
    pub prices_least : Least night cols
    prices_least =
        record { pairing = p; least = λ other q. omega (zlin, tight_total cols tight, used-least other q, worth_total fair other q) }

    -- Another least one: the prices are tight on it, and not below on its spare columns.
    pub least_tight : (other : List ℕ) → Least night other → Tight night us vs other
    least_tight other o =
        record {
          met = sum_le_tight night.row_count (paired other) (λ i. night.cost i (at other i)) (under_paired fair other o.pairing)
              (omega (zlin, o.least cols p, tight_total cols tight, used-least other o.pairing, worth_paired other));
        }

    pub least_spares : (other : List ℕ) → Least night other → SparesNotBelow night vs other
    least_spares other o =
        record {
          not_below = columns_least_only (signed_at vs) night.row_count (at cols) (at other) (pairing_injective night cols p)
              (pairing_injective night other o.pairing) spares.not_below
              (omega (zlin, o.least cols p, tight_total cols tight, worth_total fair other o.pairing));
        }

-- With such prices held fixed: another pairing is least ⇔ they are tight everywhere on it and not below on its spare columns.
pub least_iff : (night : Night) (us vs : List ℤ) → Feasible night us vs → (cols : List ℕ) → Pairing night cols → Tight night us vs cols
    → SparesNotBelow night vs cols → (other : List ℕ) → Pairing night other
    → Least night other ↔ (Tight night us vs other × SparesNotBelow night vs other)
least_iff night us vs fair cols p tight spares other q = (
  λ o. (least_tight night us vs fair cols p tight spares other o, least_spares night us vs fair cols p tight spares other o),
  λ h. prices_least night us vs fair other q h.0 h.1,
)
