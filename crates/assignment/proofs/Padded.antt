-- A pairing of the padded night and its first entries: these are a pairing of the night itself and cost the same, and prices that show the one least
-- show the other, spare columns included. For any night with as many columns as rows or more. Assumes nothing.
use mathlib.Core.Path.{◌≡◌, sym, ap, ◌∙◌}
use mathlib.Core.List.{List}
use Prim.Native.Nat.{ℕ, ◌+◌, ◌-◌, ◌≤◌, ◌<◌}
use native.Mathlib.Decide.{dec_lt}
use native.Mathlib.Omega.{arith}
use lib.IntN.{ℤ, pos}
use lib.Signed.{◌≤ℤ◌}
use lib.ListN.{take}
use lib.Seq.{length-take-le}
use borrow.Author.Tests.{lt-ltb, le-ltb}
use Rattle.ints.proofs.Shapes.{zlin}
use Rattle.lists.specs.Sums.{sum}
use Rattle.lists.specs.Permutations.{at}
use Rattle.lists.proofs.Sums.{sum_cong, sum_zero, sum_split}
use Rattle.lists.proofs.Injections.{reached}
use Rattle.assignment.specs.Pairings.{Night, Pairing, total, Least, Spare, signed_at}
use Rattle.assignment.specs.Prices.{priced, Feasible, Tight, SparesNotBelow}
use Rattle.assignment.specs.Padded.{padded}
use Rattle.assignment.proofs.Pairings.{pairing_injective}
use Rattle.assignment.proofs.Duality.{prices_least}
use Rattle.assignment.proofs.Longer.{at_first, total_first}

module _ (night : Night) (enough : night.row_count ≤ night.column_count) where
  abbrev m : ℕ
  m = night.row_count

  abbrev n : ℕ
  n = night.column_count

  below : (i : ℕ) → i < m → i < n
  below i l = omega (arith, enough)

  pub padded_feasible : (us vs : List ℤ) → Feasible (padded night) us vs → Feasible night us vs
  padded_feasible us vs fair = record {
    under = λ i j hi hj a.
        rw (lt-ltb i m hi) at (fair.under i j (below i hi) hj (rw (lt-ltb i m hi) a));
  }

  module _ (cols : List ℕ) where
    abbrev firsts : List ℕ
    firsts = take m cols

    pub padded_pairing : Pairing (padded night) cols → Pairing night firsts
    padded_pairing p = record {
      size = length-take-le m cols (omega (arith, p.size, enough));
      inside = λ i l. omega (arith, at_first night cols i l, p.inside i (below i l));
      apart = λ i k l h e. p.apart i k (below i l) (below k h) (sym (at_first night cols i l) ∙ e ∙ at_first night cols k h);
      permitted = λ i l. ap (night.allowed i) (at_first night cols i l) ∙ (rw (lt-ltb i m l) at (p.permitted i (below i l)));
    }

    -- The added rows cost nothing.
    pub padded-total : total (padded night) cols ≡ total night firsts
    padded-total =
        let s : n ≡ m + (n - m) = omega (arith, enough) in
        let cut : sum n cost ≡ sum (m + (n - m)) cost = ap (λ (k : ℕ). sum k cost) s in
        omega (
          zlin,
          cut,
          sum_split m (n - m) cost,
          sum_cong m cost (λ i. night.cost i (at cols i)) (λ i l. rw (lt-ltb i m l)),
          sum_zero (n - m) (λ i. cost (m + i)) (λ i l. rw (le-ltb (m + i) m (omega arith))),
          total_first night cols,
        )
      where
        cost : ℕ → ℤ
        cost i = (padded night).cost i (at cols i)

    pub padded_tight : (us vs : List ℤ) → Tight (padded night) us vs cols → Tight night us vs firsts
    padded_tight us vs tight = record { met = λ i l. rw (at_first night cols i l) (rw (lt-ltb i m l) at (tight.met i (below i l))) }

    module _ (us vs : List ℤ) (fair : Feasible (padded night) us vs) (p : Pairing (padded night) cols) (tight : Tight (padded night) us vs cols) where
      -- A spare column is that of an added row: there the prices come to 0, and nowhere in that row to more.
      pub padded_spares : SparesNotBelow night vs firsts
      padded_spares = record { not_below = λ i j hi hj spare. by i j hi spare (reached (pairing_injective (padded night) cols p) j hj) }
        where
          by : (i j : ℕ) → i < m → Spare night firsts j → (k : ℕ) × (k < n) × (at cols k ≡ j) → signed_at vs (at firsts i) ≤ℤ signed_at vs j
          by i j hi spare (k, l, e) = elim (dec_lt k m) [
            | yes h ↦ absurd (spare k h (at_first night cols k h ∙ e))
            | no h ↦
                let b = le-ltb k m (omega arith) in
                let met : priced us vs k (at cols k) ≡ pos 0 = rw b at (tight.met k l) in
                let under : priced us vs k (at cols i) ≤ℤ pos 0 = rw b at (fair.under k (at cols i) l (p.inside i (below i hi)) (rw b)) in
                omega (zlin, ap (signed_at vs) e, ap (signed_at vs) (at_first night cols i hi))
          ]

      pub padded-least : Least night firsts
      padded-least = prices_least night us vs (padded_feasible us vs fair) firsts (padded_pairing p) (padded_tight us vs tight) padded_spares
