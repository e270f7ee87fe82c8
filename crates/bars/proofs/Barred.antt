-- A square night with bars and what a pairing of the filled costs is to it, with prices that show that pairing: where no pair is barred it is least
-- among the pairings without a barred place; else there is none, and the rows reached show it. Assumes nothing.
use mathlib.Core.Path.{◌≡◌, refl, sym, ap, ◌∙◌, subst}
use mathlib.Core.Bool.{Bool, true, false, cond, not, not-not}
use mathlib.Core.Logic.{◌↔◌}
use mathlib.Core.List.{List}
use Prim.Native.Nat.{ℕ, suc, ◌+◌, ◌*◌, ◌^◌, ◌≤◌, ◌<◌}
use native.Mathlib.Nat.{mul-le-mul_right}
use native.Mathlib.Omega.{arith}
use lib.Count.{ones}
use lib.Dec.{ltb}
use lib.IntN.{ℤ, pos}
use lib.ListN.{replicate, get_or-replicate}
use lib.Signed.{◌<ℤ◌}
use borrow.Author.Tests.{leb-false, lt-leb}
use Rattle.ints.specs.Parts.{Within}
use Rattle.ints.proofs.Shapes.{zlin}
use Rattle.lists.specs.Runs.{first}
use Rattle.lists.specs.Permutations.{at}
use Rattle.lists.specs.Counts.{bit_of}
use Rattle.lists.proofs.Runs.{upward_cong, first_none}
use Rattle.lists.proofs.Sums.{sum_cong}
use Rattle.lists.proofs.BitSets.{clear_iff, bit_none}
use Rattle.assignment.specs.Pairings.{Night, Pairing, total, Least, signed_at, square}
use Rattle.assignment.specs.Prices.{Feasible, Tight, SparesNotBelow}
use Rattle.assignment.proofs.Square.{square_spares}
use Rattle.bars.specs.Blocked.{Blocked, filled, barred_row, has, reached_from}
use Rattle.bars.specs.Barred.{barred, first_barred, bits_above, filled_costs}
use Rattle.bars.specs.Masks.{columns_mask, shown_rows}
use Rattle.bars.proofs.FilledCosts.{filled-place, filled_costs_at}
use Rattle.bars.proofs.Filled.{permitted_total, unbarred_pairing, unbarred_tight, unbarred-least, filled_feasible, filled_blocked, filled_iff}
use Rattle.bars.proofs.Masks.{mask_blocked, mask_ones}

-- The first row at a barred place, as code finds it.
pub first-barred : (n : ℕ) (costs : List ℤ) (bars cols : List ℕ) → barred_row (barred n costs bars) cols ≡ first_barred n bars cols
unfolding first
first-barred n costs bars cols =
    upward_cong 0 n _ _ 0
    (λ k found h l. ap (λ (t : Bool). cond (ltb found k) found (cond t k (suc k))) (not-not (bit_of (at bars k) (at cols k))))

-- Where nothing is barred no pair is.
pub no_pair_barred : (n : ℕ) (cols : List ℕ) → first_barred n (replicate n 0) cols ≡ n
no_pair_barred n cols =
    first_none (λ i. bit_of (at (replicate n 0) i) (at cols i)) n (λ i l. rw (get_or-replicate {A = ℕ} n i 0 0 l) (bit_none (at cols i)))

-- "bits from n up must be clear", of the bits of a u64
pub bits_above_iff : (n bits : ℕ) → bits < 2 ^ 64 → (bits_above n bits ≡ false) ↔ ((j : ℕ) → n ≤ j → bit_of bits j ≡ false)
bits_above_iff n bits l = (
  λ e. (clear_iff 64 n bits l).0 (leb-false (2 ^ n) bits e),
  λ clear. lt-leb (2 ^ n) bits ((clear_iff 64 n bits l).1 clear),
)

module _ (n : ℕ) (dear : ℤ) (costs : List ℤ) (bars : List ℕ) where
  abbrev night : Night
  night = barred n costs bars

  abbrev pub filled_square : Night
  filled_square = square n (filled_costs n dear costs bars)

  swapped : (t : Bool) (x y : ℤ) → cond t x y ≡ cond (not t) y x
  swapped true x y = refl
  swapped false x y = refl

  -- The filled costs are those of the filled night.
  pub filled-cost : (i j : ℕ) → i < n → j < n → filled_square.cost i j ≡ (filled dear night).cost i j
  filled-cost i j hi hj =
      filled_costs_at n dear costs bars (i * n + j) (omega (arith, mul-le-mul_right n hi))
      ∙ filled-place n dear costs bars i j hj ∙ swapped (bit_of (at bars i) j) dear (signed_at costs (i * n + j))

  pub filled_fair : (us vs : List ℤ) → Feasible filled_square us vs → Feasible (filled dear night) us vs
  filled_fair us vs fair = record { under = λ i j hi hj a. rw (filled-cost i j hi hj) at (fair.under i j hi hj refl) }

  module _ (cols : List ℕ) (p : Pairing filled_square cols) where
    pub filled_pairing : Pairing (filled dear night) cols
    filled_pairing = record { size = p.size; inside = p.inside; apart = p.apart; permitted = λ i l. refl }

    pub filled_tight : (us vs : List ℤ) → Tight filled_square us vs cols → Tight (filled dear night) us vs cols
    filled_tight us vs tight = record { met = λ i l. rw (filled-cost i (at cols i) l (p.inside i l)) at (tight.met i l) }

    filled_spares : (vs : List ℤ) → SparesNotBelow (filled dear night) vs cols
    filled_spares vs = record { not_below = (square_spares n (filled_costs n dear costs bars) vs cols p).not_below }

    filled-total : total (filled dear night) cols ≡ total filled_square cols
    filled-total =
        sum_cong n (λ i. (filled dear night).cost i (at cols i)) (λ i. filled_square.cost i (at cols i))
        (λ i l. sym (filled-cost i (at cols i) l (p.inside i l)))

    -- No pair is barred: the pairing is one of the night, and prices that are tight on it for the filled costs are so for the night.
    module _ (free : n ≤ first_barred n bars cols) where
      row_free : n ≤ barred_row night cols
      row_free = omega (arith, first-barred n costs bars cols)

      pub barred_pairing : Pairing night cols
      barred_pairing = unbarred_pairing night dear cols row_free filled_pairing

      pub barred-total : total filled_square cols ≡ total night cols
      barred-total = sym filled-total ∙ permitted_total night dear cols barred_pairing

      pub barred_tight : (us vs : List ℤ) → Tight filled_square us vs cols → Tight night us vs cols
      barred_tight us vs tight = unbarred_tight night dear cols row_free us vs (filled_tight us vs tight)

  -- Where no pair of a least pairing of the filled costs is barred, no pairing without a barred place costs less.
  pub barred-least : (cols : List ℕ) → Least filled_square cols → n ≤ first_barred n bars cols → Least night cols
  barred-least cols o free = unbarred-least night dear cols (row_free cols o.pairing free) (record {
    pairing = filled_pairing cols o.pairing;
    least = λ other q.
        let r : Pairing filled_square other = record { size = q.size; inside = q.inside; apart = q.apart; permitted = λ i l. refl } in
        omega (zlin, filled-total cols o.pairing, filled-total other r, o.least other r);
  })

  pub barred_feasible : (us vs : List ℤ) → Feasible filled_square us vs → Feasible night us vs
  barred_feasible us vs fair = filled_feasible night dear us vs (filled_fair us vs fair)

  -- Costs within c, and barred places that cost more than (2n + 1)c. The filled costs are paired, with prices that show it.
  module _ (c : ℕ) (small : (k : ℕ) → k < n * n → Within c (signed_at costs k)) (margin : pos (c + n * (2 * c)) <ℤ dear) (us vs : List ℤ)
      (fair : Feasible filled_square us vs) (cols : List ℕ) (p : Pairing filled_square cols) (tight : Tight filled_square us vs cols) where
    small_costs : (i j : ℕ) → i < n → j < n → Within c (night.cost i j)
    small_costs i j hi hj = small (i * n + j) (omega (arith, mul-le-mul_right n hi))

    -- "Refuse with 20 exactly if there is none"
    pub barred_iff : (first_barred n bars cols < n) ↔ ((other : List ℕ) → Pairing night other → ⊥)
    barred_iff =
        let i = filled_iff night dear us vs (filled_fair us vs fair) cols (filled_pairing cols p) (filled_tight cols p us vs tight) (filled_spares cols p vs) c small_costs margin in
        (λ l. i.0 (omega (arith, first-barred n costs bars cols)), λ none. let l = i.1 none in omega (arith, first-barred n costs bars cols))

    reached_blocked : first_barred n bars cols < n → Blocked night (has (reached_from night cols (first_barred n bars cols)))
    reached_blocked l =
        subst (λ (i : ℕ). Blocked night (has (reached_from night cols i))) (first-barred n costs bars cols)
        (filled_blocked night dear us vs (filled_fair us vs fair) cols (filled_pairing cols p) (filled_tight cols p us vs tight) (filled_spares cols p vs) c small_costs margin
        (omega (arith, first-barred n costs bars cols)))

    -- "a set of rows whose allowed columns are fewer than the rows"
    pub shown_blocked : first_barred n bars cols < n → Blocked night (bit_of (shown_rows n bars cols))
    shown_blocked l = mask_blocked n costs bars cols p.inside (first_barred n bars cols) (reached_blocked l)

    -- "by counting ones"
    pub shown_ones : ((i : ℕ) → i < n → at bars i < 2 ^ n) → first_barred n bars cols < n → ones (columns_mask n bars (shown_rows n bars cols)) < ones (shown_rows n bars cols)
    shown_ones clear l = mask_ones n costs bars cols p.inside (first_barred n bars cols) l clear (reached_blocked l)

-- At sides to 64, with costs within 1,000,000 and K on barred places, the margin is wide.
pub wide_margin : (n : ℕ) → n ≤ 64 → pos (1000000 + n * (2 * 1000000)) <ℤ pos 1000000000
wide_margin n h = omega zlin
