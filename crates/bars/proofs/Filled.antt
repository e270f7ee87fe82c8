-- The filled night: a least pairing of it without a barred pair is a least one of the night; and from a barred pair a set of rows is reached whose
-- allowed columns are fewer. For any night of m rows whose costs lie within c and whose barred places cost more than (2m + 1)c. No walk is taken
-- back: over an allowed place and back over the pairing a row's price falls by at most 2c, so that the column of the barred pair, and a spare
-- one, is too dear for every row that is reached. Assumes nothing.
use mathlib.Core.Path.{◌≡◌, refl, sym, ap, ◌∙◌}
use mathlib.Core.Bool.{Bool, true, false, not}
use mathlib.Core.Logic.{◌⊎◌, inl, ⊎_elim, ◌↔◌}
use mathlib.Core.List.{List}
use Prim.Native.Nat.{ℕ, suc, ◌+◌, ◌*◌, ◌≤◌, ◌<◌}
use native.Mathlib.Decide.{ℕ_discrete, dec_lt}
use native.Mathlib.Omega.{arith}
use lib.Dec.{eqb}
use lib.IntN.{ℤ, pos, ◌+ℤ◌}
use lib.Signed.{◌≤ℤ◌, ◌<ℤ◌}
use lib.ListN.{length}
use borrow.Author.Tests.{eqb-true, not-true, not-false, eq-eqb, ne_eqb}
use Rattle.ints.specs.Parts.{Within}
use Rattle.ints.proofs.Sums as ints
use Rattle.ints.proofs.Ranges.{zarith}
use Rattle.ints.proofs.Shapes.{zlin}
use Rattle.ints.proofs.Tests.{not_true_false}
use Rattle.lists.specs.Sums.{sum}
use Rattle.lists.specs.Permutations.{at, table}
use Rattle.lists.proofs.Cases.{or_either}
use Rattle.lists.proofs.Runs.{upward_keeps, first_holds, first_before}
use Rattle.lists.proofs.Sums.{sum_cong, sum_le, sum_zero, sum_ones}
use Rattle.lists.proofs.Tables.{length-table, get_d_table}
use Rattle.lists.proofs.Injections.{sum_injection}
use Rattle.lists.proofs.Counts.{one, one_le, one_most, count-sum, but, but-least, sum-but}
use Rattle.assignment.specs.Pairings.{Night, Pairing, total, Least, signed_at}
use Rattle.assignment.specs.Prices.{priced, Feasible, Tight, SparesNotBelow}
use Rattle.assignment.proofs.Pairings.{pairing_injective}
use Rattle.bars.specs.Blocked.{columns_of, Blocked, filled, barred_row, has, grow, reached_from}
use Rattle.bars.proofs.Blocked.{columns_read, blocked_none}
use Rattle.bars.proofs.Rounds.{Shut, number, grow-at, grow-length, grow_keeps, grows}

module _ (night : Night) (dear : ℤ) where
  abbrev m : ℕ
  m = night.row_count

  -- A pairing of the night is one of the filled night, and costs the same there.
  pub permitted_filled : (cols : List ℕ) → Pairing night cols → Pairing (filled dear night) cols
  permitted_filled cols p = record { size = p.size; inside = p.inside; apart = p.apart; permitted = λ i l. refl }

  pub permitted_total : (cols : List ℕ) → Pairing night cols → total (filled dear night) cols ≡ total night cols
  permitted_total cols p =
      sum_cong m (λ i. (filled dear night).cost i (at cols i)) (λ i. night.cost i (at cols i)) (λ i l. rw (p.permitted i l))

  -- ---- no pair is barred

  module _ (cols : List ℕ) (free : m ≤ barred_row night cols) where
    allowed : (i : ℕ) → i < m → night.allowed i (at cols i) ≡ true
    allowed i l = not-false (night.allowed i (at cols i)) (first_before (λ k. not (night.allowed k (at cols k))) m i (omega arith))

    pub unbarred_pairing : Pairing (filled dear night) cols → Pairing night cols
    unbarred_pairing p = record { size = p.size; inside = p.inside; apart = p.apart; permitted = allowed }

    pub unbarred_tight : (us vs : List ℤ) → Tight (filled dear night) us vs cols → Tight night us vs cols
    unbarred_tight us vs tight = record { met = λ i l. rw (allowed i l) at (tight.met i l) }

    pub unbarred-least : Least (filled dear night) cols → Least night cols
    unbarred-least o =
        let p = unbarred_pairing o.pairing in
        record {
          pairing = p;
          least = λ other q.
              omega (zlin, permitted_total cols p, permitted_total other q, o.least other (permitted_filled other q));
        }

  -- ---- a pair is barred

  -- Prices that are feasible for the filled night are feasible for the night.
  pub filled_feasible : (us vs : List ℤ) → Feasible (filled dear night) us vs → Feasible night us vs
  filled_feasible us vs fair = record { under = λ i j hi hj a. rw a at (fair.under i j hi hj refl) }

  module _ (us vs : List ℤ) (fair : Feasible (filled dear night) us vs) (cols : List ℕ) (p : Pairing (filled dear night) cols)
      (tight : Tight (filled dear night) us vs cols) (spares : SparesNotBelow (filled dear night) vs cols) (c : ℕ)
      (small : (i j : ℕ) → i < m → j < night.column_count → Within c (night.cost i j)) (margin : pos (c + m * (2 * c)) <ℤ dear) where
    under : (i j : ℕ) → i < m → j < night.column_count → night.allowed i j ≡ true → priced us vs i j ≤ℤ night.cost i j
    under = (filled_feasible us vs fair).under

    met_barred : (i : ℕ) → i < m → night.allowed i (at cols i) ≡ false → priced us vs i (at cols i) ≡ dear
    met_barred i l a = rw a at (tight.met i l)

    -- At every pair the prices are at least - c.
    not_low : (i : ℕ) → i < m → pos 0 ≤ℤ (priced us vs i (at cols i) +ℤ pos c)
    not_low i l = by (night.allowed i (at cols i)) refl
      where
        by : (t : Bool) → night.allowed i (at cols i) ≡ t → pos 0 ≤ℤ (priced us vs i (at cols i) +ℤ pos c)
        by true e =
            let met : priced us vs i (at cols i) ≡ night.cost i (at cols i) = rw e at (tight.met i l) in
            omega (zlin, ints.sum (signed_at us i) (signed_at vs (at cols i)), small i (at cols i) l (p.inside i l))
        by false e = omega (zlin, ints.sum (signed_at us i) (signed_at vs (at cols i)), met_barred i l e)

    -- Over an allowed place and back over the pairing a row's price falls by at most 2c.
    falls : (i k : ℕ) → i < m → k < m → night.allowed i (at cols k) ≡ true → signed_at us i ≤ℤ (signed_at us k +ℤ pos (2 * c))
    falls i k hi hk a =
        omega (
          zlin,
          ints.sum (signed_at us k) (signed_at vs (at cols k)),
          not_low k hk,
          under i (at cols k) hi (p.inside k hk) a,
          small i (at cols k) hi (p.inside k hk),
        )

    module _ (i : ℕ) (hi : i < m) (at-barred : night.allowed i (at cols i) ≡ false) where
      -- What is reached after r rounds: the rows are near row i in price, and are more than r or all there are.
      record Reached (r : ℕ) (set : List Bool) : Type 0 where
        size : length set ≡ m
        base : has set i ≡ true
        near : (k : ℕ) → k < m → has set k ≡ true → signed_at us i ≤ℤ (signed_at us k +ℤ pos (r * (2 * c)))
        grown : (pos (suc r) ≤ℤ number night cols set) ⊎ Shut night cols set

      abbrev alone : List Bool
      alone = table m (λ k. eqb k i)

      start : Reached 0 alone
      start =
          let b : has alone i ≡ true = get_d_table m (λ k. eqb k i) false i hi ∙ eq-eqb i i refl in
          record {
            size = length-table m (λ k. eqb k i);
            base = b;
            near = λ k l e. let q = eqb-true k i (sym (get_d_table m (λ a. eqb a i) false k l) ∙ e) in omega (zlin, ap (signed_at us) q);
            grown = inl (omega (
              zlin,
              sum-but m i (has alone) hi b,
              sum_le m (λ k. pos 0) (but i (has alone)) (λ k l. but-least i (has alone) k),
              sum_zero m (λ k. pos 0) (λ k l. refl),
            ));
          }

      round : (r : ℕ) (set : List Bool) → Reached r set → Reached (suc r) (grow night cols set)
      round r set R = record {
        size = grow-length night cols set;
        base = grow_keeps night cols set i hi R.base;
        near = λ k l e. ⊎_elim (λ a. omega (zlin, R.near k l a)) (λ a. from k l (columns_read night (has set) (at cols k) a))
            (or_either (has set k) (columns_of night (has set) (at cols k)) (sym (grow-at night cols set k l) ∙ e));
        grown = grows night cols set R.size (suc r) R.grown;
      }
        where
          from : (k : ℕ) → k < m → (a : ℕ) × (a < m) × (has set a ≡ true) × (night.allowed a (at cols k) ≡ true)
              → signed_at us i ≤ℤ (signed_at us k +ℤ pos (suc r * (2 * c)))
          from k l (a, h, s, o) = omega (zlin, R.near a h s, falls a k h l o)

      reached_ok : Reached m (reached_from night cols i)
      unfolding reached_from
      reached_ok = upward_keeps Reached 0 m (λ r. grow night cols) alone (omega arith) start (λ r set a b R. round r set R)

      abbrev rows : ℕ → Bool
      rows = has (reached_from night cols i)

      abbrev columns : ℕ → Bool
      columns j = columns_of night rows j

      -- There are no more rows to come.
      shut : Shut night cols (reached_from night cols i)
      shut =
          ⊎_elim (λ g. absurd (omega (zlin, g, sum_ones m, sum_le m (λ k. one (rows k)) (λ k. pos 1) (λ k l. one_most (rows k))))) (λ s. s)
          reached_ok.grown

      -- The column of row i, and one whose price is not below it, is too dear for every row that is reached.
      too_dear : (j : ℕ) → j < night.column_count → signed_at vs (at cols i) ≤ℤ signed_at vs j → columns j ≡ false
      too_dear j l h =
          not_true_false (λ e.
          let s = columns_read night rows j e in
          omega (zlin, margin, h, reached_ok.near s.0 s.1 s.2, met_barred i hi at-barred, under s.0 j s.1 l s.3, small s.0 j s.1 l))

      -- So each column allowed to them is that of another row among them.
      pub barred_blocked : Blocked night rows
      barred_blocked = record {
        fewer = omega (zlin, count-sum m rows, count-sum night.column_count columns, used, others, sum-but m i rows hi reached_ok.base);
      }
        where
          used : sum night.column_count (λ j. one (columns j)) ≡ sum m (λ k. one (columns (at cols k)))
          used =
              sum_injection m (at cols) (λ j. one (columns j)) (pairing_injective (filled dear night) cols p)
              (λ j l u. ap one (too_dear j l (spares.not_below i j hi l u)))

          others : sum m (λ k. one (columns (at cols k))) ≤ℤ sum m (but i rows)
          others = sum_le m (λ k. one (columns (at cols k))) (but i rows) (λ k l. by k l (ℕ_discrete k i))
            where
              by : (k : ℕ) → k < m → Dec (k ≡ i) → one (columns (at cols k)) ≤ℤ but i rows k
              by k l (yes e) =
                  rw (eq-eqb k i e)
                  (omega (zarith, ap one (too_dear (at cols k) (p.inside k l) (omega (zarith, ap (λ (a : ℕ). signed_at vs (at cols a)) e)))))
              by k l (no d) = rw (ne_eqb k i d) (one_le (columns (at cols k)) (rows k) (shut k l))

    -- The rows reached from the first row at a barred place are a set to show.
    pub filled_blocked : barred_row night cols < m → Blocked night (has (reached_from night cols (barred_row night cols)))
    filled_blocked l =
        barred_blocked (barred_row night cols) l
        (not-true (night.allowed (barred_row night cols) (at cols (barred_row night cols)))
        (first_holds (λ k. not (night.allowed k (at cols k))) m l))

    -- "exactly if there is none"
    pub filled_iff : (barred_row night cols < m) ↔ ((other : List ℕ) → Pairing night other → ⊥)
    filled_iff = (
      λ l. blocked_none night (has (reached_from night cols (barred_row night cols))) (filled_blocked l),
      λ none. elim (dec_lt (barred_row night cols) m) [ yes l ↦ l | no l ↦ absurd (none cols (unbarred_pairing cols (omega arith) p)) ],
    )
