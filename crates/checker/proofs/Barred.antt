-- The checker of a night with bars: it accepts exactly a well-formed pairing with fair prices that are tight on it; what it accepts is least among the
-- pairings without a barred place; under prices accepted for one pairing it accepts exactly the least; and what is not least is refused under any
-- prices. Assumes nothing.
use mathlib.Core.Path.{◌≡◌, sym, ◌∙◌}
use mathlib.Core.Logic.{◌↔◌}
use mathlib.Core.List.{List, [], ◌∷◌}
use Prim.Native.Nat.{ℕ, ◌*◌, ◌≤◌, ◌<◌}
use lib.IntN.{ℤ}
use lib.ListN.{length, take}
use lib.Seq.{length-take-le}
use Rattle.lists.specs.Permutations.{at}
use Rattle.lists.proofs.Injections.{reached}
use Rattle.assignment.specs.Pairings.{Night, Pairing, total, Least}
use Rattle.assignment.specs.Prices.{Tight, SparesNotBelow}
use Rattle.assignment.proofs.Pairings.{pairing_injective, named_pairing}
use Rattle.assignment.proofs.Longer.{at_first, total_first, named_first, spares_first}
use Rattle.matrix.specs.Limits.{sheet_side}
use Rattle.matrix.specs.Verdicts.{Passes}
use Rattle.matrix.specs.declared.refusals.Refusal.{Refusal}
use Rattle.std.specs.Prelude.{Ok, Err}
use Rattle.matrix.proofs.Verdicts.{then_iff, totalled_iff}
use Rattle.matrix.proofs.Passed.{side_within_lem, costs_fill_lem, lists_long_lem, list_long_lem, columns_inside_lem}
use Rattle.bars.specs.Barred.{barred}
use Rattle.bars.proofs.Passed.{costs_small_lem, bars_clear_lem, unbarred_iff}
use Rattle.checker.specs.Check.{shaped_barred, paired_barred, checks_barred, check_barred}
use Rattle.checker.specs.Proven.{Accepts, Shown, Fair, BarredPaired}
use Rattle.checker.proofs.Tests.{rows_named_lem, price_tests_iff}
use Rattle.checker.proofs.Shown.{answer-least, answer-refused, answer_iff_least}

pub shaped_barred_iff : (n : ℕ) (costs : List ℤ) (a b c d e : ℕ) → Passes (shaped_barred n costs (a ∷ b ∷ c ∷ d ∷ []) e)
    ↔ ((n ≤ sheet_side) × (length costs ≡ n * n) × (n ≤ a) × (n ≤ b) × (n ≤ c) × (n ≤ d) × (n ≤ e))
shaped_barred_iff n costs a b c d e = (
  λ passed.
      let t5 = (then_iff _ _).0 passed in
      let t3 = (then_iff _ _).0 t5.0 in
      let t2 = (then_iff _ _).0 t3.0 in
      let long = (lists_long_lem n a b c d).0 t3.1 in
      ((side_within_lem sheet_side n).0 t2.0, (costs_fill_lem n n costs).0 t2.1, long.first_long, long.second_long, long.third_long, long.fourth_long, (list_long_lem 5 n e).0 t5.1),
  λ h.
      let t2 = (then_iff _ _).1 ((side_within_lem sheet_side n).1 h.0, (costs_fill_lem n n costs).1 h.1) in
      let t3 = (then_iff _ _).1 (t2, (lists_long_lem n a b c d).1 (record { first_long = h.2; second_long = h.3; third_long = h.4; fourth_long = h.5 })) in
      (then_iff _ _).1 (t3, (list_long_lem 5 n e).1 h.6),
)

pub paired_inside : (n : ℕ) (costs : List ℤ) (cols rows bars : List ℕ) → Passes (paired_barred n costs cols rows bars) → (i : ℕ) → i < n → at cols i < n
paired_inside n costs cols rows bars passed = (columns_inside_lem n n cols).0 ((then_iff _ _).0 ((then_iff _ _).0 ((then_iff _ _).0 passed).0).0).1

module _ (n : ℕ) (costs : List ℤ) (bars : List ℕ) where
  abbrev night : Night
  night = barred n costs bars

  module _ (cols rows : List ℕ) (us vs : List ℤ) where
    pub checks_barred_iff : Passes (checks_barred n costs cols rows us vs bars) ↔ (BarredPaired n costs bars cols rows × Fair night us vs × Tight night us vs cols)
    unfolding checks_barred
    checks_barred_iff = (
      λ e.
          let t = (then_iff _ _).0 e in
          let p = (then_iff _ _).0 t.0 in
          let t26 = (then_iff _ _).0 p.1 in
          let t7 = (then_iff _ _).0 t26.0 in
          let t6 = (then_iff _ _).0 t7.0 in
          let t5 = (then_iff _ _).0 t6.0 in
          let s = (shaped_barred_iff n costs (length cols) (length rows) (length us) (length vs) (length bars)).0 p.0 in
          let prices = (price_tests_iff night cols us vs s.4 s.5).0 t.1 in (
            record {
              small = s.0;
              squared = s.1;
              columns_listed = s.2;
              rows_listed = s.3;
              bars_listed = s.6;
              within = (costs_small_lem costs).0 t5.0;
              clear = (bars_clear_lem n bars).0 t5.1;
              named = record { inside = (columns_inside_lem n n cols).0 t6.1; back = (rows_named_lem n cols rows).0 t7.1 };
              permitted = (unbarred_iff n costs bars cols).0 t26.1;
            },
            prices.0,
            prices.1,
          ),
      λ h.
          let f = h.0 in
          let us-long = h.1.row_prices.enough in
          let vs-long = h.1.column_prices.enough in
          let s = (shaped_barred_iff n costs (length cols) (length rows) (length us) (length vs) (length bars)).1
          (f.small, f.squared, f.columns_listed, f.rows_listed, us-long, vs-long, f.bars_listed) in
          let t5 = (then_iff _ _).1 ((costs_small_lem costs).1 f.within, (bars_clear_lem n bars).1 f.clear) in
          let t6 = (then_iff _ _).1 (t5, (columns_inside_lem n n cols).1 f.named.inside) in
          let t7 = (then_iff _ _).1 (t6, (rows_named_lem n cols rows).1 f.named.back) in
          let t26 = (then_iff _ _).1 (t7, (unbarred_iff n costs bars cols).1 f.permitted) in
          (then_iff _ _).1 ((then_iff _ _).1 (s, t26), (price_tests_iff night cols us vs us-long vs-long).1 (h.1, h.2)),
    )

    -- It accepts, with the total, exactly what is well-formed and shown by its prices.
    pub accepted_barred_iff : {t : ℤ} → (check_barred n costs cols rows us vs bars ≡ Ok t)
        ↔ (BarredPaired n costs bars cols rows × Fair night us vs × Tight night us vs cols × (t ≡ total night cols))
    unfolding check_barred
    accepted_barred_iff {t} = (
      λ e. let h = (totalled_iff _ _).0 e in let p = checks_barred_iff.0 h.0 in (p.0, p.1, p.2, h.1),
      λ h. (totalled_iff _ _).1 (checks_barred_iff.1 (h.0, h.1, h.2), h.3),
    )

  -- A well-formed pairing is one: the first n columns.
  pub barred_pairing : (cols rows : List ℕ) → BarredPaired n costs bars cols rows → Pairing night (take n cols)
  barred_pairing cols rows f =
      named_pairing night (take n cols) rows (length-take-le n cols f.columns_listed) ((named_first night cols rows).1 f.named)
      (λ i l. rw (at_first night cols i l) (f.permitted i l))

  -- There are as many columns as rows: none is spare.
  barred_spares : (vs : List ℤ) (cols : List ℕ) → Pairing night cols → SparesNotBelow night vs cols
  barred_spares vs cols p =
      record { not_below = λ i j hi hj spare. let r = reached (pairing_injective night cols p) j hj in absurd (spare r.0 r.1 r.2) }

  barred_shown : (cols rows : List ℕ) (us vs : List ℤ) → BarredPaired n costs bars cols rows → Fair night us vs → Tight night us vs cols → Shown night cols us vs
  barred_shown cols rows us vs f fair tight =
      let p = barred_pairing cols rows f in
      record { pairing = p; feasible = fair.feasible; tight = tight; spares = (spares_first night cols vs).0 (barred_spares vs (take n cols) p) }

  passed_shown : (cols rows : List ℕ) (us vs : List ℤ) → Passes (checks_barred n costs cols rows us vs bars) → Shown night cols us vs
  passed_shown cols rows us vs e = let h = (checks_barred_iff cols rows us vs).0 e in barred_shown cols rows us vs h.0 h.1 h.2

  -- What is accepted is least.
  pub accepted_barred_least : (cols rows : List ℕ) (us vs : List ℤ) {t : ℤ} → check_barred n costs cols rows us vs bars ≡ Ok t → Least night (take n cols)
  unfolding check_barred
  accepted_barred_least cols rows us vs accepted = answer-least night us vs cols _ _ (passed_shown cols rows us vs) accepted

  -- The total that is given is its total.
  pub accepted_barred_total : (cols rows : List ℕ) (us vs : List ℤ) {t : ℤ} → check_barred n costs cols rows us vs bars ≡ Ok t → t ≡ total night (take n cols)
  accepted_barred_total cols rows us vs accepted = ((accepted_barred_iff cols rows us vs).0 accepted).3 ∙ sym (total_first night cols)

  -- Prices that are accepted for one pairing: another well-formed one is accepted under them exactly if it is least.
  pub accepted_barred_iff_least : (cols rows : List ℕ) (us vs : List ℤ) {t : ℤ} → check_barred n costs cols rows us vs bars ≡ Ok t
      → (other back : List ℕ) → BarredPaired n costs bars other back → Accepts (check_barred n costs other back us vs bars) ↔ Least night (take n other)
  unfolding check_barred
  accepted_barred_iff_least cols rows us vs accepted other back f =
      let h = (checks_barred_iff cols rows us vs).0 ((totalled_iff _ _).0 accepted).0 in
      answer_iff_least night us vs other _ _ cols (barred_shown cols rows us vs h.0 h.1 h.2) (barred_pairing other back f)
      (passed_shown other back us vs, λ s. (checks_barred_iff other back us vs).1 (f, h.1, s.tight))

  -- What is not least is refused, whatever rows and prices come with it.
  pub not_least_barred_refused : (cols rows : List ℕ) (us vs : List ℤ) → ¬ Least night (take n cols)
      → (refusal : Refusal) × (check_barred n costs cols rows us vs bars ≡ Err refusal)
  unfolding check_barred
  not_least_barred_refused cols rows us vs not_least = answer-refused night us vs cols _ _ (passed_shown cols rows us vs) not_least
