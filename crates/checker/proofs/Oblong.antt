-- The checker of an oblong night, any number of rows not above that of columns: it accepts exactly a well-formed choice with fair prices that are tight
-- on it and not below on its spare columns; what it accepts is least; under prices accepted for one choice it accepts exactly the least; and what is
-- not least is refused under any prices. Assumes nothing.
use mathlib.Core.Path.{◌≡◌, sym, ◌∙◌}
use mathlib.Core.Logic.{◌↔◌}
use mathlib.Core.List.{List, []}
use Prim.Native.Nat.{ℕ, ◌*◌, ◌≤◌}
use lib.IntN.{ℤ}
use lib.ListN.{length, take}
use lib.Seq.{length-take-le}
use Rattle.lists.specs.Permutations.{at}
use Rattle.assignment.specs.Pairings.{Night, Pairing, total, Least}
use Rattle.assignment.specs.Prices.{Tight, SparesNotBelow}
use Rattle.assignment.proofs.Longer.{at_first, total_first}
use Rattle.matrix.specs.Limits.{sheet_side}
use Rattle.matrix.specs.Verdicts.{Passes}
use Rattle.matrix.specs.declared.refusals.Refusal.{Refusal}
use Rattle.std.specs.Prelude.{Ok, Err}
use Rattle.matrix.proofs.Verdicts.{then_iff, totalled_iff}
use Rattle.matrix.proofs.Passed.{side_within_lem, costs_fill_lem, list_long_lem, costs_within_lem, columns_inside_lem}
use Rattle.bars.specs.Barred.{night_of}
use Rattle.bars.proofs.Passed.{none_barred_lem}
use Rattle.checker.specs.Check.{shaped_oblong, checks_oblong, check_oblong}
use Rattle.checker.specs.Proven.{Accepts, Shown, Fair, OblongPaired}
use Rattle.checker.proofs.Tests.{price_tests_iff, rows_fit_lem, columns_once_lem, spares_not_below_lem}
use Rattle.checker.proofs.Shown.{answer-least, answer-refused, answer_iff_least}

pub shaped_oblong_iff : (m n : ℕ) (costs : List ℤ) (a c d : ℕ) → Passes (shaped_oblong m n costs a c d)
    ↔ ((n ≤ sheet_side) × (m ≤ n) × (length costs ≡ m * n) × (m ≤ a) × (m ≤ c) × (n ≤ d))
shaped_oblong_iff m n costs a c d = (
  λ passed.
      let t4 = (then_iff _ _).0 passed in
      let t3 = (then_iff _ _).0 t4.0 in
      let t1 = (then_iff _ _).0 t3.0 in
      let t2 = (then_iff _ _).0 t1.0 in
      let t23 = (then_iff _ _).0 t2.0 in
      ((side_within_lem sheet_side n).0 t23.0, (rows_fit_lem m n).0 t23.1, (costs_fill_lem m n costs).0 t2.1, (list_long_lem 1 m a).0 t1.1, (list_long_lem 3 m c).0 t3.1, (list_long_lem 4 n d).0 t4.1),
  λ h.
      let t23 = (then_iff _ _).1 ((side_within_lem sheet_side n).1 h.0, (rows_fit_lem m n).1 h.1) in
      let t2 = (then_iff _ _).1 (t23, (costs_fill_lem m n costs).1 h.2) in
      let t1 = (then_iff _ _).1 (t2, (list_long_lem 1 m a).1 h.3) in
      let t3 = (then_iff _ _).1 (t1, (list_long_lem 3 m c).1 h.4) in
      (then_iff _ _).1 (t3, (list_long_lem 4 n d).1 h.5),
)

module _ (m n : ℕ) (costs : List ℤ) where
  abbrev night : Night
  night = night_of m n costs []

  module _ (cols : List ℕ) (us vs : List ℤ) where
    pub checks_oblong_iff : Passes (checks_oblong m n costs cols us vs)
        ↔ (OblongPaired m n costs cols × Fair night us vs × Tight night us vs cols × SparesNotBelow night vs cols)
    unfolding checks_oblong
    checks_oblong_iff = (
      λ e.
          let t27 = (then_iff _ _).0 e in
          let t = (then_iff _ _).0 t27.0 in
          let p = (then_iff _ _).0 t.0 in
          let t7 = (then_iff _ _).0 p.1 in
          let t6 = (then_iff _ _).0 t7.0 in
          let s = (shaped_oblong_iff m n costs (length cols) (length us) (length vs)).0 p.0 in
          let prices = (price_tests_iff night cols us vs s.4 s.5).0 t.1 in (
            record {
              small = s.0;
              fits = s.1;
              filled = s.2;
              columns_listed = s.3;
              within = (costs_within_lem costs).0 t6.0;
              inside = (columns_inside_lem m n cols).0 t6.1;
              once = (columns_once_lem m cols).0 t7.1;
            },
            prices.0,
            prices.1,
            (spares_not_below_lem night cols vs).0 t27.1,
          ),
      λ h.
          let f = h.0 in
          let us-long = h.1.row_prices.enough in
          let vs-long = h.1.column_prices.enough in
          let s = (shaped_oblong_iff m n costs (length cols) (length us) (length vs)).1 (f.small, f.fits, f.filled, f.columns_listed, us-long, vs-long) in
          let t6 = (then_iff _ _).1 ((costs_within_lem costs).1 f.within, (columns_inside_lem m n cols).1 f.inside) in
          let t7 = (then_iff _ _).1 (t6, (columns_once_lem m cols).1 f.once) in
          let t = (then_iff _ _).1 ((then_iff _ _).1 (s, t7), (price_tests_iff night cols us vs us-long vs-long).1 (h.1, h.2)) in
          (then_iff _ _).1 (t, (spares_not_below_lem night cols vs).1 h.3),
    )

    -- It accepts, with the total, exactly what is well-formed and shown by its prices.
    pub accepted_oblong_iff : {t : ℤ} → (check_oblong m n costs cols us vs ≡ Ok t)
        ↔ (OblongPaired m n costs cols × Fair night us vs × Tight night us vs cols × SparesNotBelow night vs cols × (t ≡ total night cols))
    unfolding check_oblong
    accepted_oblong_iff {t} = (
      λ e. let h = (totalled_iff _ _).0 e in let p = checks_oblong_iff.0 h.0 in (p.0, p.1, p.2, p.3, h.1),
      λ h. (totalled_iff _ _).1 (checks_oblong_iff.1 (h.0, h.1, h.2, h.3), h.4),
    )

  -- A well-formed choice is a pairing: the first m columns.
  pub oblong_pairing : (cols : List ℕ) → OblongPaired m n costs cols → Pairing night (take m cols)
  oblong_pairing cols f = record {
    size = length-take-le m cols f.columns_listed;
    inside = λ i l. rw (at_first night cols i l) (f.inside i l);
    apart = λ i k l h e. f.once i k l h (sym (at_first night cols i l) ∙ e ∙ at_first night cols k h);
    permitted = λ i l. none_barred_lem m n costs i (at (take m cols) i);
  }

  passed_shown : (cols : List ℕ) (us vs : List ℤ) → Passes (checks_oblong m n costs cols us vs) → Shown night cols us vs
  passed_shown cols us vs e =
      let h = (checks_oblong_iff cols us vs).0 e in
      record { pairing = oblong_pairing cols h.0; feasible = h.1.feasible; tight = h.2; spares = h.3 }

  -- What is accepted is least.
  pub accepted_oblong_least : (cols : List ℕ) (us vs : List ℤ) {t : ℤ} → check_oblong m n costs cols us vs ≡ Ok t → Least night (take m cols)
  unfolding check_oblong
  accepted_oblong_least cols us vs accepted = answer-least night us vs cols _ _ (passed_shown cols us vs) accepted

  -- The total that is given is its total.
  pub accepted_oblong_total : (cols : List ℕ) (us vs : List ℤ) {t : ℤ} → check_oblong m n costs cols us vs ≡ Ok t → t ≡ total night (take m cols)
  accepted_oblong_total cols us vs accepted = ((accepted_oblong_iff cols us vs).0 accepted).4 ∙ sym (total_first night cols)

  -- Prices that are accepted for one choice: another well-formed one is accepted under them exactly if it is least.
  pub accepted_oblong_iff_least : (cols : List ℕ) (us vs : List ℤ) {t : ℤ} → check_oblong m n costs cols us vs ≡ Ok t
      → (other : List ℕ) → OblongPaired m n costs other → Accepts (check_oblong m n costs other us vs) ↔ Least night (take m other)
  unfolding check_oblong
  accepted_oblong_iff_least cols us vs accepted other f =
      let e = ((totalled_iff _ _).0 accepted).0 in
      answer_iff_least night us vs other _ _ cols (passed_shown cols us vs e) (oblong_pairing other f)
      (passed_shown other us vs, λ s. (checks_oblong_iff other us vs).1 (f, ((checks_oblong_iff cols us vs).0 e).1, s.tight, s.spares))

  -- What is not least is refused, whatever prices come with it.
  pub not_least_oblong_refused : (cols : List ℕ) (us vs : List ℤ) → ¬ Least night (take m cols)
      → (refusal : Refusal) × (check_oblong m n costs cols us vs ≡ Err refusal)
  unfolding check_oblong
  not_least_oblong_refused cols us vs not_least = answer-refused night us vs cols _ _ (passed_shown cols us vs) not_least
