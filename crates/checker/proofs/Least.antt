-- What the checker accepts is least; prices accepted for one pairing are accepted for exactly the least ones; and what is not least is
-- refused under any prices. Assumes nothing.
use mathlib.Core.Path.{◌≡◌, sym, ◌∙◌}
use mathlib.Core.Logic.{◌↔◌}
use mathlib.Core.List.{List}
use Prim.Native.Nat.{ℕ, ◌≤◌}
use lib.IntN.{ℤ}
use lib.ListN.{length, take}
use lib.Seq.{length-take-le}
use Rattle.assignment.specs.Pairings.{square, Pairing, total, Least, Named}
use Rattle.assignment.proofs.Square.{square_spares, square_named_pairing}
use Rattle.assignment.proofs.Longer.{total_first, named_first, spares_first}
use Rattle.matrix.specs.Verdicts.{Passes}
use Rattle.matrix.specs.declared.refusals.Refusal.{Refusal}
use Rattle.std.specs.Prelude.{Ok, Err}
use Rattle.matrix.proofs.Verdicts.{totalled_iff}
use Rattle.checker.specs.Check.{checks, check}
use Rattle.checker.specs.Proven.{Accepts, Proven, Shown}
use Rattle.checker.proofs.Accepted.{checks_iff, accepted_proven}
use Rattle.checker.proofs.Shown.{answer-least, answer-refused, answer_iff_least}

module _ (n : ℕ) (costs : List ℤ) where
  -- Lists that name each other: the first n columns are a pairing.
  named_first_pairing : (cols rows : List ℕ) → n ≤ length cols → Named (square n costs) cols rows → Pairing (square n costs) (take n cols)
  named_first_pairing cols rows l named =
      square_named_pairing n costs (take n cols) rows (length-take-le n cols l) ((named_first (square n costs) cols rows).1 named)

  -- What is fair is shown: a square night has no spare column.
  pub proven_shown : (cols rows : List ℕ) (us vs : List ℤ) → Proven n costs cols rows us vs → Shown (square n costs) cols us vs
  proven_shown cols rows us vs f =
      let p = named_first_pairing cols rows f.sizes.columns_listed f.named in
      record { pairing = p; feasible = f.feasible; tight = f.tight; spares = (spares_first (square n costs) cols vs).0 (square_spares n costs vs (take n cols) p) }

  passed_shown : (cols rows : List ℕ) (us vs : List ℤ) → Passes (checks n costs cols rows us vs) → Shown (square n costs) cols us vs
  passed_shown cols rows us vs e = proven_shown cols rows us vs ((checks_iff n costs cols rows us vs).0 e)

  -- What is accepted is least.
  pub accepted_least : (cols rows : List ℕ) (us vs : List ℤ) {t : ℤ} → check n costs cols rows us vs ≡ Ok t → Least (square n costs) (take n cols)
  unfolding check
  accepted_least cols rows us vs accepted = answer-least (square n costs) us vs cols _ _ (passed_shown cols rows us vs) accepted

  -- The total that is given is its total.
  pub accepted_total : (cols rows : List ℕ) (us vs : List ℤ) {t : ℤ} → check n costs cols rows us vs ≡ Ok t → t ≡ total (square n costs) (take n cols)
  accepted_total cols rows us vs accepted = (accepted_proven n costs cols rows us vs accepted).1 ∙ sym (total_first (square n costs) cols)

  -- Prices that are accepted for one pairing: another well-formed one is accepted under them exactly if it is least.
  pub accepted_iff_least : (cols rows : List ℕ) (us vs : List ℤ) {t : ℤ} → check n costs cols rows us vs ≡ Ok t
      → (other back : List ℕ) → n ≤ length other → n ≤ length back → Named (square n costs) other back
      → Accepts (check n costs other back us vs) ↔ Least (square n costs) (take n other)
  unfolding check
  accepted_iff_least cols rows us vs accepted other back l m named =
      let f = (checks_iff n costs cols rows us vs).0 ((totalled_iff _ _).0 accepted).0 in
      answer_iff_least (square n costs) us vs other _ _ cols (proven_shown cols rows us vs f) (named_first_pairing other back l named) (
        passed_shown other back us vs,
        λ s. (checks_iff n costs other back us vs).1
            (record {
              sizes = record { small = f.sizes.small; squared = f.sizes.squared; columns_listed = l; rows_listed = m };
              within = f.within;
              named = named;
              row_prices = f.row_prices;
              column_prices = f.column_prices;
              feasible = f.feasible;
              tight = s.tight;
            }),
      )

  -- What is not least is refused, whatever rows and prices come with it.
  pub not_least_refused : (cols rows : List ℕ) (us vs : List ℤ) → ¬ Least (square n costs) (take n cols)
      → (refusal : Refusal) × (check n costs cols rows us vs ≡ Err refusal)
  unfolding check
  not_least_refused cols rows us vs not_least = answer-refused (square n costs) us vs cols _ _ (passed_shown cols rows us vs) not_least
