-- What a slip says, tested: what passes is a least pairing, shown by its prices. For any m rows and n columns, and any bars. Assumes nothing.
use mathlib.Core.Path.{◌≡◌, sym, ap, ◌∙◌}
use mathlib.Core.Logic.{◌↔◌}
use mathlib.Core.List.{List, ◌++◌, append-nil}
use Prim.Native.Nat.{ℕ, ◌*◌, ◌-◌, ◌≤◌, ◌<◌}
use native.Mathlib.Omega.{arith}
use lib.IntN.{ℤ}
use lib.ListN.{length, take, replicate, drop_of_length-le, length-replicate, get_or-replicate}
use lib.Seq.{sets, ext_get_or, get_or-take, length-take-le}
use Rattle.lists.specs.Permutations.{at}
use Rattle.layout.specs.Values.{value_of, signed_value}
use Rattle.layout.specs.Slips.{slip_columns, slip_row_prices, slip_column_prices, slip_total}
use Rattle.layout.proofs.Fields.{length_fields}
use Rattle.layout.proofs.Stores.{sets_front}
use Rattle.assignment.specs.Pairings.{Night, Pairing, Least, total}
use Rattle.assignment.specs.Prices.{Tight, SparesNotBelow}
use Rattle.assignment.proofs.Duality.{prices_least}
use Rattle.bars.specs.Barred.{night_of}
use Rattle.bars.proofs.Passed.{unbarred_iff}
use Rattle.matrix.specs.Verdicts.{Passes, ◌then◌, fails_if}
use Rattle.matrix.specs.declared.refusals.Refusal.{Refusal}
use Rattle.std.specs.Prelude.{Err}
use Rattle.matrix.proofs.Passed.{columns_inside_lem}
use Rattle.matrix.proofs.Verdicts.{then_iff, fails_then, passed_then}
use Rattle.checker.specs.Proven.{Fair}
use Rattle.checker.specs.Tests.{differ}
use Rattle.checker.proofs.Tests.{price_tests_iff, columns_once_lem, spares_not_below_lem}
use Rattle.audit.specs.Asked.{LeastTotal}
use Rattle.audit.specs.Audit.{proof_tests, slip_tests, total_right, audited_by}
use Rattle.matrix.specs.declared.refusals.Reason.TheVariants.{SlipWrong}
use Rattle.audit.specs.Audit.{Audited}
use Rattle.std.specs.Prelude.{Ok, Err}
use Rattle.audit.proofs.Slips.{audited_fails}

-- A list that is read over all of a room is what the room then holds.
pub read_whole : {A : Type 0} (n : ℕ) (p l : List A) → length p ≡ n → length l ≡ n → sets l 0 p ≡ p
read_whole n p l e f =
    sets_front p l n e (omega arith) ∙ ap (λ t. p ++ t) (drop_of_length-le l {i = n} (omega arith)) ∙ append-nil p

-- Parts of rooms that are all the same.
pub part_size : {A : Type 0} (k m : ℕ) (l : List A) → length l ≡ k → m ≤ k → length (take (m - 0) l) ≡ m
part_size k m l e h = let z : m - 0 ≡ m = omega arith in ap (λ (j : ℕ). length (take j l)) z ∙ length-take-le m l (omega arith)

pub zeros_part : (k m : ℕ) → m ≤ k → take (m - 0) (replicate {A = ℕ} k 0) ≡ replicate m 0
zeros_part k m h =
    ext_get_or {A = ℕ} 0 (take (m - 0) (replicate k 0)) (replicate m 0) (size ∙ sym (length-replicate {A = ℕ} m 0)) (λ i l. entry i (omega (arith, size)))
  where
    size : length (take (m - 0) (replicate {A = ℕ} k 0)) ≡ m
    size = part_size k m (replicate {A = ℕ} k 0) (length-replicate {A = ℕ} k 0) h

    entry : (i : ℕ) → i < m → at (take (m - 0) (replicate {A = ℕ} k 0)) i ≡ at (replicate {A = ℕ} m 0) i
    entry i l = get_or-take (m - 0) (replicate {A = ℕ} k 0) i 0 (omega arith) ∙ get_or-replicate {A = ℕ} k i 0 0 (omega arith) ∙ sym (get_or-replicate {A = ℕ} m i 0 0 l)

-- ---- columns and prices that pass

module _ (m n : ℕ) (costs : List ℤ) (bars cols : List ℕ) (us vs : List ℤ) (c : length cols ≡ m) (r : length us ≡ m) (p : length vs ≡ n) where
  abbrev night : Night
  night = night_of m n costs bars

  -- 6, 7, 26, 8, 9, 10, 27 are passed exactly by a pairing with fair prices that are tight on it and not below on its spare columns.
  pub proof_tests_iff : Passes (proof_tests m n costs bars cols us vs)
      ↔ (Pairing night cols × Fair night us vs × Tight night us vs cols × SparesNotBelow night vs cols)
  unfolding proof_tests
  proof_tests_iff = (
    λ e.
        let t27 = (then_iff _ _).0 e in
        let t10 = (then_iff _ _).0 t27.0 in
        let t26 = (then_iff _ _).0 t10.0 in
        let t7 = (then_iff _ _).0 t26.0 in
        let prices = (price_tests_iff night cols us vs (omega arith) (omega arith)).0 t10.1 in (
          record {
            size = c;
            inside = (columns_inside_lem m n cols).0 t7.0;
            apart = (columns_once_lem m cols).0 t7.1;
            permitted = (unbarred_iff m costs bars cols).0 t26.1;
          },
          prices.0,
          prices.1,
          (spares_not_below_lem night cols vs).0 t27.1,
        ),
    λ h.
        let f = h.0 in
        let t7 = (then_iff _ _).1 ((columns_inside_lem m n cols).1 f.inside, (columns_once_lem m cols).1 f.apart) in
        let t26 = (then_iff _ _).1 (t7, (unbarred_iff m costs bars cols).1 f.permitted) in
        let t10 = (then_iff _ _).1 (t26, (price_tests_iff night cols us vs (omega arith) (omega arith)).1 (h.1, h.2)) in
        (then_iff _ _).1 (t10, (spares_not_below_lem night cols vs).1 h.3),
  )

  -- What passes is least.
  pub passed_least : Passes (proof_tests m n costs bars cols us vs) → Least night cols
  passed_least e = let h = proof_tests_iff.0 e in prices_least night us vs h.1.feasible cols h.0 h.2 h.3

  pub passed_least_total : Passes (proof_tests m n costs bars cols us vs) → (t : ℤ) → t ≡ total night cols → LeastTotal m n costs bars t
  passed_least_total e t s = record { cols = cols; least = passed_least e; totals = s }

-- ---- what is read of a slip

module _ (m n : ℕ) (costs : List ℤ) (bars slip : List ℕ) where
  pub said_size : length (slip_columns m slip) ≡ m
  said_size = length_fields value_of 0 2 m slip

  pub row_prices_size : length (slip_row_prices m slip) ≡ m
  row_prices_size = length_fields (signed_value 8) (2 * m) 8 m slip

  pub column_prices_size : length (slip_column_prices m n slip) ≡ n
  column_prices_size = length_fields (signed_value 8) (10 * m) 8 n slip

  pub columns_read : (cols : List ℕ) → length cols ≡ m → sets cols 0 (slip_columns m slip) ≡ slip_columns m slip
  columns_read cols e = read_whole m (slip_columns m slip) cols said_size e

  pub row_prices_read : (us : List ℤ) → length us ≡ m → sets us 0 (slip_row_prices m slip) ≡ slip_row_prices m slip
  row_prices_read us e = read_whole m (slip_row_prices m slip) us row_prices_size e

  pub column_prices_read : (vs : List ℤ) → length vs ≡ n → sets vs 0 (slip_column_prices m n slip) ≡ slip_column_prices m n slip
  column_prices_read vs e = read_whole n (slip_column_prices m n slip) vs column_prices_size e

  pub slip_least : Passes (slip_tests m n costs bars slip) → Least (night_of m n costs bars) (slip_columns m slip)
  slip_least = passed_least m n costs bars (slip_columns m slip) (slip_row_prices m slip) (slip_column_prices m n slip) said_size row_prices_size column_prices_size

  pub slip_least_total : Passes (slip_tests m n costs bars slip) → (t : ℤ) → t ≡ total (night_of m n costs bars) (slip_columns m slip) → LeastTotal m n costs bars t
  slip_least_total e t s = record { cols = slip_columns m slip; least = slip_least e; totals = s }

  -- What is told of it, where the tests refuse it and where they do not.
  pub refused_slip : {refusal : Refusal} → slip_tests m n costs bars slip ≡ Err refusal
      → Err refusal ≡ audited_by m n slip (slip_tests m n costs bars slip then total_right m n costs bars slip)
  refused_slip f = audited_fails m n slip (sym (fails_then (total_right m n costs bars slip) f))

  pub accepted_slip : Passes (slip_tests m n costs bars slip) → (t : ℤ) → t ≡ total (night_of m n costs bars) (slip_columns m slip)
      → (r : Audited) → r ≡ audited_by m n slip (fails_if SlipWrong 0 (differ (slip_total m n slip) t))
      → r ≡ audited_by m n slip (slip_tests m n costs bars slip then total_right m n costs bars slip)
  accepted_slip e t s r g =
      g ∙ ap (audited_by m n slip)
      (passed_then (total_right m n costs bars slip) e (ap (λ (z : ℤ). fails_if SlipWrong 0 (differ (slip_total m n slip) z)) s))
