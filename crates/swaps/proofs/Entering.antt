-- The entries: past its tests the search can be made, and what it leaves is what the definition says. Assumes nothing.
use mathlib.Core.Path.{◌≡◌, refl, sym, ap, subst}
use mathlib.Core.List.{List, []}
use Prim.Native.Nat.{ℕ, ◌*◌, ◌≤◌}
use native.Mathlib.Nat.{le_trans}
use native.Mathlib.Omega.{arith}
use lib.IntN.{ℤ}
use lib.ListN.{length, take}
use Rattle.lists.proofs.Injections.{pigeonhole}
use Rattle.assignment.specs.Pairings.{Night, Pairing, square, total}
use Rattle.assignment.specs.Prices.{SparesNotBelow}
use Rattle.assignment.proofs.Pairings.{pairing_injective}
use Rattle.assignment.proofs.Square.{square_spares}
use Rattle.assignment.proofs.Longer.{at_first, spares_first}
use Rattle.bars.specs.Barred.{night_of, barred}
use Rattle.bars.proofs.Passed.{square-unbarred}
use Rattle.matrix.specs.Asked.{ColumnsListed}
use Rattle.matrix.specs.Limits.{side}
use Rattle.matrix.specs.Verdicts.{Verdict, Passes}
use Rattle.std.specs.Prelude.{Ok, Err}
use Rattle.matrix.specs.declared.refusals.Refusal.{Refusal}
use Rattle.matrix.proofs.SmallLimits.{sheet_side_within}
use Rattle.matrix.proofs.Verdicts.{then_iff}
use Rattle.matrix.proofs.Passed.{list_long_lem, rooms_long_lem}
use Rattle.checker.specs.Check.{checks, checks_barred, checks_oblong}
use Rattle.checker.specs.Proven.{Prices, Shown}
use Rattle.checker.proofs.Accepted.{checks_iff}
use Rattle.checker.proofs.Least.{proven_shown}
use Rattle.checker.proofs.Barred.{checks_barred_iff, barred_pairing}
use Rattle.checker.proofs.Oblong.{checks_oblong_iff, oblong_pairing}
use Rattle.swaps.specs.Found.{CanFindIn, FoundIn}
use Rattle.swaps.specs.Entries.{Lent, lent_of, outcome_of, outcome, lent_long, second_tests, second_barred_tests, second_oblong_tests}
use Rattle.swaps.specs.declared.Pairings.{Pairings}

-- ---- any night

module _ (m n : ℕ) (costs : List ℤ) (bars cols : List ℕ) (us vs : List ℤ) (lent : Lent) where
  abbrev night : Night
  night = night_of m n costs bars

  abbrev Can : Type 0
  Can = CanFindIn m n costs bars cols us vs lent.list lent.indices lent.numbers

  -- A pairing that its prices show to be least, and lists that are long enough.
  can_find : n ≤ side → length costs ≡ m * n → m ≤ length cols → Prices m us → Prices n vs → Shown night cols us vs → Passes (lent_long m n lent) → Can
  can_find small filled listed row_prices column_prices shown long =
      let t = (then_iff _ _).0 long in
      let r = (rooms_long_lem n (length lent.indices) (length lent.numbers)).0 t.1 in
      record {
        small = small;
        filled = filled;
        row_prices = row_prices;
        column_prices = column_prices;
        listed = listed;
        shown = shown;
        list_long = (list_long_lem 6 m (length lent.list)).0 t.0;
        indices_long = r.0;
        numbers_long = r.1;
      }

  -- With that the total can be taken too.
  pub can_total : Can → (m ≤ side) × (n ≤ side) × (m * n ≤ length costs) × ColumnsListed m n cols
  can_total h = (
    le_trans (pigeonhole (pairing_injective night _ h.shown.pairing)) h.small,
    h.small,
    omega (arith, h.filled),
    record { listed = h.listed; inside = λ i l. rw (at_first night cols i l) at (h.shown.pairing.inside i l) },
  )

  -- The outcome of an accepted input.
  pub told_outcome : (p : Pairings) (list indices : List ℕ) (numbers : List ℤ) → p.total ≡ total night cols
      → FoundIn m n costs bars cols us vs lent.list lent.indices lent.numbers p.another list indices numbers
      → outcome_of (Ok p) (lent_of list indices numbers) ≡ outcome night cols us vs lent (Ok tt)
  unfolding outcome
  told_outcome p list indices numbers d f = rw (← d, ← f.told, f.written, f.indices_cleared, f.numbers_cleared) refl

-- The outcome of a refused one.
pub refused_outcome : (this : Night) (cols : List ℕ) (us vs : List ℤ) (lent : Lent) (refusal : Refusal)
    → outcome this cols us vs lent (Err refusal) ≡ outcome_of (Err refusal) lent
unfolding outcome
refused_outcome this cols us vs lent refusal = refl

-- The list without an entry bars nothing.
pub plain_outcome : (n : ℕ) (costs : List ℤ) (cols : List ℕ) (us vs : List ℤ) (lent : Lent) (verdict : Verdict)
    → outcome (night_of n n costs []) cols us vs lent verdict ≡ outcome (square n costs) cols us vs lent verdict
plain_outcome n costs cols us vs lent verdict = ap (λ (night : Night). outcome night cols us vs lent verdict) (square-unbarred n costs)

-- ---- the tests of each entry

module _ (n : ℕ) (costs : List ℤ) (cols rows : List ℕ) (us vs : List ℤ) (lent : Lent) where
  pub square_can_find : Passes (second_tests n costs cols rows us vs lent) → CanFindIn n n costs [] cols us vs lent.list lent.indices lent.numbers
  unfolding second_tests checks
  square_can_find passed =
      let t = (then_iff _ _).0 passed in
      let s = (then_iff _ _).0 t.0 in
      let f = (checks_iff n costs cols rows us vs).0 ((then_iff _ _).1 (s.0, t.1)) in
      can_find n n costs [] cols us vs lent f.sizes.small f.sizes.squared f.sizes.columns_listed f.row_prices f.column_prices
      (subst (λ (night : Night). Shown night cols us vs) (sym (square-unbarred n costs)) (proven_shown n costs cols rows us vs f)) s.1

module _ (n : ℕ) (costs : List ℤ) (cols rows : List ℕ) (us vs : List ℤ) (bars : List ℕ) (lent : Lent) where
  -- There are as many columns as rows: none is spare.
  barred_spares : Pairing (barred n costs bars) (take n cols) → SparesNotBelow (barred n costs bars) vs cols
  barred_spares p =
      let q : Pairing (square n costs) (take n cols) = record { size = p.size; inside = p.inside; apart = p.apart; permitted = λ i l. refl } in
      (spares_first (barred n costs bars) cols vs).0 (record { not_below = (square_spares n costs vs (take n cols) q).not_below })

  pub barred_can_find : Passes (second_barred_tests n costs cols rows us vs bars lent) → CanFindIn n n costs bars cols us vs lent.list lent.indices lent.numbers
  unfolding second_barred_tests checks_barred
  barred_can_find passed =
      let t = (then_iff _ _).0 passed in
      let p = (then_iff _ _).0 t.0 in
      let s = (then_iff _ _).0 p.0 in
      let h = (checks_barred_iff n costs bars cols rows us vs).0 ((then_iff _ _).1 ((then_iff _ _).1 (s.0, p.1), t.1)) in
      let f = h.0 in
      let pairing = barred_pairing n costs bars cols rows f in
      can_find n n costs bars cols us vs lent (le_trans f.small sheet_side_within) f.squared f.columns_listed h.1.row_prices h.1.column_prices
      (record { pairing = pairing; feasible = h.1.feasible; tight = h.2; spares = barred_spares pairing }) s.1

module _ (m n : ℕ) (costs : List ℤ) (cols : List ℕ) (us vs : List ℤ) (lent : Lent) where
  pub oblong_can_find : Passes (second_oblong_tests m n costs cols us vs lent) → CanFindIn m n costs [] cols us vs lent.list lent.indices lent.numbers
  unfolding second_oblong_tests checks_oblong
  oblong_can_find passed =
      let t27 = (then_iff _ _).0 passed in
      let t = (then_iff _ _).0 t27.0 in
      let p = (then_iff _ _).0 t.0 in
      let s = (then_iff _ _).0 p.0 in
      let h = (checks_oblong_iff m n costs cols us vs).0 ((then_iff _ _).1 ((then_iff _ _).1 ((then_iff _ _).1 (s.0, p.1), t.1), t27.1)) in
      let f = h.0 in
      can_find m n costs [] cols us vs lent (le_trans f.small sheet_side_within) f.filled f.columns_listed h.1.row_prices h.1.column_prices
      (record { pairing = oblong_pairing m n costs cols f; feasible = h.1.feasible; tight = h.2; spares = h.3 }) s.1
