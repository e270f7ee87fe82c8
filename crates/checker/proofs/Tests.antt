-- What an input that passes the checker's own tests is like, for any night. Assumes nothing.
use mathlib.Core.Path.{◌≡◌, refl, sym, ap, ◌∙◌}
use mathlib.Core.Bool.{Bool, true, false, not, ◌&&◌, true≢false}
use mathlib.Core.Logic.{◌↔◌, ⊎_elim}
use mathlib.Core.List.{List}
use Prim.Native.Nat.{ℕ, ◌*◌, ◌≤◌, ◌<◌}
use native.Mathlib.Decide.{dec_lt}
use native.Mathlib.Omega.{arith}
use borrow.Author.Tests.{ltb-false, le-ltb, eqb-true, eq-eqb, not-true, not-false}
use lib.Dec.{ltb, eqb}
use lib.IntN.{ℤ, pos, ◌-ℤ◌}
use lib.ListN.{length}
use lib.Signed.{lt_z, ◌≤ℤ◌}
use Rattle.ints.proofs.Sums.{dif}
use Rattle.ints.proofs.Ranges.{zarith}
use Rattle.ints.proofs.Tests.{lt_lt_z, le_lt_z, le_or_lt, not_true_false}
use Rattle.lists.specs.Runs.{first}
use Rattle.lists.specs.Permutations.{at}
use Rattle.lists.specs.Counts.{some}
use Rattle.lists.proofs.Counts.{some_read, some_make}
use Rattle.assignment.specs.Pairings.{Night, Spare, signed_at}
use Rattle.assignment.specs.Prices.{priced, Feasible, Tight, SparesNotBelow}
use Rattle.matrix.specs.Limits.{side}
use Rattle.matrix.specs.Tests.{prices_within}
use Rattle.matrix.specs.Verdicts.{Passes}
use Rattle.matrix.proofs.First.{Clear, nowhere, ended}
use Rattle.matrix.proofs.Verdicts.{then_iff, fails_if_iff, fails_at_by_iff, fails_at_iff}
use Rattle.matrix.proofs.Passed.{prices_within_lem}
use Rattle.checker.specs.Tests.{rows_named, slack, over, over_in, under_costs, under_costs_but, loose, tight_on, tight_on_but, rows_fit, used_by, columns_once, spare_below, spares_not_below}
use Rattle.checker.specs.Check.{price_tests}
use Rattle.checker.specs.Asked.{Priced}
use Rattle.checker.specs.Proven.{Fair, FeasibleBut, TightBut}
use Rattle.checker.proofs.Places.{differ_false, differ_same}
use Rattle.checker.proofs.But.{but_clear}

pub rows_named_lem : (n : ℕ) (cols rows : List ℕ) → Passes (rows_named n cols rows) ↔ ((i : ℕ) → i < n → at rows (at cols i) ≡ i)
rows_named_lem n cols rows =
    let t = fails_at_iff _ _ _ _ in
    (λ e i l. eqb-true (at rows (at cols i)) i (not-false _ (t.0 e i l)), λ h. t.1 (λ i l. ap not (eq-eqb (at rows (at cols i)) i (h i l))))

-- ---- a test of a place that counts only where it is allowed

and_false : (a b : Bool) → (a && b) ≡ false → a ≡ true → b ≡ false
and_false true b e f = e
and_false false b e f = absurd (true≢false (sym f))

false_and : (a b : Bool) → (a ≡ true → b ≡ false) → (a && b) ≡ false
false_and true b f = f refl
false_and false b f = refl

-- No test holds at any place below n exactly if the first place of it is not below n.
none_iff : (n : ℕ) (test : ℕ → Bool) → (ltb (first n test) n ≡ false) ↔ Clear test n
none_iff n test = (
  λ e. nowhere test n (ltb-false (first n test) n e),
  λ clear. le-ltb (first n test) n (omega (arith, ended test n n refl clear)),
)

-- There is no slack exactly if the prices are the cost.
none : (cost prices : ℤ) → cost -ℤ prices ≡ pos 0 → prices ≡ cost
none cost prices e = omega (zarith, dif cost prices)

no_slack : (cost prices : ℤ) → prices ≡ cost → cost -ℤ prices ≡ pos 0
no_slack cost prices e = omega (zarith, dif cost prices)

module _ (night : Night) (us vs : List ℤ) where
  -- A row has no place over the cost exactly if its price and any column's are at most the cost, where the place is allowed.
  row_under : (i : ℕ) → (over_in night us vs i ≡ false)
      ↔ ((j : ℕ) → j < night.column_count → night.allowed i j ≡ true → priced us vs i j ≤ℤ night.cost i j)
  row_under i =
      let row = none_iff night.column_count (over night us vs i) in (
        λ e j m allowed.
            let below = and_false _ (lt_z (slack night us vs i j) (pos 0)) (row.0 e j m) allowed in
            omega (zarith, dif (night.cost i j) (priced us vs i j)),
        λ f. row.1 (λ j m. false_and _ _ (λ allowed. let h = f j m allowed in le_lt_z (slack night us vs i j) (pos 0) (omega (zarith, dif (night.cost i j) (priced us vs i j))))),
      )

  row_met : (cols : List ℕ) (i : ℕ) → (loose night cols us vs i ≡ false) ↔ (priced us vs i (at cols i) ≡ night.cost i (at cols i))
  row_met cols i = (λ e. none _ _ (differ_false _ _ e), λ h. differ_same _ _ (no_slack _ _ h))

  pub under_costs_lem : Passes (under_costs night us vs) ↔ Feasible night us vs
  under_costs_lem =
      let t = fails_at_by_iff _ _ _ _ _ in
      (λ e. record { under = λ i j l m allowed. (row_under i).0 (t.0 e i l) j m allowed }, λ f. t.1 (λ i l. (row_under i).1 (λ j m allowed. f.under i j l m allowed)))

  pub tight_on_lem : (cols : List ℕ) → Passes (tight_on night cols us vs) ↔ Tight night us vs cols
  tight_on_lem cols =
      let t = fails_at_by_iff _ _ _ _ _ in
      (λ e. record { met = λ i l. (row_met cols i).0 (t.0 e i l) }, λ h. t.1 (λ i l. (row_met cols i).1 (h.met i l)))

  -- The same, leaving out row s.
  module _ (s : ℕ) where
    pub under_costs_but_lem : Passes (under_costs_but s night us vs) ↔ FeasibleBut s night us vs
    under_costs_but_lem =
        let t = fails_at_by_iff _ _ _ _ _ in
        let b = but_clear s (over_in night us vs) night.row_count in (
          λ e. record { under = λ i j l d m allowed. (row_under i).0 (b.0 (t.0 e) i l d) j m allowed },
          λ f. t.1 (b.1 (λ i l d. (row_under i).1 (λ j m allowed. f.under i j l d m allowed))),
        )

    pub tight_on_but_lem : (cols : List ℕ) → Passes (tight_on_but s night cols us vs) ↔ TightBut s night us vs cols
    tight_on_but_lem cols =
        let t = fails_at_by_iff _ _ _ _ _ in
        let b = but_clear s (loose night cols us vs) night.row_count in
        (λ e. record { met = λ i l d. (row_met cols i).0 (b.0 (t.0 e) i l d) }, λ h. t.1 (b.1 (λ i l d. (row_met cols i).1 (h.met i l d))))

-- 8, 9 and 10 are passed exactly by fair prices that are tight on the pairing.
pub price_tests_iff : (night : Night) (cols : List ℕ) (us vs : List ℤ) → night.row_count ≤ length us → night.column_count ≤ length vs
    → Passes (price_tests night cols us vs) ↔ (Fair night us vs × Tight night us vs cols)
price_tests_iff night cols us vs rows columns = (
  λ e.
      let t10 = (then_iff _ _).0 e in
      let t9 = (then_iff _ _).0 t10.0 in
      let w = (prices_within_lem night.row_count night.column_count us vs).0 t9.0 in (
        record {
          row_prices = record { enough = rows; within = w.0 };
          column_prices = record { enough = columns; within = w.1 };
          feasible = (under_costs_lem night us vs).0 t9.1;
        },
        (tight_on_lem night us vs cols).0 t10.1,
      ),
  λ h.
      let f = h.0 in
      let t9 = (then_iff _ _).1 ((prices_within_lem night.row_count night.column_count us vs).1 (f.row_prices.within, f.column_prices.within), (under_costs_lem night us vs).1 f.feasible) in
      (then_iff _ _).1 (t9, (tight_on_lem night us vs cols).1 h.1),
)

-- ---- an oblong night

pub rows_fit_lem : (m n : ℕ) → Passes (rows_fit m n) ↔ (m ≤ n)
rows_fit_lem m n = let t = fails_if_iff _ _ _ in (λ e. ltb-false n m (t.0 e), λ h. t.1 (le-ltb n m h))

-- A column that one of the rows has, and one that none has.
used : (cols : List ℕ) (count j i : ℕ) → i < count → at cols i ≡ j → used_by cols count j ≡ true
used cols count j i l e = some_make count (λ k. eqb (at cols k) j) i l (eq-eqb (at cols i) j e)

not_used : (cols : List ℕ) (count j : ℕ) → ((i : ℕ) → i < count → at cols i ≡ j → ⊥) → used_by cols count j ≡ false
not_used cols count j none = not_true_false (λ t. let s = some_read count (λ k. eqb (at cols k) j) t in none s.0 s.1 (eqb-true (at cols s.0) j s.2))

pub columns_once_lem : (m : ℕ) (cols : List ℕ) → Passes (columns_once m cols) ↔ ((i k : ℕ) → i < m → k < m → at cols i ≡ at cols k → i ≡ k)
columns_once_lem m cols = (
  λ e i k l h same. by e i k l h same (dec_lt i k) (dec_lt k i),
  λ once. t.1 (λ i l. not_used cols i (at cols i) (λ k h same. let q = once k i (omega arith) l same in omega arith)),
)
  where
    t : Passes (columns_once m cols) ↔ Clear (λ i. used_by cols i (at cols i)) m
    t = fails_at_iff _ _ _ _

    by : Passes (columns_once m cols) → (i k : ℕ) → i < m → k < m → at cols i ≡ at cols k → Dec (i < k) → Dec (k < i) → i ≡ k
    by e i k l h same (yes b) c = absurd (true≢false (sym (used cols k (at cols k) i b same) ∙ t.0 e k h))
    by e i k l h same (no b) (yes c) = absurd (true≢false (sym (used cols i (at cols i) k c (sym same)) ∙ t.0 e i l))
    by e i k l h same (no b) (no c) = omega arith

-- 27 is passed exactly where no spare column's price is below a used one's.
module _ (night : Night) (cols : List ℕ) (vs : List ℤ) where
  abbrev m : ℕ
  m = night.row_count

  abbrev above : ℕ → ℕ → Bool
  above j i = lt_z (signed_at vs j) (signed_at vs (at cols i))

  not_below_spare : (j : ℕ) → spare_below m cols vs j ≡ false → Spare night cols j → (i : ℕ) → i < m → signed_at vs (at cols i) ≤ℤ signed_at vs j
  not_below_spare j e spare i l =
      let none = and_false (not (used_by cols m j)) (some m (above j)) e (ap not (not_used cols m j spare)) in
      ⊎_elim (λ h. h) (λ b. absurd (true≢false (sym (some_make m (above j) i l (lt_lt_z (signed_at vs j) (signed_at vs (at cols i)) b)) ∙ none)))
      (le_or_lt (signed_at vs (at cols i)) (signed_at vs j))

  spare_not_below : (j : ℕ) → (Spare night cols j → (i : ℕ) → i < m → signed_at vs (at cols i) ≤ℤ signed_at vs j) → spare_below m cols vs j ≡ false
  spare_not_below j h =
      false_and (not (used_by cols m j)) (some m (above j)) (λ e.
      let none = not-true (used_by cols m j) e in
      let spare : Spare night cols j = λ i l same. true≢false (sym (used cols m j i l same) ∙ none) in
      not_true_false (λ t. let s = some_read m (above j) t in let b = s.2 in omega (zarith, h spare s.0 s.1)))

  pub spares_not_below_lem : Passes (spares_not_below m night.column_count cols vs) ↔ SparesNotBelow night vs cols
  spares_not_below_lem =
      let t = fails_at_iff _ _ _ _ in (
        λ e. record { not_below = λ i j l h spare. not_below_spare j (t.0 e j h) spare i l },
        λ s. t.1 (λ j h. spare_not_below j (λ spare i l. s.not_below i j l h spare)),
      )

-- Past 8, the costs and the prices are those of a night that 9 and 10 read.
pub prices_passed : (m n : ℕ) (costs us vs : List ℤ) → m ≤ side → n ≤ side → length costs ≡ m * n → m ≤ length us → n ≤ length vs → Passes (prices_within m n us vs) → Priced m n costs us vs
prices_passed m n costs us vs h k filled rows columns e =
    let w = (prices_within_lem m n us vs).0 e in
    record { rows_small = h; small = k; filled = filled; row_prices = record { enough = rows; within = w.0 }; column_prices = record { enough = columns; within = w.1 } }
