-- The slack that a refusal carries: negative with a 9, positive with a 10 (a paired place that is over the cost would have been refused as a
-- 9), 0 with all others; and within 21K, since costs and prices have been tested before. Assumes nothing.
use mathlib.Core.Path.{◌≡◌, refl, sym, ◌∙◌}
use mathlib.Core.Bool.{Bool, true, false, ◌&&◌, true≢false}
use mathlib.Core.Logic.{⊎_elim}
use mathlib.Core.List.{List, []}
use Prim.Native.Nat.{ℕ, ◌*◌, ◌<◌}
use native.Mathlib.Omega.{arith}
use borrow.Author.Tests.{ltb-true}
use lib.Dec.{lit<}
use lib.IntN.{ℤ, pos}
use lib.ListN.{length}
use lib.Signed.{lt_z, ◌<ℤ◌, ◌≤ℤ◌}
use Rattle.ints.specs.Parts.{Within}
use Rattle.ints.proofs.Sums.{sum, dif}
use Rattle.ints.proofs.Ranges.{zarith, within_mono}
use Rattle.ints.proofs.Tests.{le_or_lt}
use Rattle.lists.specs.Permutations.{at}
use Rattle.lists.proofs.Runs.{first_holds}
use Rattle.assignment.specs.Pairings.{Night, square, signed_at}
use Rattle.assignment.specs.Prices.{priced}
use Rattle.matrix.specs.Limits.{K}
use Rattle.matrix.specs.Verdicts.{Passes, fails_if, fails_at}
use Rattle.matrix.specs.Refusals.{number}
use Rattle.matrix.specs.declared.refusals.Reason.{Reason}
use Rattle.matrix.specs.declared.refusals.Reason.TheVariants.{PricesOverCost, PricesNotCost}
use Rattle.matrix.specs.Tests.{prices_within}
use Rattle.matrix.specs.declared.refusals.Refusal.{Refusal}
use Rattle.std.specs.Prelude.{Err}
use Rattle.matrix.proofs.Places.{place_in, place-below}
use Rattle.matrix.proofs.Verdicts.{then_iff, Every, then_every, fails_by_every, fails_at_by_every, refused_every}
use Rattle.matrix.proofs.Passed.{shaped_iff, costs_within_lem, columns_inside_lem, prices_within_lem}
use Rattle.bars.specs.Barred.{night_of, barred}
use Rattle.bars.proofs.Passed.{barred_most_small, costs_small_lem, none_barred_lem, unbarred_iff}
use Rattle.checker.specs.Tests.{slack, over, over_first, over_in, refused_over, under_costs, differ, loose, refused_loose, tight_on}
use Rattle.checker.specs.Check.{price_tests, checks, check, checks_barred, check_barred, checks_oblong, check_oblong}
use Rattle.checker.specs.Slacks.{SlackRight}
use Rattle.checker.proofs.Places.{differ_same}
use Rattle.checker.proofs.Tests.{under_costs_lem}
use Rattle.checker.proofs.Barred.{shaped_barred_iff}
use Rattle.checker.proofs.Oblong.{shaped_oblong_iff}

-- A refusal that is neither 9 nor 10.
pub neither_right : (reason : Reason) (place : ℕ) → ¬ (number reason ≡ number PricesOverCost) → ¬ (number reason ≡ number PricesNotCost)
    → SlackRight (record { reason = reason; place = place; slack = pos 0 })
neither_right reason place nine ten =
    record { nine_negative = λ e. absurd (nine e); ten_positive = λ e. absurd (ten e); others_none = λ e f. refl; within = omega zarith }

neither_if : (reason : Reason) (place : ℕ) (test : Bool) → 10 < number reason → Every SlackRight (fails_if reason place test)
neither_if reason place test l = fails_by_every SlackRight reason place (pos 0) test (λ e. neither_right reason place (λ s. omega arith) (λ s. omega arith))

pub neither_at : (reason : Reason) (place : ℕ → ℕ) (n : ℕ) (test : ℕ → Bool) → 10 < number reason → Every SlackRight (fails_at reason place n test)
neither_at reason place n test l =
    fails_at_by_every SlackRight reason place (λ k. pos 0) n test (λ k h e clear. neither_right reason (place k) (λ s. omega arith) (λ s. omega arith))

none_right : (reason : Reason) (place : ℕ) → number reason < 9 → SlackRight (record { reason = reason; place = place; slack = pos 0 })
none_right reason place l = neither_right reason place (λ e. omega arith) (λ e. omega arith)

pub none_if : (reason : Reason) (place : ℕ) (test : Bool) → number reason < 9 → Every SlackRight (fails_if reason place test)
none_if reason place test l = fails_by_every SlackRight reason place (pos 0) test (λ e. none_right reason place l)

pub none_at : (reason : Reason) (place : ℕ → ℕ) (n : ℕ) (test : ℕ → Bool) → number reason < 9 → Every SlackRight (fails_at reason place n test)
none_at reason place n test l = fails_at_by_every SlackRight reason place (λ k. pos 0) n test (λ k h e clear. none_right reason (place k) l)

nine_right : (place : ℕ) (slack : ℤ) → slack <ℤ pos 0 → Within (21 * K) slack → SlackRight (record { reason = PricesOverCost; place = place; slack = slack })
nine_right place slack l w = record { nine_negative = λ e. l; ten_positive = λ e. absurd (omega arith); others_none = λ e f. absurd (e refl); within = w }

ten_right : (place : ℕ) (slack : ℤ) → pos 0 <ℤ slack → Within (21 * K) slack → SlackRight (record { reason = PricesNotCost; place = place; slack = slack })
ten_right place slack l w = record { nine_negative = λ e. absurd (omega arith); ten_positive = λ e. l; others_none = λ e f. absurd (f refl); within = w }

and_right : (a b : Bool) → (a && b) ≡ true → b ≡ true
and_right true b e = e
and_right false b e = absurd (true≢false (sym e))

-- What is not 0 and not below it is above it.
above : (z : ℤ) → pos 0 ≤ℤ z → differ z (pos 0) ≡ true → pos 0 <ℤ z
above z h e = ⊎_elim (λ l. absurd (true≢false (sym e ∙ differ_same z (pos 0) (omega zarith)))) (λ l. l) (le_or_lt z (pos 0))

-- A list whose columns are the night's, each allowed to its row.
abbrev pub Inside : Night → List ℕ → Type 0
Inside night cols = (i : ℕ) → i < night.row_count → (at cols i < night.column_count) × (night.allowed i (at cols i) ≡ true)

-- A night whose costs are within K.
module _ (night : Night) (us vs : List ℤ) (costs : (i j : ℕ) → i < night.row_count → j < night.column_count → Within K (night.cost i j)) where
  -- Past 8 the slack of every place is within 21K.
  pub slack_within : Passes (prices_within night.row_count night.column_count us vs) → (i j : ℕ) → i < night.row_count → j < night.column_count
      → Within (21 * K) (slack night us vs i j)
  slack_within e i j l m =
      let p = (prices_within_lem night.row_count night.column_count us vs).0 e in
      let c = costs i j l m in
      let u = p.0 i l in
      let v = p.1 j m in
      omega (zarith, dif (night.cost i j) (priced us vs i j), sum (signed_at us i) (signed_at vs j), c, u, v)

  -- 9 and 10, in the first row that a test names: any test that holds only of rows with such a place.
  pub over_slacks : (test : ℕ → Bool) → ((i : ℕ) → test i ≡ true → over_in night us vs i ≡ true)
      → Passes (prices_within night.row_count night.column_count us vs) → Every SlackRight (refused_over night us vs test)
  over_slacks test holds-in e =
      fails_at_by_every SlackRight _ _ _ _ _ (λ i l t clear.
      let j = over_first night us vs i in
      let m = ltb-true j night.column_count (holds-in i t) in
      let holds = and_right (night.allowed i j) (lt_z (slack night us vs i j) (pos 0)) (first_holds (over night us vs i) night.column_count m) in
      nine_right _ (slack night us vs i j) (omega (zarith, holds)) (slack_within e i j l m))

  pub loose_slacks : (cols : List ℕ) → Inside night cols → (test : ℕ → Bool) → ((i : ℕ) → test i ≡ true → loose night cols us vs i ≡ true)
      → ((i : ℕ) → i < night.row_count → test i ≡ true → priced us vs i (at cols i) ≤ℤ night.cost i (at cols i))
      → Passes (prices_within night.row_count night.column_count us vs) → Every SlackRight (refused_loose night cols us vs test)
  loose_slacks cols inside test holds under e =
      fails_at_by_every SlackRight _ _ _ _ _ (λ i l t clear.
      let j = at cols i in
      let u = under i l t in
      ten_right _ (slack night us vs i j) (above (slack night us vs i j) (omega (zarith, dif (night.cost i j) (priced us vs i j), u)) (holds i t)) (slack_within e i j l (inside i l).0))

  nine_slacks : Passes (prices_within night.row_count night.column_count us vs) → Every SlackRight (under_costs night us vs)
  nine_slacks = over_slacks (over_in night us vs) (λ i t. t)

  ten_slacks : (cols : List ℕ) → Inside night cols → Passes (prices_within night.row_count night.column_count us vs) → Passes (under_costs night us vs)
      → Every SlackRight (tight_on night cols us vs)
  ten_slacks cols inside e f =
      loose_slacks cols inside (loose night cols us vs) (λ i t. t)
      (λ i l t. let p = inside i l in ((under_costs_lem night us vs).0 f).under i (at cols i) l p.0 p.1) e

  pub prices_slacks : (cols : List ℕ) → Inside night cols → Every SlackRight (price_tests night cols us vs)
  prices_slacks cols inside =
      then_every SlackRight _ _
      (then_every SlackRight _ _
      (then_every SlackRight _ _ (none_at _ _ _ _ (lit< tt)) (λ e. none_at _ _ _ _ (lit< tt)))
      nine_slacks)
      (λ e. let t = (then_iff _ _).0 e in ten_slacks cols inside t.0 t.1)

-- A refusal of the checker carries the right slack.
pub check_slacks : (n : ℕ) (costs : List ℤ) (cols rows : List ℕ) (us vs : List ℤ) {refusal : Refusal}
    → check n costs cols rows us vs ≡ Err refusal → SlackRight refusal
unfolding check checks
check_slacks n costs cols rows us vs e =
    refused_every SlackRight _ _
    (then_every SlackRight _ _ (then_every SlackRight _ _ (then_every SlackRight _ _ (none_if _ _ _ (lit< tt)) (λ a. none_if _ _ _ (lit< tt))) (λ a. none_at _ _ _ _ (lit< tt)))
    (λ shape. then_every SlackRight _ _ (then_every SlackRight _ _ (then_every SlackRight _ _ (none_at _ _ _ _ (lit< tt)) (λ a. none_at _ _ _ _ (lit< tt))) (λ a. none_at _ _ _ _ (lit< tt)))
    (λ passed.
    let t6 = (then_iff _ _).0 ((then_iff _ _).0 passed).0 in
    let s = (shaped_iff n costs (length cols) (length rows) (length us) (length vs)).0 shape in
    prices_slacks (square n costs) us vs
    (λ i j l m. (costs_within_lem costs).0 t6.0 _ (omega (arith, place-below n i j l m, s.squared)))
    cols
    (λ i l. ((columns_inside_lem n n cols).0 t6.1 i l, refl)))))
    e

-- So does one of a night with bars.
pub check_barred_slacks : (n : ℕ) (costs : List ℤ) (cols rows : List ℕ) (us vs : List ℤ) (bars : List ℕ) {refusal : Refusal}
    → check_barred n costs cols rows us vs bars ≡ Err refusal → SlackRight refusal
unfolding check_barred checks_barred
check_barred_slacks n costs cols rows us vs bars e =
    refused_every SlackRight _ _
    (then_every SlackRight _ _
    (then_every SlackRight _ _
    (then_every SlackRight _ _ (then_every SlackRight _ _ (then_every SlackRight _ _ (none_if _ _ _ (lit< tt)) (λ a. none_if _ _ _ (lit< tt))) (λ a. none_at _ _ _ _ (lit< tt))) (λ a. none_if _ _ _ (lit< tt)))
    (λ a. then_every SlackRight _ _
    (then_every SlackRight _ _ (then_every SlackRight _ _ (then_every SlackRight _ _ (none_at _ _ _ _ (lit< tt)) (λ b. neither_at _ _ _ _ (lit< tt))) (λ b. none_at _ _ _ _ (lit< tt))) (λ b. none_at _ _ _ _ (lit< tt)))
    (λ b. neither_at _ _ _ _ (lit< tt))))
    (λ passed.
    let t = (then_iff _ _).0 passed in
    let t26 = (then_iff _ _).0 t.1 in
    let t6 = (then_iff _ _).0 ((then_iff _ _).0 t26.0).0 in
    let s = (shaped_barred_iff n costs (length cols) (length rows) (length us) (length vs) (length bars)).0 t.0 in
    prices_slacks (barred n costs bars) us vs
    (λ i j l m. within_mono barred_most_small ((costs_small_lem costs).0 ((then_iff _ _).0 t6.0).0 _ (omega (arith, place-below n i j l m, s.1))))
    cols
    (λ i l. ((columns_inside_lem n n cols).0 t6.1 i l, (unbarred_iff n costs bars cols).0 t26.1 i l))))
    e

-- And one of an oblong night.
pub check_oblong_slacks : (m n : ℕ) (costs : List ℤ) (cols : List ℕ) (us vs : List ℤ) {refusal : Refusal}
    → check_oblong m n costs cols us vs ≡ Err refusal → SlackRight refusal
unfolding check_oblong checks_oblong
check_oblong_slacks m n costs cols us vs e =
    refused_every SlackRight _ _
    (then_every SlackRight _ _
    (then_every SlackRight _ _
    (then_every SlackRight _ _
    (then_every SlackRight _ _
    (then_every SlackRight _ _
    (then_every SlackRight _ _ (then_every SlackRight _ _ (then_every SlackRight _ _ (none_if _ _ _ (lit< tt)) (λ a. neither_if _ _ _ (lit< tt))) (λ a. none_if _ _ _ (lit< tt))) (λ a. none_if _ _ _ (lit< tt)))
    (λ a. none_if _ _ _ (lit< tt)))
    (λ a. none_if _ _ _ (lit< tt)))
    (λ a. then_every SlackRight _ _ (then_every SlackRight _ _ (none_at _ _ _ _ (lit< tt)) (λ b. none_at _ _ _ _ (lit< tt))) (λ b. none_at _ _ _ _ (lit< tt))))
    (λ passed.
    let t = (then_iff _ _).0 passed in
    let t6 = (then_iff _ _).0 ((then_iff _ _).0 t.1).0 in
    let s = (shaped_oblong_iff m n costs (length cols) (length us) (length vs)).0 t.0 in
    prices_slacks (night_of m n costs []) us vs
    (λ i j l h. (costs_within_lem costs).0 t6.0 _ (omega (arith, place_in m n i j l h, s.2)))
    cols
    (λ i l. ((columns_inside_lem m n cols).0 t6.1 i l, none_barred_lem m n costs i (at cols i)))))
    (λ a. neither_at _ _ _ _ (lit< tt)))
    e
