-- The whole run, at any side up to the free mark: its columns and rows name each other, its prices are feasible, tight and within their bounds, and so
-- its pairing is least; its counts lie where they must. Assumes nothing.
use mathlib.Core.Path.{◌≡◌, refl, sym, ap, subst}
use mathlib.Core.Logic.{◌≢◌}
use mathlib.Core.List.{List, [], ◌∷◌}
use Prim.Native.Nat.{ℕ, zero, suc, ◌+◌, ◌*◌, ◌≤◌, ◌<◌}
use native.Mathlib.Decide.{ℕ_discrete}
use native.Mathlib.Omega.{arith}
use lib.IntN.{ℤ, pos, ◌-ℤ◌, +ℤ_idl}
use lib.Signed.{◌≤ℤ◌}
use Rattle.ints.specs.Parts.{Within}
use Rattle.ints.proofs.Shapes.{zlin}
use Rattle.lists.specs.Runs.{turns, upward, downward, until}
use Rattle.lists.specs.Sums.{sum}
use Rattle.lists.specs.Permutations.{at, table}
use Rattle.lists.proofs.Tables.{length-table, get_d_table}
use Rattle.assignment.specs.Pairings.{Pairing, Least, Named, square, signed_at}
use Rattle.assignment.specs.Prices.{Feasible, Tight}
use Rattle.assignment.proofs.Square.{square_prices_least, square_named_pairing, square_named_back}
use Rattle.rules.specs.Lowest.{reduced, lowest, least_but}
use Rattle.rules.specs.Columns.{free, Pairs, claims, transfers, column_reduction}
use Rattle.rules.specs.Rows.{looks, row_reduction}
use Rattle.rules.specs.Augmentation.{augments, augmentation}
use Rattle.rules.specs.Run.{stages, Result, prices_of_rows, run}
use Rattle.rules.specs.Nights.{six}
use Rattle.rules.specs.Right.{Between, Right}
use Rattle.rules.specs.Asked.{AtMinimum, Fair, Paired, Agree}
use Rattle.rules.proofs.Prices.{NotBelow, minimum_pays}
use Rattle.rules.proofs.Sizes.{total_within}
use Rattle.rules.proofs.Lowering.{bounds_low}
use Rattle.rules.proofs.Kept.{Kept}
use Rattle.rules.proofs.Claims.{best, first, first-cost, first-least, first-low}
use Rattle.rules.proofs.Stages.{StagesRight, stages_right}

-- ---- any state in which every row is paired and sits at its minimum

module _ (n : ℕ) (costs : List ℤ) (p : Pairs) (v : List ℤ) (A : Agree n p) (F : Fair n (square n costs).cost (signed_at v) (at p.rows))
    (all : (i : ℕ) → i < n → Paired p i) where
  abbrev cost : ℕ → ℕ → ℤ
  cost = (square n costs).cost

  abbrev u : List ℤ
  u = prices_of_rows n cost p.cols v

  u_is : (i : ℕ) → i < n → signed_at u i ≡ reduced cost (signed_at v) i (at p.cols i)
  u_is i l = get_d_table n (λ i. reduced cost (signed_at v) i (at p.cols i)) (pos 0) i l

  pub paired-minimum : (i : ℕ) → i < n → AtMinimum n cost (signed_at v) i (at p.cols i)
  paired-minimum i l =
      subst (λ (y : ℕ). AtMinimum n cost (signed_at v) y (at p.cols i)) (all i l)
      (F.paired_at_minimum (at p.cols i) (A.cols_below i l) (omega (arith, all i l)))

  pub all_named : Named (square n costs) p.cols p.rows
  all_named = record { inside = A.cols_below; back = all }

  pub all_feasible : Feasible (square n costs) u v
  all_feasible = record { under = λ i j l m e. omega (zlin, u_is i l, (paired-minimum i l).no_less j m) }

  pub all_tight : Tight (square n costs) u v p.cols
  all_tight = record { met = λ i l. omega (zlin, u_is i l) }

  pub all_pairing : Pairing (square n costs) p.cols
  all_pairing = square_named_pairing n costs p.cols p.rows A.cols_size all_named

  pub all_least : Least (square n costs) p.cols
  all_least = square_prices_least n costs u v all_feasible p.cols all_pairing all_tight

-- ---- the bounds of prices

module _ (n : ℕ) (cost : ℕ → ℕ → ℤ) (one : 1 ≤ n) (K : ℕ) (costs : (i j : ℕ) → Within K (cost i j)) (p : Pairs) (v : List ℤ)
    (κ : Kept n cost K costs (first n cost one) p v) where
  -- Column prices are in -5K..K.
  pub column_price_between : (k : ℕ) → k < n → Between (5 * K) K (signed_at v k)
  column_price_between k l =
      let i = best n cost one k in
      record { low = (bounds_low n cost K costs (signed_at v) κ.bounds k l).low; high = omega (zlin, κ.not_risen k l, first-cost n cost one k, costs i k) }

  another : 2 ≤ n → (a : ℕ) → (k : ℕ) × (k < n) × (k ≢ a)
  another l a = elim (ℕ_discrete a 0) [ yes e ↦ (1, omega arith, λ z. omega arith) | no d ↦ (0, omega arith, λ z. d (sym z)) ]

  -- Some column is at -3K or more.
  some-three : (k : ℕ) × (k < n) × NotBelow (3 * K) (signed_at v k)
  some-three = elim (ℕ_discrete n 1) [
    | yes e ↦ (0, one, record { low = omega (zlin, κ.single e 0 one, (first-low n cost one K costs 0).low) })
    | no d ↦ let o = another (omega arith) κ.bounds.one in (o.0, o.1, κ.bounds.others_low o.0 o.1 o.2)
  ]

  -- Row prices are in 0..4K.
  pub row_price_between : (i j : ℕ) → i < n → j < n → AtMinimum n cost (signed_at v) i j → Between 0 (4 * K) (reduced cost (signed_at v) i j)
  row_price_between i j l m M =
      let t = some-three in
      let pays = minimum_pays n cost K costs (signed_at v) i j t.0 (3 * K) t.1 t.2 M in
      let paid : signed_at v j ≤ℤ cost i j = omega (zlin, κ.not_risen j m, first-least n cost one i j l) in
      between (reduced cost (signed_at v) i j) pays (omega zlin)
    where
      between : (z : ℤ) → z ≤ℤ pos (K + 3 * K) → pos 0 ≤ℤ z → Between 0 (4 * K) z
      between z h g = record { low = omega zlin; high = omega zlin }

-- ---- the run

module _ (n : ℕ) (costs : List ℤ) (K : ℕ) (within : (k : ℕ) → Within K (signed_at costs k)) where
  abbrev cost' : ℕ → ℕ → ℤ
  cost' = (square n costs).cost

  module _ (one : 1 ≤ n) (room : n ≤ free) where
    stages_are : StagesRight n cost' one K (λ i j. within (i * n + j)) (stages n cost')
    stages_are = stages_right n cost' one K (λ i j. within (i * n + j)) room

    one_right : Right n costs K (run n costs)
    unfolding run
    one_right =
        let L = stages_are.last in
        let κ = L.kept in
        let x = (stages n cost').last in
        let p = x.pairs in
        let v = x.prices in
        let named = all_named n costs p v κ.agree κ.fair L.all_paired in
        record {
          cols_size = κ.agree.cols_size;
          rows_size = κ.agree.rows_size;
          row_prices_size = length-table n (λ i. reduced cost' (signed_at v) i (at p.cols i));
          column_prices_size = κ.prices_size;
          named = named;
          named_back = square_named_back n costs p.cols p.rows named;
          pairing = all_pairing n costs p v κ.agree κ.fair L.all_paired;
          feasible = all_feasible n costs p v κ.agree κ.fair L.all_paired;
          tight = all_tight n costs p v κ.agree κ.fair L.all_paired;
          least = all_least n costs p v κ.agree κ.fair L.all_paired;
          column_prices_between = column_price_between n cost' one K (λ i j. within (i * n + j)) p v κ;
          row_prices_between = λ i l.
              subst (Between 0 (4 * K)) (sym (get_d_table n (λ i. reduced cost' (signed_at v) i (at p.cols i)) (pos 0) i l))
              (row_price_between n cost' one K (λ i j. within (i * n + j)) p v κ i (at p.cols i) l (κ.agree.cols_below i l)
              (paired-minimum n costs p v κ.agree κ.fair L.all_paired i l));
          total_is = refl;
          total_near = total_within n costs K within p.cols;
          counts_right = stages_are.counts;
        }

-- ---- sides 0 and 1

-- Side 0: nothing, total 0, counts 0.
abbrev pub nothing : Result
nothing = record { cols = []; rows = []; prices_of_rows = []; prices_of_columns = []; total = pos 0; counts = six 0 0 0 0 0 0 }

pub side_zero : (costs : List ℤ) → run 0 costs ≡ nothing
unfolding turns upward downward until table sum lowest least_but claims transfers column_reduction looks row_reduction augments augmentation stages run
side_zero costs = refl

nothing_right : (costs : List ℤ) (K : ℕ) → Right 0 costs K nothing
unfolding sum
nothing_right costs K =
    let named : Named (square 0 costs) [] [] = record { inside = λ i l. absurd (omega arith); back = λ i l. absurd (omega arith) } in
    let feasible : Feasible (square 0 costs) [] [] = record { under = λ i j l m e. absurd (omega arith) } in
    let tight : Tight (square 0 costs) [] [] [] = record { met = λ i l. absurd (omega arith) } in
    let pairing : Pairing (square 0 costs) [] = square_named_pairing 0 costs [] [] refl named in
    record {
      cols_size = refl;
      rows_size = refl;
      row_prices_size = refl;
      column_prices_size = refl;
      named = named;
      named_back = named;
      pairing = pairing;
      feasible = feasible;
      tight = tight;
      least = square_prices_least 0 costs [] [] feasible [] pairing tight;
      column_prices_between = λ k l. absurd (omega arith);
      row_prices_between = λ i l. absurd (omega arith);
      total_is = refl;
      total_near = record { low = omega arith; high = omega arith };
      counts_right = record {
        free_few = omega arith;
        one_least = omega arith;
        one_most = omega arith;
        left_one_few = omega arith;
        two_least = omega arith;
        two_most = omega arith;
        left_few = omega arith;
        scanned_few = omega arith;
      };
    }

-- Side 1: "v is the cost and the row price 0"; no look.
pub record SideOne (c : ℤ) (a : Result) : Type 0 where
  pub cols_are : a.cols ≡ 0 ∷ []
  pub rows_are : a.rows ≡ 0 ∷ []
  pub row_prices_are : a.prices_of_rows ≡ pos 0 ∷ []
  pub column_prices_are : a.prices_of_columns ≡ c ∷ []
  pub total_is : a.total ≡ c
  pub counts_are : a.counts ≡ six 0 0 0 0 0 0

pub side_one : (c : ℤ) → SideOne c (run 1 (c ∷ []))
unfolding turns upward downward until table sum lowest least_but claims transfers column_reduction looks row_reduction augments augmentation stages run
side_one c = record {
  cols_are = refl;
  rows_are = refl;
  row_prices_are = ap (λ (z : ℤ). z ∷ []) (nothing_left c);
  column_prices_are = refl;
  total_is = +ℤ_idl c;
  counts_are = refl;
}
  where
    nothing_left : (z : ℤ) → z -ℤ z ≡ pos 0
    nothing_left z = omega zlin

-- ---- THE RUN, at any side up to the free mark and any bound K of the costs

pub run_right : (n : ℕ) (costs : List ℤ) (K : ℕ) → ((k : ℕ) → Within K (signed_at costs k)) → n ≤ free → Right n costs K (run n costs)
run_right zero costs K within room = subst (Right 0 costs K) (sym (side_zero costs)) (nothing_right costs K)
run_right (suc n) costs K within room = one_right (suc n) costs K within (omega arith) room

-- All prices lie within 10K, as the checker asks.
pub right_within_ten : (n : ℕ) (costs : List ℤ) (K : ℕ) (a : Result) → Right n costs K a
    → ((i : ℕ) → i < n → Within (10 * K) (signed_at a.prices_of_rows i)) × ((j : ℕ) → j < n → Within (10 * K) (signed_at a.prices_of_columns j))
right_within_ten n costs K a R = (λ i l. omega (arith, R.row_prices_between i l), λ j l. omega (arith, R.column_prices_between j l))
