-- Rule 3, second part: the transfer keeps what every stage keeps, and lists the free rows. So rule 3 ends as rule 4 begins. Assumes nothing.
use mathlib.Core.Path.{◌≡◌, refl, sym, ap, ◌∙◌}
use mathlib.Core.Logic.{◌≢◌, inl, inr}
use mathlib.Core.Bool.{cond}
use mathlib.Core.List.{List}
use Prim.Native.Nat.{ℕ, suc, ◌+◌, ◌*◌, ◌≤◌, ◌<◌}
use native.Mathlib.Decide.{ℕ_discrete}
use native.Mathlib.Omega.{arith}
use borrow.Author.Tests.{eqb-true, eqb-false}
use lib.Dec.{eqb}
use lib.IntN.{ℤ, pos}
use lib.Signed.{◌≤ℤ◌, ≤ℤ_refl}
use lib.ListN.{length, set, length-set}
use lib.Seq.{get_or-set_same, get_or-set_other}
use Rattle.std.specs.Prelude.{Option, Some, None}
use Rattle.ints.specs.Parts.{Within}
use Rattle.ints.proofs.Sums.{dif}
use Rattle.ints.proofs.Shapes.{zlin}
use Rattle.lists.specs.Permutations.{at, table}
use Rattle.lists.proofs.Runs.{upward_keeps}
use Rattle.lists.proofs.Tables.{length-table, get_d_table}
use Rattle.lists.proofs.Cases.{cond_cases, here_or_elsewhere}
use Rattle.assignment.specs.Pairings.{signed_at}
use Rattle.rules.specs.Lowest.{reduced, least_but}
use Rattle.rules.specs.Columns.{free, Pairs, Stage, Claims, claims, Transfer, less_least, lower_column, transfer, untransferred, transfers, column_reduction}
use Rattle.rules.specs.Asked.{Agree}
use Rattle.rules.proofs.Lowest.{RightBut, least_but_is}
use Rattle.rules.proofs.Lowering.{Lowers}
use Rattle.rules.proofs.Kept.{Listed, Kept, within_five, step}
use Rattle.rules.proofs.Claims.{first, first-cost, first-least, first-low, first_within, Claimed, claimed_all}

-- A price at its cost, less the least of the other reduced costs.
less_lowers : (n : ℕ) (cost : ℕ → ℕ → ℤ) (v : ℕ → ℤ) (i j : ℕ) → j < n → v j ≡ cost i j → ((k : ℕ) → k < n → v k ≤ℤ cost i k)
    → (o : Option ℤ) → RightBut (reduced cost v i) j n o → Lowers n cost v i j (less_least (v j) o)
less_lowers n cost v i j l e h None r = record {
  column_below = l;
  not_raised = ≤ℤ_refl (v j);
  at_minimum = λ k m d. absurd (d (r k m));
  source = inl refl;
}
less_lowers n cost v i j l e h (Some b) r =
    let k₀ = r.one.0 in
    record {
      column_below = l;
      not_raised = omega (zlin, r.one.3, h k₀ r.one.1);
      at_minimum = λ k m d. omega (zlin, r.no_lower k m d, dif (v j) b);
      source = inr (k₀, r.one.1, r.one.2, omega (zlin, r.one.3, dif (v j) b));
    }

module _ (n : ℕ) (cost : ℕ → ℕ → ℤ) (one : 1 ≤ n) (K : ℕ) (costs : (i j : ℕ) → Within K (cost i j)) where
  abbrev v₀ : ℕ → ℤ
  v₀ = first n cost one

  -- What a stage ends with: all that is kept, and the free rows listed.
  pub record Good (s : Stage) : Type 0 where
    pub kept : Kept n cost K costs v₀ s.pairs s.prices
    pub frees_size : length s.frees ≡ n
    pub count_few : s.count ≤ n
    pub listed : Listed n s.pairs s.frees (λ t. t < s.count)

  module _ (s : Claims) (C : Claimed n cost one 0 s) where
    abbrev pairs : Pairs
    pairs = record { cols = s.cols; rows = s.rows }

    abbrev row : ℕ → ℕ
    row k = at s.rows k

    agree : Agree n pairs
    agree = record {
      cols_size = C.cols_size;
      rows_size = C.rows_size;
      cols_below = C.cols_below;
      named_back = λ k l h. (C.holding k (omega arith) l h).named_back;
    }

    row_cost : (k : ℕ) → k < n → row k < n → v₀ k ≡ cost (row k) k
    row_cost k l h = first-cost n cost one k ∙ ap (λ (i : ℕ). cost i k) (sym (C.holding k (omega arith) l h).is_best)

    -- The rows below m are done; the columns of later rows still have their minimum as price.
    pub record Transferred (m : ℕ) (x : Transfer) : Type 0 where
      pub kept : Kept n cost K costs v₀ pairs x.prices
      pub waiting : (k : ℕ) → k < n → m ≤ row k → signed_at x.prices k ≡ v₀ k
      pub frees_size : length x.frees ≡ n
      pub count_few : x.count ≤ m
      pub listed_below : (t : ℕ) → t < x.count → at x.frees t < m
      pub listed_unmarked : (t : ℕ) → t < x.count → at s.marks (at x.frees t) ≡ 0
      pub once : (t u : ℕ) → t < x.count → u < x.count → at x.frees t ≡ at x.frees u → t ≡ u
      pub unmarked_listed : (i : ℕ) → i < m → at s.marks i ≡ 0 → (t : ℕ) × (t < x.count) × (at x.frees t ≡ i)

    start_kept : (v : List ℤ) → length v ≡ n → ((k : ℕ) → k < n → signed_at v k ≡ v₀ k) → Kept n cost K costs v₀ pairs v
    start_kept v z e = record {
      agree = agree;
      prices_size = z;
      fair = record {
        paired_at_minimum = λ j l h. record {
          no_less = λ k m.
              let i = row j in omega (zlin, e j l, e k m, row_cost j l h, first-least n cost one i k h);
        };
      };
      free_untouched = λ k l m. e k l;
      not_risen = λ k l. omega (zlin, e k l);
      single = λ a k l. e k l;
      bounds = record {
        one = 0;
        one_low = record { low = omega (zlin, e 0 one, (first-low n cost one K costs 0).low) };
        others_low = λ k l d. record { low = omega (zlin, e k l, (first-low n cost one K costs k).low) };
      };
    }

    module _ (m : ℕ) (lm : m < n) (x : Transfer) (T : Transferred m x) where
      -- An unclaimed row joins the free list.
      joins : at s.marks m ≡ 0 → Transferred (suc m) (record { prices = x.prices; frees = set x.frees x.count m; count = x.count + 1 })
      joins z =
          let new = set x.frees x.count m in
          let here : at new x.count ≡ m = get_or-set_same x.frees x.count m 0 (omega (arith, T.count_few, T.frees_size)) in
          let there : (t : ℕ) → t ≢ x.count → at new t ≡ at x.frees t = λ t d. get_or-set_other x.frees x.count t m 0 d in
          let old : (t : ℕ) → t < x.count + 1 → t ≢ x.count → t < x.count = λ t l d. omega arith in
          record {
            kept = T.kept;
            waiting = λ k l h. T.waiting k l (omega arith);
            frees_size = length-set x.frees x.count m ∙ T.frees_size;
            count_few = omega (arith, T.count_few);
            listed_below = here_or_elsewhere (λ t. t < x.count + 1 → at new t < suc m) x.count
                (λ l. omega (arith, here)) (λ t d l. omega (arith, there t d, T.listed_below t (old t l d)));
            listed_unmarked = here_or_elsewhere (λ t. t < x.count + 1 → at s.marks (at new t) ≡ 0) x.count
                (λ l. ap (at s.marks) here ∙ z) (λ t d l. ap (at s.marks) (there t d) ∙ T.listed_unmarked t (old t l d));
            once = λ t u a b e. elim (ℕ_discrete t x.count) [
              | yes y ↦ elim (ℕ_discrete u x.count) [
                | yes y' ↦ omega arith
                | no d ↦ absurd (omega (arith, ap (at new) y, here, there u d, T.listed_below u (old u b d)))
              ]
              | no d ↦ elim (ℕ_discrete u x.count) [
                | yes y ↦ absurd (omega (arith, ap (at new) y, here, there t d, T.listed_below t (old t a d)))
                | no d' ↦ T.once t u (old t a d) (old u b d') (sym (there t d) ∙ e ∙ there u d')
              ]
            ];
            unmarked_listed = here_or_elsewhere (λ i. i < suc m → at s.marks i ≡ 0 → (t : ℕ) × (t < x.count + 1) × (at new t ≡ i)) m
                (λ l a. (x.count, omega arith, here))
                (λ i d l a. let R = T.unmarked_listed i (omega arith) a in (R.0, omega (arith, R.1), there R.0 (λ y. omega (arith, R.1)) ∙ R.2));
          }

      -- A claimed row: the list stays, and so do the prices of columns whose rows come later.
      passes : 1 ≤ at s.marks m → (v : List ℤ) → Kept n cost K costs v₀ pairs v → ((k : ℕ) → k < n → suc m ≤ row k → signed_at v k ≡ signed_at x.prices k)
          → Transferred (suc m) (record { prices = v; frees = x.frees; count = x.count })
      passes z v κ e = record {
        kept = κ;
        waiting = λ k l h. e k l h ∙ T.waiting k l (omega arith);
        frees_size = T.frees_size;
        count_few = omega (arith, T.count_few);
        listed_below = λ t l. omega (arith, T.listed_below t l);
        listed_unmarked = T.listed_unmarked;
        once = T.once;
        unmarked_listed = λ i l a. T.unmarked_listed i (let d : i ≢ m = λ y. omega (arith, ap (at s.marks) y) in omega arith) a;
      }

      -- A unique row lowers its column's price.
      lowers : at s.marks m ≡ 1 → Transferred (suc m) (record { prices = lower_column n cost m (at s.cols m) x.prices; frees = x.frees; count = x.count })
      lowers z =
          let j = at s.cols m in
          let v : ℕ → ℤ = signed_at x.prices in
          let o = least_but n (reduced cost v m) j in
          let lj : j < n = C.cols_below m lm in
          let hj : row j ≡ m = (C.marked_held m lm (omega arith)).1 in
          let vj : v j ≡ v₀ j = T.waiting j lj (omega arith) in
          let ej : v j ≡ cost m j = vj ∙ row_cost j lj (omega arith) ∙ ap (λ (i : ℕ). cost i j) hj in
          let w = less_lowers n cost v m j lj ej (λ k l. omega (zlin, T.kept.not_risen k l, first-least n cost one m k lm)) o (least_but_is n (reduced cost v m) j) in
          passes (omega arith) (set x.prices j (less_least (v j) o))
          (step n cost K costs v₀ (first-low n cost one K costs) pairs x.prices T.kept j (less_least (v j) o) lj
          j lj (record { low = omega (zlin, vj, (first-low n cost one K costs j).low) }) m w pairs agree hj lm (λ k d. refl))
          (λ k l h. get_or-set_other x.prices j k (less_least (v j) o) (pos 0) (λ y. omega (arith, ap row y)))

      pub transferred_more : Transferred (suc m) (transfer n cost s m x)
      transferred_more =
          let a : Transfer = record { prices = x.prices; frees = set x.frees x.count m; count = x.count + 1 } in
          let b : Transfer = record { prices = lower_column n cost m (at s.cols m) x.prices; frees = x.frees; count = x.count } in
          cond_cases (eqb (at s.marks m) 0) (Transferred (suc m)) a (cond (eqb (at s.marks m) 1) b x)
          (λ t. joins (eqb-true (at s.marks m) 0 t))
          (λ t. cond_cases (eqb (at s.marks m) 1) (Transferred (suc m)) b x
          (λ u. lowers (eqb-true (at s.marks m) 1 u))
          (λ u. passes (omega (arith, eqb-false (at s.marks m) 0 t)) x.prices T.kept (λ k l h. refl)))

    pub transferred_none : Transferred 0 (untransferred n cost)
    transferred_none = record {
      kept = start_kept (table n v₀) (length-table n v₀) (λ k h. get_d_table n v₀ (pos 0) k h);
      waiting = λ k h a. get_d_table n v₀ (pos 0) k h;
      frees_size = length-table {A = ℕ} n (λ i. 0);
      count_few = omega arith;
      listed_below = λ t h. absurd (omega arith);
      listed_unmarked = λ t h. absurd (omega arith);
      once = λ t u h. absurd (omega arith);
      unmarked_listed = λ i h. absurd (omega arith);
    }

    pub transferred_all : Transferred n (transfers n cost s)
    unfolding transfers
    transferred_all = upward_keeps Transferred 0 n (transfer n cost s) (untransferred n cost) (omega arith) transferred_none (λ k x a l T. transferred_more k l x T)

    -- At each row the prices lie within 5K.
    pub transferred_within : (m : ℕ) (x : Transfer) → Transferred m x → (k : ℕ) → Within (5 * K) (signed_at x.prices k)
    transferred_within m x T =
        within_five n cost K costs v₀ (first-low n cost one K costs) pairs x.prices T.kept (first_within n cost one K costs)

    -- The unclaimed rows are those with no column.
    transferred_listed : (x : Transfer) → Transferred n x → Listed n pairs x.frees (λ t. t < x.count)
    transferred_listed x T = record {
      row_below = T.listed_below;
      unpaired = λ t l k m e.
          let H = C.holding k (omega arith) m (omega (arith, T.listed_below t l)) in
          omega (arith, H.marked, ap (at s.marks) e, T.listed_unmarked t l);
      once = T.once;
      paired_or_listed = λ i l. elim (ℕ_discrete (at s.marks i) 0) [
        | yes z ↦ inr (T.unmarked_listed i l z)
        | no d ↦ inl (C.marked_held i l (omega arith)).1
      ];
    }

  -- Rule 3 ends as it must.
  pub column_reduction_good : n ≤ free → Good (column_reduction n cost)
  unfolding column_reduction
  column_reduction_good room =
      let s = claims n cost in
      let C = claimed_all n cost one room in
      let T = transferred_all s C in
      record { kept = T.kept; frees_size = T.frees_size; count_few = T.count_few; listed = transferred_listed s C (transfers n cost s) T }
