-- The stages of a run at side 1 or more: each ends as it must, the last with every row paired and all that every stage keeps; the six counts
-- lie where they must. Assumes nothing.
use mathlib.Core.Path.{◌≡◌, ap, ◌∙◌, subst}
use mathlib.Core.Logic.{inl, inr, ⊎_elim}
use Prim.Native.Nat.{ℕ, ◌-◌, ◌*◌, ◌≤◌, ◌<◌}
use native.Mathlib.Nat.{zero-mul}
use native.Mathlib.Omega.{arith}
use lib.IntN.{ℤ}
use Rattle.ints.specs.Parts.{Within}
use Rattle.ints.proofs.Shapes.{zlin}
use Rattle.lists.specs.Permutations.{at}
use Rattle.lists.proofs.Runs.{upward_none}
use Rattle.assignment.specs.Pairings.{signed_at}
use Rattle.rules.specs.Columns.{free, Stage, column_reduction}
use Rattle.rules.specs.Rows.{looks, pass_start, pass_end, row_reduction}
use Rattle.rules.specs.Augmentation.{Progress, augment, augments, augmentation}
use Rattle.rules.specs.Run.{Stages, stages, counts_of}
use Rattle.rules.specs.Right.{CountsRight}
use Rattle.rules.specs.Asked.{Paired, Can}
use Rattle.rules.proofs.Prices.{all_near}
use Rattle.rules.proofs.Kept.{Kept, within_five}
use Rattle.rules.proofs.Claims.{first, first-low, first_within}
use Rattle.rules.proofs.Transfers.{Good, column_reduction_good}
use Rattle.rules.proofs.Passes.{looks_none}
use Rattle.rules.proofs.RowReduction.{PassOf, row_reduction_pass_of}
use Rattle.rules.proofs.Augment.{Gain}
use Rattle.rules.proofs.Augmentation.{Augmented, augmented_can, augmented_and_kept, augmented_paired}

-- A pass over no rows changes nothing, and makes no look.
pub no_rows_no_pass : (n : ℕ) (cost : ℕ → ℕ → ℤ) (s : Stage) → s.count ≡ 0 → row_reduction n cost s ≡ pass_start s
unfolding row_reduction
no_rows_no_pass n cost s e =
    let z : s.count * n ≡ 0 = ap (λ (k : ℕ). k * n) e ∙ zero-mul n in
    ap (λ (m : ℕ). looks n cost s.count m (pass_start s)) z ∙ looks_none n cost s.count (pass_start s)

-- Without free rows there is no search.
pub no_rows_no_search : (n : ℕ) (cost : ℕ → ℕ → ℤ) (s : Stage) → s.count ≡ 0
    → augmentation n cost s ≡ record { pairs = s.pairs; prices = s.prices; scanned = 0 }
unfolding augmentation augments
no_rows_no_search n cost s e =
    upward_none 0 s.count (λ k y. augment n cost y (at s.frees k)) (record { pairs = s.pairs; prices = s.prices; scanned = 0 }) (omega arith)

module _ (n : ℕ) (cost : ℕ → ℕ → ℤ) (one : 1 ≤ n) (K : ℕ) (costs : (i j : ℕ) → Within K (cost i j)) where
  abbrev v₀ : ℕ → ℤ
  v₀ = first n cost one

  -- A search keeps what every stage keeps.
  pub gain_kept : (x : Progress) (s : ℕ) (y : Progress) → Kept n cost K costs v₀ x.pairs x.prices → Gain n cost x s y → Kept n cost K costs v₀ y.pairs y.prices
  gain_kept x s y κ g =
      let f = g.reached_free.0 in
      let lf = g.reached_free.1 in
      let ef : signed_at y.prices f ≡ v₀ f = g.reached_free.3 ∙ κ.free_untouched f lf g.reached_free.2 in
      let untouched : (k : ℕ) → k < n → n ≤ at y.pairs.rows k → signed_at y.prices k ≡ v₀ k =
      λ k l h. (g.free_untouched k l h).1 ∙ κ.free_untouched k l (g.free_untouched k l h).0 in
      let all = all_near n cost K costs (signed_at y.prices) (at y.pairs.rows) f lf (record { low = omega (zlin, ef, (first-low n cost one K costs f).low) }) g.fair
      (λ k l h. record { low = omega (zlin, untouched k l h, (first-low n cost one K costs k).low) }) in
      record {
        agree = g.agree;
        prices_size = g.prices_size;
        fair = g.fair;
        free_untouched = untouched;
        not_risen = λ k l. omega (zlin, g.not_risen k l, κ.not_risen k l);
        single = λ a k l. subst (λ (z : ℕ). signed_at y.prices z ≡ v₀ z) (let e : f ≡ k = omega arith in e) ef;
        bounds = record { one = f; one_low = record { low = omega (arith, (all f lf).low) }; others_low = λ k l d. all k l };
      }

  -- ---- the last stage

  module _ (s : Stage) (G : Good n cost one K costs s) where
    abbrev x₀ : Progress
    x₀ = record { pairs = s.pairs; prices = s.prices; scanned = 0 }

    start_augmented : Augmented n cost s.frees s.count x₀ 0 x₀
    start_augmented = record {
      agree = G.kept.agree;
      prices_size = G.kept.prices_size;
      fair = G.kept.fair;
      listed = record {
        row_below = λ t a. G.listed.row_below t a.1;
        unpaired = λ t a. G.listed.unpaired t a.1;
        once = λ t u a b. G.listed.once t u a.1 b.1;
        paired_or_listed = λ i l. ⊎_elim (λ a. inl a)
            (λ (a : (t : ℕ) × (t < s.count) × (at s.frees t ≡ i)). inr (a.0, (omega arith, a.1), a.2)) (G.listed.paired_or_listed i l);
      };
      scanned_few = omega arith;
    }

    -- After m searches.
    pub augments-kept : (m : ℕ) → m ≤ s.count
        → Augmented n cost s.frees s.count x₀ m (augments n cost s.frees m x₀)
        × Kept n cost K costs v₀ (augments n cost s.frees m x₀).pairs (augments n cost s.frees m x₀).prices
    augments-kept =
        augmented_and_kept n cost s.frees s.count (λ x. Kept n cost K costs v₀ x.pairs x.prices)
        (λ x r κ C g. gain_kept x r (augment n cost x r) κ g) x₀ start_augmented G.kept

    -- What search m finds: a state from which its row can get a column, and prices within 5K.
    pub record SearchReady (m : ℕ) (x : Progress) : Type 0 where
      pub can : Can n cost x (at s.frees m)
      pub prices_within : (k : ℕ) → Within (5 * K) (signed_at x.prices k)
      pub scanned_few : x.scanned ≤ m * (n - 1)

    pub search_ready : (m : ℕ) → m < s.count → SearchReady m (augments n cost s.frees m x₀)
    search_ready m l =
        let x = augments n cost s.frees m x₀ in
        let A = augments-kept m (omega arith) in
        record {
          can = augmented_can n cost s.frees s.count x₀ m x l A.0;
          prices_within = within_five n cost K costs v₀ (first-low n cost one K costs) x.pairs x.prices A.1 (first_within n cost one K costs);
          scanned_few = omega (arith, A.0.scanned_few);
        }

    -- All rows paired, all kept, and at most n - 1 columns scanned for each row left.
    pub record Last (x : Progress) : Type 0 where
      pub all_paired : (i : ℕ) → i < n → Paired x.pairs i
      pub kept : Kept n cost K costs v₀ x.pairs x.prices
      pub scanned_few : x.scanned ≤ s.count * (n - 1)

    pub augmentation-last : Last (augmentation n cost s)
    unfolding augmentation
    augmentation-last =
        let x = augments n cost s.frees s.count x₀ in
        let A = augments-kept s.count (omega arith) in
        record { all_paired = augmented_paired n cost s.frees s.count x₀ x A.0; kept = A.1; scanned_few = omega (arith, A.0.scanned_few) }

  -- ---- the run

  pub record StagesRight (r : Stages) : Type 0 where
    pub columns_good : Good n cost one K costs r.columns
    pub pass_one : PassOf n cost one K costs r.columns r.pass_one
    pub pass_two : PassOf n cost one K costs (pass_end r.pass_one) r.pass_two
    pub last : Last (pass_end r.pass_two) pass_two.good r.last
    pub counts : CountsRight n (counts_of r)

  pub stages_right : n ≤ free → StagesRight (stages n cost)
  unfolding stages
  stages_right room =
      let s = column_reduction n cost in
      let G = column_reduction_good n cost one K costs room in
      let a = row_reduction n cost s in
      let Q = row_reduction_pass_of n cost one K costs s G in
      let R = row_reduction_pass_of n cost one K costs (pass_end a) Q.good in
      let L = augmentation-last (pass_end (row_reduction n cost (pass_end a))) R.good in
      record {
        columns_good = G;
        pass_one = Q;
        pass_two = R;
        last = L;
        counts = record {
          free_few = G.count_few;
          one_least = Q.looks_least;
          one_most = Q.looks_most;
          left_one_few = Q.left_fewer;
          two_least = R.looks_least;
          two_most = R.looks_most;
          left_few = R.left_fewer;
          scanned_few = L.scanned_few;
        };
      }
