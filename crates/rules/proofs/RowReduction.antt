-- Rule 4, whole passes: F * n turns are enough, a pass ends as it must, and what the code needs at each look. Assumes nothing.
use mathlib.Core.Path.{◌≡◌, refl, sym, ap, ◌∙◌}
use mathlib.Core.Logic.{◌⊎◌, inl, inr, ⊎_elim}
use mathlib.Core.Bool.{cond}
use Prim.Native.Nat.{ℕ, suc, ◌+◌, ◌-◌, ◌*◌, ◌≤◌, ◌<◌}
use native.Mathlib.Nat.{mul-le-mul_right}
use native.Mathlib.Numerals.{add-one}
use native.Mathlib.Omega.{arith}
use borrow.Author.Tests.{ltb-true, ltb-false}
use lib.Dec.{ltb}
use lib.IntN.{ℤ}
use lib.ListN.{length}
use Rattle.ints.specs.Parts.{Within}
use Rattle.lists.specs.Permutations.{at}
use Rattle.lists.proofs.Runs.{upward_keeps}
use Rattle.lists.proofs.Cases.{cond_cases, lt_or_le}
use Rattle.assignment.specs.Pairings.{signed_at}
use Rattle.rules.specs.Columns.{Stage}
use Rattle.rules.specs.Rows.{Passing, look, looks, pass_start, pass_end, row_reduction}
use Rattle.rules.proofs.Kept.{within_five}
use Rattle.rules.proofs.Claims.{first, first-low, first_within}
use Rattle.rules.proofs.Transfers.{Good}
use Rattle.rules.proofs.Passes.{looks_rest, Passed, look_passed}

module _ (n : ℕ) (cost : ℕ → ℕ → ℤ) (one : 1 ≤ n) (K : ℕ) (costs : (i j : ℕ) → Within K (cost i j)) where
  module _ (F : ℕ) (lF : F ≤ n) where
    abbrev P : ℕ → Passing → Type 0
    P = Passed n cost one K costs F lF

    -- A turn after the last row is done.
    stays : (m : ℕ) (x : Passing) → P m x → F ≤ x.pass.current → P (suc m) x
    stays m x X h = record {
      kept = X.kept;
      frees_size = X.frees_size;
      left_few = X.left_few;
      current_few = X.current_few;
      listed = X.listed;
      looks_least = X.looks_least;
      looks_most = X.looks_most;
      looks_now = X.looks_now;
      each_looks = inr h;
    }

    pub looks_passed : (x : Passing) → P 0 x → (m : ℕ) → P m (looks n cost F m x)
    unfolding looks
    looks_passed x X m =
        upward_keeps P 0 m (λ k y. cond (ltb y.pass.current F) (look n cost y) y) x (omega arith) X
        (λ k y a l Y. cond_cases (ltb y.pass.current F) (P (suc k)) (look n cost y) y
        (λ t. let c : y.pass.current < F = ltb-true y.pass.current F t in
        look_passed n cost one K costs F lF y k Y c (⊎_elim (λ e. e) (λ e. absurd (omega arith)) Y.each_looks))
        (λ t. stays k y Y (ltb-false y.pass.current F t)))

    -- After F * n turns all rows are done.
    pub looks_done : (x : Passing) → P (F * n) x → x.pass.current ≡ F
    looks_done x X = ⊎_elim
        (λ e. elim (lt_or_le x.pass.current F) [
          | inl l ↦ absurd (omega (arith, X.looks_now l, mul-le-mul_right n l, add-one x.pass.current))
          | inr l ↦ omega (arith, X.current_few)
        ])
        (λ e. omega (arith, X.current_few)) X.each_looks

  -- ---- a pass

  pub start_passed : (s : Stage) (G : Good n cost one K costs s) → Passed n cost one K costs s.count G.count_few 0 (pass_start s)
  start_passed s G = record {
    kept = G.kept;
    frees_size = G.frees_size;
    left_few = omega arith;
    current_few = omega arith;
    listed = record {
      row_below = λ t a. G.listed.row_below t (was t a);
      unpaired = λ t a. G.listed.unpaired t (was t a);
      once = λ t u a b. G.listed.once t u (was t a) (was u b);
      paired_or_listed = λ i l. ⊎_elim (λ a. inl a)
          (λ (a : (t : ℕ) × (t < s.count) × (at s.frees t ≡ i)). inr (a.0, inr (omega arith, a.1), a.2)) (G.listed.paired_or_listed i l);
    };
    looks_least = omega arith;
    looks_most = omega arith;
    looks_now = λ l. omega arith;
    each_looks = inl refl;
  }
    where
      was : (t : ℕ) → (t < 0) ⊎ ((0 ≤ t) × (t < s.count)) → t < s.count
      was t a = ⊎_elim (λ b. absurd (omega arith)) (λ b. b.1) a

  -- A pass over the free rows of a stage: F to F * n looks, and no more rows left than there were.
  pub record PassOf (s : Stage) (x : Passing) : Type 0 where
    pub good : Good n cost one K costs (pass_end x)
    pub all_looked_at : x.pass.current ≡ s.count
    pub looks_least : s.count ≤ x.pass.looks
    pub looks_most : x.pass.looks ≤ s.count * n
    pub left_fewer : x.pass.left ≤ s.count

  module _ (s : Stage) (G : Good n cost one K costs s) where
    abbrev after : ℕ → Passing
    after m = looks n cost s.count m (pass_start s)

    after_passed : (m : ℕ) → Passed n cost one K costs s.count G.count_few m (after m)
    after_passed m = looks_passed s.count G.count_few (pass_start s) (start_passed s G) m

    pub row_reduction_pass_of : PassOf s (row_reduction n cost s)
    unfolding row_reduction
    row_reduction_pass_of =
        let F = s.count in
        let x = after (F * n) in
        let X = after_passed (F * n) in
        let e : x.pass.current ≡ F = looks_done F G.count_few x X in
        record {
          good = record {
            kept = X.kept;
            frees_size = X.frees_size;
            count_few = omega (arith, X.left_few, G.count_few);
            listed = record {
              row_below = λ t a. X.listed.row_below t (inl a);
              unpaired = λ t a. X.listed.unpaired t (inl a);
              once = λ t u a b. X.listed.once t u (inl a) (inl b);
              paired_or_listed = λ i l. ⊎_elim (λ a. inl a)
                  (λ (a : (t : ℕ) × ((t < x.pass.left) ⊎ ((x.pass.current ≤ t) × (t < F))) × (at x.frees t ≡ i)).
                  inr (a.0, ⊎_elim (λ b. b) (λ b. absurd (omega (arith, b.0, b.1))) a.1, a.2)) (X.listed.paired_or_listed i l);
            };
          };
          all_looked_at = e;
          looks_least = omega (arith, X.looks_least);
          looks_most = X.looks_most;
          left_fewer = omega (arith, X.left_few);
        }

    -- More turns than F * n change nothing.
    pub row_reduction_enough : (m : ℕ) → s.count * n ≤ m → after m ≡ row_reduction n cost s
    unfolding row_reduction
    row_reduction_enough m h =
        let F = s.count in
        let e : F * n + (m - F * n) ≡ m = omega arith in
        ap after (sym e)
        ∙ looks_rest n cost F (pass_start s) (F * n) (omega (arith, looks_done F G.count_few (after (F * n)) (after_passed (F * n)))) (m - F * n)

    -- What a look after m turns finds: sizes, indices in range, prices within 5K, and the counter.
    pub record Ready (m : ℕ) (x : Passing) : Type 0 where
      pub cols_size : length x.pairs.cols ≡ n
      pub rows_size : length x.pairs.rows ≡ n
      pub prices_size : length x.prices ≡ n
      pub frees_size : length x.frees ≡ n
      pub current_below : x.pass.current < n
      pub left_few : x.pass.left ≤ x.pass.current
      pub row_below : at x.frees x.pass.current < n
      pub prices_within : (k : ℕ) → Within (5 * K) (signed_at x.prices k)
      pub looks_counted : x.pass.looks ≡ m
      pub looks_below : m < s.count * n

    pub look_ready : (m : ℕ) → (after m).pass.current < s.count → Ready m (after m)
    look_ready m l =
        let x = after m in
        let X = after_passed m in
        let e : x.pass.looks ≡ m = ⊎_elim (λ a. a) (λ a. absurd (omega arith)) X.each_looks in
        record {
          cols_size = X.kept.agree.cols_size;
          rows_size = X.kept.agree.rows_size;
          prices_size = X.kept.prices_size;
          frees_size = X.frees_size;
          current_below = omega (arith, G.count_few);
          left_few = X.left_few;
          row_below = X.listed.row_below x.pass.current (inr (omega arith, l));
          prices_within = within_five n cost K costs (first n cost one) (first-low n cost one K costs) x.pairs x.prices X.kept (first_within n cost one K costs);
          looks_counted = e;
          looks_below = omega (arith, e, X.looks_now l, mul-le-mul_right n l, add-one x.pass.current);
        }
