-- Rule 4: every look of a pass keeps what every stage keeps; a pass over F rows makes F to F * n looks, and more turns change nothing.
-- Assumes nothing.
use mathlib.Core.Path.{◌≡◌, refl, sym, ap, ◌∙◌}
use mathlib.Core.Logic.{◌⊎◌, inl, inr, ⊎_elim}
use mathlib.Core.Bool.{Bool, true, cond}
use Prim.Native.Nat.{ℕ, suc, ◌+◌, ◌*◌, ◌≤◌, ◌<◌}
use native.Mathlib.Nat.{mul-le-mul_right}
use native.Mathlib.Numerals.{add-one}
use native.Mathlib.Omega.{arith}
use borrow.Author.Tests.{ltb-true, ltb-false, lt-ltb, le-ltb}
use lib.Dec.{ltb}
use lib.IntN.{ℤ}
use lib.ListN.{length, set, length-set}
use Rattle.ints.specs.Parts.{Within}
use Rattle.lists.specs.Permutations.{at}
use Rattle.lists.proofs.Runs.{upward_none, upward-last, upward_stays}
use Rattle.lists.proofs.Cases.{cond_cases}
use Rattle.assignment.specs.Pairings.{signed_at}
use Rattle.rules.specs.declared.Choice.{Choice}
use Rattle.rules.specs.declared.Pass.{Pass}
use Rattle.rules.specs.Lowest.{reduced, two_lowest}
use Rattle.rules.specs.Columns.{Pairs}
use Rattle.rules.specs.Rows.{take_column, Passing, choose, Placed, pass_at, displace, settle, is_early, look, looks}
use Rattle.rules.proofs.Lowest.{two_lowest_is}
use Rattle.rules.proofs.Pairs.{took_row, kept_row, take_agree, free_column}
use Rattle.rules.proofs.Lowering.{Lowers}
use Rattle.rules.proofs.Kept.{Listed, Kept, step, free-low}
use Rattle.rules.proofs.Claims.{first, first-low}
use Rattle.rules.proofs.Looks.{choose_fits, listed_free, listed_displaced}

-- ---- one turn: the state after m turns is `looks n cost F m x`

module _ (n : ℕ) (cost : ℕ → ℕ → ℤ) (F : ℕ) (x : Passing) where
  pub looks_none : looks n cost F 0 x ≡ x
  unfolding looks
  looks_none = upward_none 0 0 (λ k y. cond (ltb y.pass.current F) (look n cost y) y) x (omega arith)

  looks-last : (m : ℕ) → looks n cost F (suc m) x ≡ cond (ltb (looks n cost F m x).pass.current F) (look n cost (looks n cost F m x)) (looks n cost F m x)
  unfolding looks
  looks-last m = upward-last 0 m (λ k y. cond (ltb y.pass.current F) (look n cost y) y) x (omega arith)

  pub looks_more : (m : ℕ) → (looks n cost F m x).pass.current < F → looks n cost F (suc m) x ≡ look n cost (looks n cost F m x)
  looks_more m h =
      let y = looks n cost F m x in
      looks-last m ∙ ap (λ (t : Bool). cond t (look n cost y) y) (lt-ltb y.pass.current F h)

  -- Once all F rows are done, more turns change nothing.
  pub looks_rest : (m : ℕ) → F ≤ (looks n cost F m x).pass.current → (d : ℕ) → looks n cost F (m + d) x ≡ looks n cost F m x
  unfolding looks
  looks_rest m h d =
      let y = looks n cost F m x in
      sym (upward_stays 0 m (m + d) (λ k z. cond (ltb z.pass.current F) (look n cost z) z) x y (omega arith) (omega arith) refl
      (λ k l q. ap (λ (t : Bool). cond t (look n cost y) y) (le-ltb y.pass.current F h)))

module _ (n : ℕ) (cost : ℕ → ℕ → ℤ) (one : 1 ≤ n) (K : ℕ) (costs : (i j : ℕ) → Within K (cost i j)) where
  abbrev v₀ : ℕ → ℤ
  v₀ = first n cost one

  module _ (F : ℕ) (lF : F ≤ n) where
    -- The places of rows with no column: the next pass's, and those still to be looked at.
    abbrev In : Pass → ℕ → Type 0
    In p t = (t < p.left) ⊎ ((p.current ≤ t) × (t < F))

    -- After m turns.
    pub record Passed (m : ℕ) (x : Passing) : Type 0 where
      pub kept : Kept n cost K costs v₀ x.pairs x.prices
      pub frees_size : length x.frees ≡ n
      pub left_few : x.pass.left ≤ x.pass.current
      pub current_few : x.pass.current ≤ F
      pub listed : Listed n x.pairs x.frees (In x.pass)
      pub looks_least : x.pass.current ≤ x.pass.looks
      pub looks_most : x.pass.looks ≤ F * n
      pub looks_now : x.pass.current < F → x.pass.looks < (x.pass.current + 1) * n
      pub each_looks : (x.pass.looks ≡ m) ⊎ (F ≤ x.pass.current)

    module _ (x : Passing) (m : ℕ) (X : Passed m x) (l : x.pass.current < F) where
      is : In x.pass x.pass.current
      is = inr (omega arith, l)

      abbrev i : ℕ
      i = at x.frees x.pass.current

      -- The list, and where the pass goes on.
      record Goes (p : Pairs) (q : Placed) : Type 0 where
        size : length q.frees ≡ n
        left_few : q.pass.left ≤ q.pass.current
        current_few : q.pass.current ≤ F
        listed : Listed n p q.frees (In q.pass)
        counted : q.pass.looks ≡ x.pass.looks + 1
        by_one : q.pass.current ≤ x.pass.current + 1
        looks_now : q.pass.current < F → q.pass.looks < (q.pass.current + 1) * n

      module _ (j : ℕ) (lj : j < n) where
        abbrev h : ℕ
        h = at x.pairs.rows j

        abbrev p' : Pairs
        p' = take_column x.pairs i j

        -- The next row's looks: n more than this one's at most.
        next_looks : x.pass.looks + 1 < (x.pass.current + 1 + 1) * n
        next_looks = omega (arith, X.looks_now l)

        nobody : n ≤ h → Goes p' (record { frees = x.frees; pass = pass_at (x.pass.current + 1) x.pass.left (x.pass.looks + 1) })
        nobody f = record {
          size = X.frees_size;
          left_few = omega (arith, X.left_few);
          current_few = omega arith;
          listed = listed_free n x.pairs X.kept.agree x.frees (In x.pass) X.listed x.pass.current is j lj f
              (In (pass_at (x.pass.current + 1) x.pass.left (x.pass.looks + 1)))
              (λ t a. ⊎_elim (λ b. (inl b, λ e. omega (arith, X.left_few))) (λ b. (inr (omega (arith, b.0), b.1), λ e. omega (arith, b.0))) a)
              (λ t a d. ⊎_elim (λ b. inl b) (λ b. inr (omega (arith, b.0), b.1)) a);
          counted = refl;
          by_one = omega arith;
          looks_now = λ g. next_looks;
        }

        goes_back : h < n → x.pass.looks + 1 < (x.pass.current + 1) * n
            → Goes p' (record { frees = set x.frees x.pass.current h; pass = pass_at x.pass.current x.pass.left (x.pass.looks + 1) })
        goes_back f early = record {
          size = length-set x.frees x.pass.current h ∙ X.frees_size;
          left_few = X.left_few;
          current_few = X.current_few;
          listed = listed_displaced n x.pairs X.kept.agree x.frees (In x.pass) X.listed x.pass.current is j lj f
              x.pass.current (omega (arith, X.frees_size)) (In (pass_at x.pass.current x.pass.left (x.pass.looks + 1))) is
              (λ t a d. (a, d)) (λ t a d. (a, d));
          counted = refl;
          by_one = omega arith;
          looks_now = λ g. early;
        }

        goes_on : h < n → Goes p' (record { frees = set x.frees x.pass.left h; pass = pass_at (x.pass.current + 1) (x.pass.left + 1) (x.pass.looks + 1) })
        goes_on f = record {
          size = length-set x.frees x.pass.left h ∙ X.frees_size;
          left_few = omega (arith, X.left_few);
          current_few = omega arith;
          listed = listed_displaced n x.pairs X.kept.agree x.frees (In x.pass) X.listed x.pass.current is j lj f
              x.pass.left (omega (arith, X.left_few, X.frees_size)) (In (pass_at (x.pass.current + 1) (x.pass.left + 1) (x.pass.looks + 1))) (inl (omega arith))
              (λ t a d. ⊎_elim (λ b. (inl (omega arith), λ e. omega (arith, X.left_few))) (λ b. (inr (omega (arith, b.0), b.1), λ e. omega (arith, b.0))) a)
              (λ t a d. ⊎_elim (λ b. (inl (omega arith), λ e. omega arith)) (λ b. (inr (omega (arith, b.0), b.1), λ e. omega (arith, b.0, X.left_few))) a);
          counted = refl;
          by_one = omega arith;
          looks_now = λ g. next_looks;
        }

        displace_goes : (back : Bool) → (back ≡ true → x.pass.looks + 1 < (x.pass.current + 1) * n) → Goes p' (displace n x.frees x.pass back h)
        displace_goes back early =
            let a : Placed = record { frees = set x.frees x.pass.current h; pass = pass_at x.pass.current x.pass.left (x.pass.looks + 1) } in
            let b : Placed = record { frees = set x.frees x.pass.left h; pass = pass_at (x.pass.current + 1) (x.pass.left + 1) (x.pass.looks + 1) } in
            cond_cases (ltb h n) (Goes p') (cond back a b) (record { frees = x.frees; pass = pass_at (x.pass.current + 1) x.pass.left (x.pass.looks + 1) })
            (λ t. cond_cases back (Goes p') a b (λ u. goes_back (ltb-true h n t) (early u)) (λ u. goes_on (ltb-true h n t)))
            (λ t. nobody (ltb-false h n t))

      settle_passed : (w : Choice) → Lowers n cost (signed_at x.prices) i w.column w.price
          → (w.back ≡ true → x.pass.looks + 1 < (x.pass.current + 1) * n) → x.pass.looks ≡ m → Passed (suc m) (settle n x i w)
      settle_passed w low early z =
          let j = w.column in
          let lj = low.column_below in
          let A = X.kept.agree in
          let li : i < n = X.listed.row_below x.pass.current is in
          let alone = X.listed.unpaired x.pass.current is in
          let y = free_column n x.pairs A i li alone in
          let q = displace_goes j lj w.back early in
          record {
            kept = step n cost K costs v₀ (first-low n cost one K costs) x.pairs x.prices X.kept j w.price lj
                y.0 y.1 (free-low n cost K costs v₀ (first-low n cost one K costs) x.pairs x.prices X.kept y.0 y.1 y.2)
                i low (take_column x.pairs i j) (take_agree n x.pairs A i j li lj alone)
                (took_row n x.pairs A.cols_size A.rows_size i j li lj) li
                (kept_row n x.pairs A.cols_size A.rows_size i j li lj);
            frees_size = q.size;
            left_few = q.left_few;
            current_few = q.current_few;
            listed = q.listed;
            looks_least = omega (arith, q.by_one, q.counted, X.looks_least);
            looks_most = omega (arith, q.counted, X.looks_now l, mul-le-mul_right n l, add-one x.pass.current);
            looks_now = q.looks_now;
            each_looks = inl (omega (arith, q.counted));
          }

      pub look_passed : x.pass.looks ≡ m → Passed (suc m) (look n cost x)
      look_passed z =
          let f : ℕ → ℤ = reduced cost (signed_at x.prices) i in
          let r = choose_fits n cost one x.prices x.pairs.rows i (is_early n x.pass) (two_lowest n f) (two_lowest_is n f one) in
          settle_passed (choose n (is_early n x.pass) x.prices x.pairs.rows (two_lowest n f)) r.lowers
          (λ b. ltb-true (x.pass.looks + 1) ((x.pass.current + 1) * n) (r.back_early b)) z
