-- Rule 6: from any state with fair prices and a list of its free rows, every row gets a column; each search scans at most n - 1 columns. What one
-- search keeps, all keep. Assumes nothing.
use mathlib.Core.Path.{◌≡◌, sym, ap, ◌∙◌, subst}
use mathlib.Core.Logic.{inl, inr, ⊎_elim}
use mathlib.Core.List.{List}
use Prim.Native.Nat.{ℕ, suc, ◌+◌, ◌-◌, ◌*◌, ◌≤◌, ◌<◌}
use native.Mathlib.Decide.{ℕ_discrete}
use native.Mathlib.Nat.{suc-mul}
use native.Mathlib.Omega.{arith}
use lib.IntN.{ℤ}
use lib.ListN.{length}
use Rattle.lists.specs.Permutations.{at}
use Rattle.lists.proofs.Runs.{upward_keeps}
use Rattle.assignment.specs.Pairings.{signed_at}
use Rattle.rules.specs.Augmentation.{Progress, augment, augments}
use Rattle.rules.specs.Asked.{Fair, Paired, Agree, Can}
use Rattle.rules.proofs.Kept.{Listed}
use Rattle.rules.proofs.Augment.{Gain, augment_gain}

module _ (n : ℕ) (cost : ℕ → ℕ → ℤ) (frees : List ℕ) (count : ℕ) where
  -- The first m rows of the list have their columns.
  pub record Augmented (x₀ : Progress) (m : ℕ) (x : Progress) : Type 0 where
    pub agree : Agree n x.pairs
    pub prices_size : length x.prices ≡ n
    pub fair : Fair n cost (signed_at x.prices) (at x.pairs.rows)
    pub listed : Listed n x.pairs frees (λ t. (m ≤ t) × (t < count))
    pub scanned_few : x.scanned ≤ x₀.scanned + m * (n - 1)

  -- The row at place m can get its column.
  pub augmented_can : (x₀ : Progress) (m : ℕ) (x : Progress) → m < count → Augmented x₀ m x → Can n cost x (at frees m)
  augmented_can x₀ m x l A = record {
    agree = A.agree;
    prices_size = A.prices_size;
    fair = A.fair;
    start_below = A.listed.row_below m (omega arith, l);
    start_unpaired = A.listed.unpaired m (omega arith, l);
  }

  pub augmented_more : (x₀ : Progress) (m : ℕ) (x : Progress) → m < count → Augmented x₀ m x → Augmented x₀ (suc m) (augment n cost x (at frees m))
  augmented_more x₀ m x l A =
      let s = at frees m in
      let y = augment n cost x s in
      let g = augment_gain n cost x s (augmented_can x₀ m x l A) in
      record {
        agree = g.agree;
        prices_size = g.prices_size;
        fair = g.fair;
        listed = record {
          row_below = λ t a. A.listed.row_below t (omega (arith, a.0), a.1);
          unpaired = λ t a. g.still_unpaired (at frees t) (λ e. let z = A.listed.once t m (omega (arith, a.0), a.1) (omega arith, l) e in omega (arith, a.0))
              (A.listed.unpaired t (omega (arith, a.0), a.1));
          once = λ t u a b e. A.listed.once t u (omega (arith, a.0), a.1) (omega (arith, b.0), b.1) e;
          paired_or_listed = λ i h. ⊎_elim (λ a. inl (g.still_paired i h a))
              (λ (a : (t : ℕ) × ((m ≤ t) × (t < count)) × (at frees t ≡ i)). elim (ℕ_discrete a.0 m) [
                | yes e ↦ inl (subst (Paired y.pairs) (ap (at frees) (sym e) ∙ a.2) g.start_paired)
                | no d ↦ inr (a.0, (omega (arith, a.1.0), a.1.1), a.2)
              ])
              (A.listed.paired_or_listed i h);
        };
        scanned_few = omega (arith, g.scanned_few, A.scanned_few, suc-mul m (n - 1));
      }

  -- Q is what one search keeps.
  pub augmented_and_kept : (Q : Progress → Type 0) → ((x : Progress) (s : ℕ) → Q x → Can n cost x s → Gain n cost x s (augment n cost x s) → Q (augment n cost x s))
      → (x₀ : Progress) → Augmented x₀ 0 x₀ → Q x₀ → (m : ℕ) → m ≤ count → Augmented x₀ m (augments n cost frees m x₀) × Q (augments n cost frees m x₀)
  unfolding augments
  augmented_and_kept Q keeps x₀ A q m h =
      upward_keeps (λ k x. Augmented x₀ k x × Q x) 0 m (λ k y. augment n cost y (at frees k)) x₀ (omega arith) (A, q)
      (λ k x a l P.
      let C = augmented_can x₀ k x (omega arith) P.0 in
      (augmented_more x₀ k x (omega arith) P.0, keeps x (at frees k) P.1 C (augment_gain n cost x (at frees k) C)))

  -- Once all have columns, no row is free.
  pub augmented_paired : (x₀ x : Progress) → Augmented x₀ count x → (i : ℕ) → i < n → Paired x.pairs i
  augmented_paired x₀ x A i l =
      ⊎_elim (λ a. a) (λ (a : (t : ℕ) × ((count ≤ t) × (t < count)) × (at frees t ≡ i)). absurd (omega (arith, a.1.0, a.1.1))) (A.listed.paired_or_listed i l)
