-- Permutations as lists: an exchange of two places keeps one, and one has an inverse. Two lists that name each other are injective; each is then
-- the way back of the other. Assumes nothing.
use mathlib.Core.Path.{◌≡◌, sym, ap, ◌∙◌}
use mathlib.Core.Bool.{cond}
use mathlib.Core.Logic.{◌≢◌, ◌⊎◌, inl, inr, ⊎_elim}
use mathlib.Core.List.{List}
use Prim.Native.Nat.{ℕ, ◌<◌}
use native.Mathlib.Decide.{ℕ_discrete}
use native.Mathlib.Omega.{arith}
use lib.Dec.{eqb}
use borrow.Author.Tests.{eq-eqb, ne_eqb}
use lib.ListN.{length, set, length-set}
use lib.Seq.{get_or-set_same, get_or-set_other, lt-length-set}
use Rattle.lists.specs.Permutations.{at, Injective, Permutation, exchange, table}
use Rattle.lists.proofs.Injections.{injective_compose, injective_cong, source, source_of, reached}
use Rattle.lists.proofs.Tables.{get_d_table}

-- ---- an exchange of two places

pub length-exchange : (l : List ℕ) (a b : ℕ) → length (exchange l a b) ≡ length l
length-exchange l a b = simp length-set

module _ (l : List ℕ) (a b : ℕ) where
  pub exchange_second : b < length l → at (exchange l a b) b ≡ at l a
  exchange_second h = get_or-set_same (set l a (at l b)) b (at l a) 0 (lt-length-set l a (at l b) h)

  pub exchange-first : a < length l → b < length l → at (exchange l a b) a ≡ at l b
  exchange-first h g = by (ℕ_discrete a b)
    where
      by : Dec (a ≡ b) → at (exchange l a b) a ≡ at l b
      by (yes e) = ap (at (exchange l a b)) e ∙ exchange_second g ∙ ap (at l) e
      by (no d) = get_or-set_other (set l a (at l b)) b a (at l a) 0 d ∙ get_or-set_same l a (at l b) 0 h

  pub exchange_other : (i : ℕ) → i ≢ a → i ≢ b → at (exchange l a b) i ≡ at l i
  exchange_other i da db = get_or-set_other (set l a (at l b)) b i (at l a) 0 db ∙ get_or-set_other l a i (at l b) 0 da

-- Where an exchange takes what it puts at i from.
abbrev swapped : ℕ → ℕ → ℕ → ℕ
swapped a b i = cond (eqb i a) b (cond (eqb i b) a i)

Swapped : (a b i k : ℕ) → Type 0
Swapped a b i k = ((i ≡ a) × (k ≡ b)) ⊎ ((i ≢ a) × (i ≡ b) × (k ≡ a)) ⊎ ((i ≢ a) × (i ≢ b) × (k ≡ i))

swapped_cases : (a b i : ℕ) → Swapped a b i (swapped a b i)
unfolding Swapped
swapped_cases a b i = by (ℕ_discrete i a) (ℕ_discrete i b)
  where
    by : Dec (i ≡ a) → Dec (i ≡ b) → Swapped a b i (swapped a b i)
    by (yes e) d = inl (e, rw (eq-eqb i a e))
    by (no d) (yes e) = inr (inl (d, e, rw (ne_eqb i a d, eq-eqb i b e)))
    by (no d) (no e) = inr (inr (d, e, rw (ne_eqb i a d, ne_eqb i b e)))

swapped_injective : (n a b : ℕ) → a < n → b < n → Injective n n (swapped a b)
unfolding Swapped
swapped_injective n a b ha hb = record {
  below = λ i h. ⊎_elim (λ x. omega arith) (⊎_elim (λ x. omega arith) (λ x. omega arith)) (swapped_cases a b i);
  once = λ i k h g e.
      let other : (m : ℕ) → (m ≡ swapped a b k) → Swapped a b i m → i ≡ k = λ m s.
      ⊎_elim
      (λ x. ⊎_elim (λ y. omega arith) (⊎_elim (λ y. omega arith) (λ y. omega arith)) (swapped_cases a b k))
      (⊎_elim
      (λ x. ⊎_elim (λ y. omega arith) (⊎_elim (λ y. omega arith) (λ y. omega arith)) (swapped_cases a b k))
      (λ x. ⊎_elim (λ y. omega arith) (⊎_elim (λ y. omega arith) (λ y. omega arith)) (swapped_cases a b k)))
      in other (swapped a b i) e (swapped_cases a b i);
}

pub exchange_permutation : {n : ℕ} {l : List ℕ} → Permutation n l → (a b : ℕ) → a < n → b < n → Permutation n (exchange l a b)
exchange_permutation {n} {l} p a b ha hb = record {
  size = length-exchange l a b ∙ p.size;
  injective = injective_cong (λ i h. sym (moved i h)) (injective_compose p.injective (swapped_injective n a b ha hb));
}
  where
    moved : (i : ℕ) → i < n → at (exchange l a b) i ≡ at l (swapped a b i)
    moved i h = by (ℕ_discrete i a) (ℕ_discrete i b)
      where
        by : Dec (i ≡ a) → Dec (i ≡ b) → at (exchange l a b) i ≡ at l (swapped a b i)
        by (yes e) d =
            rw (eq-eqb i a e) (ap (at (exchange l a b)) e ∙ exchange-first l a b (omega (arith, p.size)) (omega (arith, p.size)))
        by (no d) (yes e) =
            rw (ne_eqb i a d, eq-eqb i b e) (ap (at (exchange l a b)) e ∙ exchange_second l a b (omega (arith, p.size)))
        by (no d) (no e) = rw (ne_eqb i a d, ne_eqb i b e) (exchange_other l a b i d e)

-- ---- lists that name each other

module _ {m n : ℕ} (f g : ℕ → ℕ) (inside : (i : ℕ) → i < m → f i < n) (back : (i : ℕ) → i < m → g (f i) ≡ i) where
  -- Where g finds i again at f i, no two numbers go to the same.
  pub injective_back : Injective m n f
  injective_back = record { below = inside; once = λ i k l h e. sym (back i l) ∙ ap g e ∙ back k h }

-- On as many numbers g then goes into the same, and f finds j again at g j.
pub back_back : {n : ℕ} (f g : ℕ → ℕ) → ((i : ℕ) → i < n → f i < n) → ((i : ℕ) → i < n → g (f i) ≡ i) → (j : ℕ) → j < n → (g j < n) × (f (g j) ≡ j)
back_back f g inside back j l =
    let r = reached (injective_back f g inside back) j l in
    let e : g j ≡ r.0 = ap g (sym r.2) ∙ back r.0 r.1 in
    (omega (arith, r.1), ap f e ∙ r.2)

-- The inverse list: for each number below n, what f sends there.
abbrev pub inverse : (ℕ → ℕ) → ℕ → ℕ → List ℕ
inverse f m n = table n (λ j. source f m j)

pub inverse_back : {m n : ℕ} {f : ℕ → ℕ} → Injective m n f → (i : ℕ) → i < m → at (inverse f m n) (f i) ≡ i
inverse_back {m} {n} {f} p i l = get_d_table n (λ j. source f m j) 0 (f i) (p.below i l) ∙ source_of p i l
