-- Injections of the numbers below m into those below n: which number is reached and from where, sums over what is reached, the pigeonhole, and
-- that an injection of the numbers below n into themselves reaches each. Assumes nothing.
use mathlib.Core.Path.{◌≡◌, refl, sym, ap, ◌∙◌}
use mathlib.Core.Bool.{cond}
use mathlib.Core.Logic.{◌≢◌, ◌⊎◌, inl, inr, ⊎_elim}
use Prim.Native.Nat.{ℕ, zero, suc, ◌≤◌, ◌<◌}
use native.Mathlib.Decide.{ℕ_discrete, dec_lt}
use native.Mathlib.Omega.{arith}
use lib.Dec.{eqb}
use borrow.Author.Tests.{eq-eqb, ne_eqb, eqb-true, eqb-false}
use lib.IntN.{ℤ, pos, negsuc, ◌+ℤ◌}
use lib.Signed.{◌≤ℤ◌}
use Rattle.ints.proofs.Shapes.{zlin}
use Rattle.lists.specs.Runs.{first}
use Rattle.lists.specs.Sums.{sum}
use Rattle.lists.specs.Permutations.{Injective}
use Rattle.lists.proofs.Runs.{first_le, first_holds, first_before}
use Rattle.lists.proofs.Sums.{sum_none, sum-last, sum_cong, sum_zero, sum_le, sum_sub, sum_ones, sum_change}

-- ---- composed, restricted, equal

pub injective_compose : {l m n : ℕ} {f g : ℕ → ℕ} → Injective m n f → Injective l m g → Injective l n (λ i. f (g i))
injective_compose {g = g} p q = record {
  below = λ i h. p.below (g i) (q.below i h);
  once = λ i k h j e. q.once i k h j (p.once (g i) (g k) (q.below i h) (q.below k j) e);
}

pub injective_cong : {m n : ℕ} {f g : ℕ → ℕ} → ((i : ℕ) → i < m → f i ≡ g i) → Injective m n f → Injective m n g
injective_cong e p = record {
  below = λ i l. omega (arith, p.below i l, e i l);
  once = λ i k l h s. p.once i k l h (e i l ∙ s ∙ sym (e k h));
}

pub injective_fewer : {l m n : ℕ} {f : ℕ → ℕ} → l ≤ m → Injective m n f → Injective l n f
injective_fewer h p = record { below = λ i l. p.below i (omega arith); once = λ i k l j e. p.once i k (omega arith) (omega arith) e }

-- ---- whether a number is reached, and from where

-- The first number below m that f sends to j; m where there is none.
abbrev pub source : (ℕ → ℕ) → ℕ → ℕ → ℕ
source f m j = first m (λ i. eqb (f i) j)

abbrev pub Reached : (ℕ → ℕ) → ℕ → ℕ → Type 0
Reached f m j = (i : ℕ) × (i < m) × (f i ≡ j)

pub reached_or_not : (f : ℕ → ℕ) (m j : ℕ) → Reached f m j ⊎ ((i : ℕ) → i < m → f i ≢ j)
reached_or_not f m j = by (dec_lt (source f m j) m)
  where
    by : Dec (source f m j < m) → Reached f m j ⊎ ((i : ℕ) → i < m → f i ≢ j)
    by (yes l) = inl (source f m j, l, eqb-true (f (source f m j)) j (first_holds (λ i. eqb (f i) j) m l))
    by (no l) = inr (λ i h. eqb-false (f i) j (first_before (λ k. eqb (f k) j) m i (omega (arith, first_le (λ k. eqb (f k) j) m))))

pub source_of : {m n : ℕ} {f : ℕ → ℕ} → Injective m n f → (i : ℕ) → i < m → source f m (f i) ≡ i
source_of {m} {f = f} p i l = by (dec_lt (source f m (f i)) m)
  where
    by : Dec (source f m (f i) < m) → source f m (f i) ≡ i
    by (yes h) = p.once (source f m (f i)) i h l (eqb-true (f (source f m (f i))) (f i) (first_holds (λ k. eqb (f k) (f i)) m h))
    by (no h) =
        absurd (eqb-false (f i) (f i) (first_before (λ k. eqb (f k) (f i)) m i (omega (arith, first_le (λ k. eqb (f k) (f i)) m))) refl)

-- ---- sums over what is reached

-- w, with 0 at k.
abbrev without : (ℕ → ℤ) → ℕ → ℕ → ℤ
without w k j = cond (eqb j k) (pos 0) (w j)

without_at : (w : ℕ → ℤ) (k : ℕ) → without w k k ≡ pos 0
without_at w k = rw (eq-eqb k k refl)

without_other : (w : ℕ → ℤ) (k j : ℕ) → j ≢ k → without w k j ≡ w j
without_other w k j d = rw (ne_eqb j k d)

module _ {n : ℕ} where
  -- The last number of the injection taken out: what the others reach, and the sum without what it reaches.
  rest_sum : (m : ℕ) (f : ℕ → ℕ) (w : ℕ → ℤ) → Injective (suc m) n f
      → (sum n (without w (f m)) +ℤ w (f m) ≡ sum n w) × (sum m (λ i. without w (f m) (f i)) ≡ sum m (λ i. w (f i)))
  rest_sum m f w p = (
    omega (
      zlin,
      without_at w (f m),
      sum_change n (f m) (without w (f m)) w (p.below m (omega arith)) (λ j l d. without_other w (f m) j d),
    ),
    sum_cong m (λ i. without w (f m) (f i)) (λ i. w (f i))
        (λ i l. without_other w (f m) (f i) (λ e. let s = p.once i m (omega arith) (omega arith) e in omega arith)),
  )

  -- Where no term is above 0, the terms that an injection reaches come to at least all of them.
  pub sum_injection_le : (m : ℕ) (f : ℕ → ℕ) (w : ℕ → ℤ) → Injective m n f → ((j : ℕ) → j < n → w j ≤ℤ pos 0) → sum n w ≤ℤ sum m (λ i. w (f i))
  sum_injection_le zero f w p h =
      omega (zlin, sum_none (λ i. w (f i)), sum_le n w (λ j. pos 0) h, sum_zero n (λ j. pos 0) (λ j l. refl))
  sum_injection_le (suc m) f w p h =
      let r = rest_sum m f w p in
      omega (zlin, r.0, r.1, sum-last m (λ i. w (f i)), sum_injection_le m f (without w (f m)) (injective_fewer (omega arith) p) small)
    where
      small : (j : ℕ) → j < n → without w (f m) j ≤ℤ pos 0
      small j l =
          elim (ℕ_discrete j (f m)) [
            | yes e ↦ omega (zlin, ap (without w (f m)) e, without_at w (f m))
            | no d ↦ omega (zlin, without_other w (f m) j d, h j l)
          ]

  -- Where every term that is not reached is 0, those that are come to all of them.
  pub sum_injection : (m : ℕ) (f : ℕ → ℕ) (w : ℕ → ℤ) → Injective m n f
      → ((j : ℕ) → j < n → ((i : ℕ) → i < m → f i ≢ j) → w j ≡ pos 0) → sum n w ≡ sum m (λ i. w (f i))
  sum_injection zero f w p h = sum_zero n w (λ j l. h j l (λ i m. absurd (omega arith))) ∙ sym (sum_none (λ i. w (f i)))
  sum_injection (suc m) f w p h =
      let r = rest_sum m f w p in
      omega (zlin, r.0, r.1, sum-last m (λ i. w (f i)), sum_injection m f (without w (f m)) (injective_fewer (omega arith) p) none)
    where
      none : (j : ℕ) → j < n → ((i : ℕ) → i < m → f i ≢ j) → without w (f m) j ≡ pos 0
      none j l u =
          elim (ℕ_discrete j (f m)) [
            | yes e ↦ ap (without w (f m)) e ∙ without_at w (f m)
            | no d ↦ without_other w (f m) j d ∙ h j l (λ i k e. by i k e (ℕ_discrete i m) d)
          ]
        where
          by : (i : ℕ) → i < suc m → f i ≡ j → Dec (i ≡ m) → j ≢ f m → ⊥
          by i k e (yes s) d = d (sym e ∙ ap f s)
          by i k e (no s) d = u i (omega arith) e

-- ---- the pigeonhole

-- An injection goes into no fewer.
pub pigeonhole : {m n : ℕ} {f : ℕ → ℕ} → Injective m n f → m ≤ n
pigeonhole {m} {n} {f} p = omega (zlin, sum_injection_le m f (λ j. negsuc 0) p (λ j l. omega zlin), count m, count n)
  where
    count : (k : ℕ) → sum k (λ j. negsuc 0) +ℤ pos k ≡ pos 0
    count k =
        omega (zlin, sum_sub k (λ j. pos 0) (λ j. pos 1), sum_zero k (λ j. pos 0) (λ j l. refl), sum_ones k)

-- f, which sends m to j besides.
abbrev also : (ℕ → ℕ) → ℕ → ℕ → ℕ → ℕ
also f m j i = cond (eqb i m) j (f i)

also_at : (f : ℕ → ℕ) (m j : ℕ) → also f m j m ≡ j
also_at f m j = rw (eq-eqb m m refl)

also_below : (f : ℕ → ℕ) (m j i : ℕ) → i < m → also f m j i ≡ f i
also_below f m j i l = rw (ne_eqb i m (λ e. omega arith))

injective_also : {m n : ℕ} {f : ℕ → ℕ} → Injective m n f → (j : ℕ) → j < n → ((i : ℕ) → i < m → f i ≢ j) → Injective (suc m) n (also f m j)
injective_also {m} {n} {f} p j l u =
    record {
      below = λ i h. elim (ℕ_discrete i m) [
        | yes e ↦ omega (arith, ap (also f m j) e, also_at f m j)
        | no d ↦ omega (arith, also_below f m j i (omega arith), p.below i (omega arith))
      ];
      once = λ i k h g e. both i k h g e (ℕ_discrete i m) (ℕ_discrete k m);
    }
  where
    both : (i k : ℕ) → i < suc m → k < suc m → also f m j i ≡ also f m j k → Dec (i ≡ m) → Dec (k ≡ m) → i ≡ k
    both i k h g e (yes a) (yes b) = a ∙ sym b
    both i k h g e (yes a) (no b) =
        absurd (u k (omega arith) (sym (also_below f m j k (omega arith)) ∙ sym e ∙ ap (also f m j) a ∙ also_at f m j))
    both i k h g e (no a) (yes b) =
        absurd (u i (omega arith) (sym (also_below f m j i (omega arith)) ∙ e ∙ ap (also f m j) b ∙ also_at f m j))
    both i k h g e (no a) (no b) =
        p.once i k (omega arith) (omega arith) (sym (also_below f m j i (omega arith)) ∙ e ∙ also_below f m j k (omega arith))

-- An injection of the numbers below n into themselves reaches each of them.
pub reached : {n : ℕ} {f : ℕ → ℕ} → Injective n n f → (j : ℕ) → j < n → Reached f n j
reached {n} {f} p j l =
    ⊎_elim (λ r. r) (λ u. let h = pigeonhole (injective_also p j l u) in absurd (omega arith)) (reached_or_not f n j)

-- Its terms come to the sum of all.
pub sum_permuted : {n : ℕ} {f : ℕ → ℕ} (w : ℕ → ℤ) → Injective n n f → sum n (λ i. w (f i)) ≡ sum n w
sum_permuted {n} {f} w p =
    sym (sum_injection n f w p (λ j l u. let r = reached p j l in absurd (u r.0 r.1 r.2)))
