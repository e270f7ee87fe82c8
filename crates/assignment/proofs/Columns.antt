-- The prices of the columns that a choice uses come to least where no spare column's price is below a used one's; and only there. Assumes nothing.
use mathlib.Core.Path.{◌≡◌, refl, sym, ap, ◌∙◌}
use mathlib.Core.Bool.{cond}
use mathlib.Core.Logic.{◌≢◌, ⊎_elim}
use Prim.Native.Nat.{ℕ, zero, suc, ◌<◌}
use native.Mathlib.Decide.{ℕ_discrete}
use native.Mathlib.Omega.{arith}
use lib.Dec.{eqb}
use borrow.Author.Tests.{eq-eqb, ne_eqb}
use lib.IntN.{ℤ, pos, ◌+ℤ◌, ◌-ℤ◌}
use lib.Signed.{◌≤ℤ◌, ◌<ℤ◌, lt_z, ≤ℤ_refl}
use Rattle.ints.proofs.Shapes.{zlin}
use Rattle.ints.proofs.Tests.{lt_lt_z, le_lt_z, le_or_lt, not_lt_le}
use Rattle.lists.specs.Sums.{sum}
use Rattle.lists.specs.Permutations.{Injective}
use Rattle.lists.proofs.Sums.{sum_none, sum_cong, sum_le, sum_sub, sum_change}
use Rattle.lists.proofs.Injections.{sum_injection, sum_injection_le}

-- Of f 0 .. f (m - 1) with m above 0, one that none exceeds.
abbrev Greatest : (ℕ → ℤ) → ℕ → Type 0
Greatest f m = (k : ℕ) × (k < m) × ((i : ℕ) → i < m → f i ≤ℤ f k)

greatest : (f : ℕ → ℤ) (m : ℕ) → Greatest f (suc m)
greatest f zero = (0, omega arith, λ i l. let e : i ≡ 0 = omega arith in omega (zlin, ap f e))
greatest f (suc m) = by (greatest f m)
  where
    by : Greatest f (suc m) → Greatest f (suc (suc m))
    by (k, l, top) = ⊎_elim
        (λ h. (suc m, omega arith, λ i g. last i (ℕ_discrete i (suc m)) (λ d. omega (zlin, top i (omega arith)))))
        (λ h. (k, omega arith, λ i g. rest i (ℕ_discrete i (suc m)) (λ d. top i (omega arith)) h))
        (le_or_lt (f k) (f (suc m)))
      where
        last : (i : ℕ) → Dec (i ≡ suc m) → (i ≢ suc m → f i ≤ℤ f (suc m)) → f i ≤ℤ f (suc m)
        last i (yes e) g = omega (zlin, ap f e)
        last i (no d) g = g d

        rest : (i : ℕ) → Dec (i ≡ suc m) → (i ≢ suc m → f i ≤ℤ f k) → f (suc m) <ℤ f k → f i ≤ℤ f k
        rest i (yes e) g h = omega (zlin, ap f e)
        rest i (no d) g h = g d

-- What x is below t, and 0 where it is not.
abbrev under : ℤ → ℤ → ℤ
under t x = cond (lt_z x t) (x -ℤ t) (pos 0)

under_of : (t x : ℤ) → (x ≤ℤ t → under t x ≡ x -ℤ t) × (t ≤ℤ x → under t x ≡ pos 0) × (under t x ≤ℤ pos 0) × (under t x ≤ℤ (x -ℤ t))
under_of t x = ⊎_elim
    (λ h. rw (le_lt_z x t h) (λ g. omega zlin, λ g. refl, ≤ℤ_refl (pos 0), omega zlin))
    (λ h. rw (lt_lt_z x t h) (λ g. refl, λ g. omega zlin, omega zlin, ≤ℤ_refl (x -ℤ t)))
    (le_or_lt t x)

-- No price that f leaves out is below one that it reaches.
abbrev pub LeavesDearest : ℕ → ℕ → (ℕ → ℤ) → (ℕ → ℕ) → Type 0
LeavesDearest m n v f = (i j : ℕ) → i < m → j < n → ((k : ℕ) → k < m → f k ≡ j → ⊥) → v (f i) ≤ℤ v j

-- f, with i sent to j.
abbrev sends : (ℕ → ℕ) → ℕ → ℕ → ℕ → ℕ
sends f i j k = cond (eqb k i) j (f k)

module _ {n : ℕ} (v : ℕ → ℤ) where
  -- Such an f reaches prices that come to least.
  pub columns_least : (m : ℕ) (f g : ℕ → ℕ) → Injective m n f → Injective m n g → LeavesDearest m n v f → sum m (λ i. v (f i)) ≤ℤ sum m (λ i. v (g i))
  columns_least zero f g p q dear = omega (zlin, sum_none (λ i. v (f i)), sum_none (λ i. v (g i)))
  columns_least (suc m) f g p q dear = by (greatest (λ i. v (f i)) m)
    where
      by : Greatest (λ i. v (f i)) (suc m) → sum (suc m) (λ i. v (f i)) ≤ℤ sum (suc m) (λ i. v (g i))
      by (k, l, top) =
          omega (
            zlin,
            sum_injection (suc m) f w p (λ j h u. (under_of t (v j)).1 (dear k j l h u)),
            sum_cong (suc m) (λ i. w (f i)) (λ i. v (f i) -ℤ t) (λ i h. (under_of t (v (f i))).0 (top i h)),
            sum_injection_le (suc m) g w q (λ j h. (under_of t (v j)).2),
            sum_le (suc m) (λ i. w (g i)) (λ i. v (g i) -ℤ t) (λ i h. (under_of t (v (g i))).3),
            sum_sub (suc m) (λ i. v (f i)) (λ i. t),
            sum_sub (suc m) (λ i. v (g i)) (λ i. t),
          )
        where
          t : ℤ
          t = v (f k)

          w : ℕ → ℤ
          w j = under t (v j)

  -- And a choice that comes to no more leaves the dearest out too: else its row i could go to j for less.
  pub columns_least_only : (m : ℕ) (f g : ℕ → ℕ) → Injective m n f → Injective m n g → LeavesDearest m n v f
      → sum m (λ i. v (g i)) ≤ℤ sum m (λ i. v (f i)) → LeavesDearest m n v g
  columns_least_only m f g p q dear le i j hi hj spare =
      not_lt_le (λ less. absurd (omega (zlin, columns_least m f h p injective dear, changed, at_i)))
    where
      h : ℕ → ℕ
      h = sends g i j

      at_i : h i ≡ j
      at_i = rw (eq-eqb i i refl)

      other : (k : ℕ) → k ≢ i → h k ≡ g k
      other k d = rw (ne_eqb k i d)

      changed : sum m (λ k. v (h k)) +ℤ v (g i) ≡ sum m (λ k. v (g k)) +ℤ v j
      changed = sum_change m i (λ k. v (h k)) (λ k. v (g k)) hi (λ k l d. ap v (other k d)) ∙ ap (λ (x : ℕ). sum m (λ k. v (g k)) +ℤ v x) at_i

      apart : (a b : ℕ) → a < m → b < m → h a ≡ h b → Dec (a ≡ i) → Dec (b ≡ i) → a ≡ b
      apart a b la lb e (yes s) (yes r) = s ∙ sym r
      apart a b la lb e (yes s) (no r) = absurd (spare b lb (sym (other b r) ∙ sym e ∙ ap h s ∙ at_i))
      apart a b la lb e (no s) (yes r) = absurd (spare a la (sym (other a s) ∙ e ∙ ap h r ∙ at_i))
      apart a b la lb e (no s) (no r) = q.once a b la lb (sym (other a s) ∙ e ∙ other b r)

      injective : Injective m n h
      injective = record {
        below = λ k l. elim (ℕ_discrete k i) [ yes e ↦ omega (arith, ap h e, at_i) | no d ↦ omega (arith, other k d, q.below k l) ];
        once = λ a b la lb e. apart a b la lb e (ℕ_discrete a i) (ℕ_discrete b i);
      }
