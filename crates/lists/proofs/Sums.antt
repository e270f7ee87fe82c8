-- Sums over the numbers below n: of equal, of smaller and of added terms, in two parts, with one term changed, and of terms none of which is
-- negative. Assumes nothing.
use mathlib.Core.Path.{◌≡◌, refl, sym, ap, ap₂, ◌∙◌}
use mathlib.Core.Logic.{◌≢◌}
use Prim.Native.Nat.{ℕ, zero, suc, ◌+◌, ◌*◌, ◌<◌}
use native.Mathlib.Decide.{ℕ_discrete}
use native.Mathlib.Nat.{add-zero, zero-mul, suc-mul}
use native.Mathlib.Omega.{arith}
use lib.IntN.{ℤ, pos, ◌+ℤ◌, ◌-ℤ◌, +ℤ_idr}
use lib.Signed.{◌≤ℤ◌, ≤ℤ_refl}
use Rattle.ints.specs.Parts.{Within}
use Rattle.ints.proofs.Sums as ints
use Rattle.ints.proofs.Shapes.{zlin}
use Rattle.lists.specs.Sums.{sum}

pub sum_none : (f : ℕ → ℤ) → sum 0 f ≡ pos 0
unfolding sum
sum_none f = refl

pub sum-last : (n : ℕ) (f : ℕ → ℤ) → sum (suc n) f ≡ sum n f +ℤ f n
unfolding sum
sum-last n f = refl

pub sum_cong : (n : ℕ) (f g : ℕ → ℤ) → ((i : ℕ) → i < n → f i ≡ g i) → sum n f ≡ sum n g
unfolding sum
sum_cong zero f g e = refl
sum_cong (suc n) f g e = ap₂ ◌+ℤ◌ (sum_cong n f g (λ i l. e i (omega arith))) (e n (omega arith))

pub sum_zero : (n : ℕ) (f : ℕ → ℤ) → ((i : ℕ) → i < n → f i ≡ pos 0) → sum n f ≡ pos 0
unfolding sum
sum_zero zero f e = refl
sum_zero (suc n) f e = omega (zlin, sum_zero n f (λ i l. e i (omega arith)), e n (omega arith))

-- The sum of the sums of two functions, and of their differences.
pub sum_add : (n : ℕ) (f g : ℕ → ℤ) → sum n (λ i. f i +ℤ g i) ≡ sum n f +ℤ sum n g
unfolding sum
sum_add zero f g = refl
sum_add (suc n) f g =
    omega (zlin, sum_add n f g, ints.sum (sum n f) (sum n g), ints.sum (f n) (g n), ints.sum (sum n f) (f n), ints.sum (sum n g) (g n))

pub sum_sub : (n : ℕ) (f g : ℕ → ℤ) → sum n (λ i. f i -ℤ g i) ≡ sum n f -ℤ sum n g
unfolding sum
sum_sub zero f g = refl
sum_sub (suc n) f g =
    omega (zlin, sum_sub n f g, ints.dif (sum n f) (sum n g), ints.dif (f n) (g n), ints.sum (sum n f) (f n), ints.sum (sum n g) (g n))

-- A range in two parts.
pub sum_split : (m n : ℕ) (f : ℕ → ℤ) → sum (m + n) f ≡ sum m f +ℤ sum n (λ i. f (m + i))
unfolding sum
sum_split m zero f = ap (λ (k : ℕ). sum k f) (add-zero m) ∙ sym (+ℤ_idr (sum m f))
sum_split m (suc n) f =
    let e : m + suc n ≡ suc (m + n) = omega arith in
    ap (λ (k : ℕ). sum k f) e
    ∙ omega (zlin, sum_split m n f, ints.sum (sum m f) (sum n (λ i. f (m + i))), ints.sum (sum n (λ i. f (m + i))) (f (m + n)))

pub sum_le : (n : ℕ) (f g : ℕ → ℤ) → ((i : ℕ) → i < n → f i ≤ℤ g i) → sum n f ≤ℤ sum n g
unfolding sum
sum_le zero f g h = ≤ℤ_refl (pos 0)
sum_le (suc n) f g h = omega (zlin, sum_le n f g (λ i l. h i (omega arith)), h n (omega arith))

-- Where each f i is at most g i, and the g's come to no more than the f's, each two are equal.
pub sum_le_tight : (n : ℕ) (f g : ℕ → ℤ) → ((i : ℕ) → i < n → f i ≤ℤ g i) → sum n g ≤ℤ sum n f → (i : ℕ) → i < n → f i ≡ g i
unfolding sum
sum_le_tight zero f g h s i l = absurd (omega arith)
sum_le_tight (suc n) f g h s i l = by (ℕ_discrete i n) (λ d. sum_le_tight n f g (λ k m. h k (omega arith)) rest i (omega arith))
  where
    below : sum n f ≤ℤ sum n g
    below = sum_le n f g (λ k m. h k (omega arith))

    rest : sum n g ≤ℤ sum n f
    rest = omega (zlin, h n (omega arith))

    last : f n ≡ g n
    last = omega (zlin, h n (omega arith), below)

    by : Dec (i ≡ n) → (i ≢ n → f i ≡ g i) → f i ≡ g i
    by (yes e) ih = ap f e ∙ last ∙ ap g (sym e)
    by (no d) ih = ih d

-- The same term n times, for terms of size 1.
pub sum_ones : (n : ℕ) → sum n (λ i. pos 1) ≡ pos n
unfolding sum
sum_ones zero = refl
sum_ones (suc n) = omega (zlin, sum_ones n)

-- A sum of n terms within k is within n * k.
pub sum_within : (n k : ℕ) (f : ℕ → ℤ) → ((i : ℕ) → i < n → Within k (f i)) → Within (n * k) (sum n f)
unfolding sum
sum_within zero k f h = rw (zero-mul k) (record { low = omega arith; high = omega arith })
sum_within (suc n) k f h =
    let w = sum_within n k f (λ i l. h i (omega arith)) in
    rw (suc-mul n k) (omega (zlin, h n (omega arith), ints.sum (sum n f) (f n)))

-- Two functions that differ at k alone.
pub sum_change : (n k : ℕ) (f g : ℕ → ℤ) → k < n → ((i : ℕ) → i < n → i ≢ k → f i ≡ g i) → sum n f +ℤ g k ≡ sum n g +ℤ f k
unfolding sum
sum_change zero k f g l e = absurd (omega arith)
sum_change (suc n) k f g l e = by (ℕ_discrete k n) (λ d. sum_change n k f g (omega arith) (λ i m. e i (omega arith)))
  where
    by : Dec (k ≡ n) → (k ≢ n → sum n f +ℤ g k ≡ sum n g +ℤ f k) → (sum n f +ℤ f n) +ℤ g k ≡ (sum n g +ℤ g n) +ℤ f k
    by (yes s) ih =
        let same : sum n f ≡ sum n g = sum_cong n f g (λ i m. e i (omega arith) (λ d. omega arith)) in
        omega (zlin, same, ap f s, ap g s, ints.sum (sum n f) (f n), ints.sum (sum n g) (g n))
    by (no d) ih =
        let same : f n ≡ g n = e n (omega arith) (λ s. d (sym s)) in
        omega (zlin, ih d, same, ints.sum (sum n f) (f n), ints.sum (sum n g) (g n))
