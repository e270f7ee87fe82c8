-- A number's bits as a set: how many there are, those of two numbers together, a single one, and none from n up. What `u64::count_ones`, `|`, `1 << j` and
-- `(x >> j) & 1` are bound by. Assumes nothing.
use mathlib.Core.Path.{◌≡◌, sym, ap, ap₂, ◌∙◌}
use mathlib.Core.Bool.{true, false, cond, not, ◌||◌}
use mathlib.Core.Logic.{◌⊎◌, inl, inr, ⊎_elim, ◌↔◌}
use Prim.Native.Nat.{ℕ, zero, suc, ◌+◌, ◌-◌, ◌*◌, ◌/◌, ◌%◌, ◌^◌, ◌≤◌, ◌<◌}
use native.Mathlib.Nat.{zero-lt-suc, mod-lt, mod-eq_of_lt, div-one, div-eq_of_lt, mul-mod_left, one-mul, zero-div}
use native.Mathlib.Decide.{ℕ_discrete, dec_lt}
use native.Mathlib.Omega.{arith}
use lib.Dec.{eqb}
use lib.Bits.{bit_and, bit_or, bit_xor, or_shr, or_mod, xor_shr, xor_mod, and_mask}
use lib.Pow.{pow_pos, pow_mono, pow-lt, pow-add, split, shr_lt, shr-shr, shl-shr, high, low, ones_lt, ones_split}
use lib.Count.{ones, ones_step, ones-le}
use borrow.Author.Tests.{eqb-true, eqb-false, eq-eqb, ne_eqb}
use Rattle.lists.specs.Counts.{count, bit_of}
use Rattle.lists.proofs.Counts.{count_none, count-first, count_cong}

-- ---- one digit

digit : (n : ℕ) → (n % 2 ≡ 0) ⊎ (n % 2 ≡ 1)
digit n = let l : n % 2 < 2 = mod-lt n (zero-lt-suc 1) in by (ℕ_discrete (n % 2) 0) l
  where
    by : Dec (n % 2 ≡ 0) → n % 2 < 2 → (n % 2 ≡ 0) ⊎ (n % 2 ≡ 1)
    by (yes e) l = inl e
    by (no d) l = inr (omega arith)

digit_flag : (n : ℕ) → cond (eqb (n % 2) 1) 1 0 ≡ n % 2
digit_flag n = ⊎_elim (λ e. rw e) (λ e. rw e) (digit n)

-- The digits above the lowest are those of the half.
shifted : (n i : ℕ) → bit_of (n / 2) i ≡ bit_of n (suc i)
shifted n i = ap (λ (x : ℕ). eqb (x % 2) 1) (shr-shr n 1 i ∙ ap (λ (k : ℕ). n / 2 ^ k) (let e : 1 + i ≡ suc i = omega arith in e))

-- ---- how many

-- What `count_ones` gives is the count of the bits.
pub ones_count : (k n : ℕ) → n < 2 ^ k → ones n ≡ count k (bit_of n)
ones_count zero n l = let h = ones-le 0 n l in let e : ones n ≡ 0 = omega arith in e ∙ sym (count_none (bit_of n))
ones_count (suc k) n l =
    ones_step n
    ∙ ap₂ ◌+◌ (sym (digit_flag n) ∙ ap (λ (x : ℕ). cond (eqb (x % 2) 1) 1 0) (sym (div-one n)))
    (ones_count k (n / 2) (half k n l) ∙ count_cong k (bit_of (n / 2)) (λ i. bit_of n (suc i)) (λ i h. shifted n i))
    ∙ sym (count-first k (bit_of n))
  where
    half : (k n : ℕ) → n < 2 ^ suc k → n / 2 < 2 ^ k
    half k n l = shr_lt k 1 (let e : k + 1 ≡ suc k = omega arith in rw e l)

-- ---- two together

pub bit_of-bit_or : (a b i : ℕ) → bit_of (bit_or a b) i ≡ (bit_of a i || bit_of b i)
bit_of-bit_or a b i = ap (λ (x : ℕ). eqb (x % 2) 1) (or_shr a b i) ∙ low (a / 2 ^ i) (b / 2 ^ i)
  where
    digits : (x y : ℕ) → (x ≡ 0) ⊎ (x ≡ 1) → (y ≡ 0) ⊎ (y ≡ 1) → eqb (bit_or x y) 1 ≡ (eqb x 1 || eqb y 1)
    digits x y (inl e) (inl d) = rw (e, d)
    digits x y (inl e) (inr d) = rw (e, d)
    digits x y (inr e) (inl d) = rw (e, d)
    digits x y (inr e) (inr d) = rw (e, d)

    low : (x y : ℕ) → eqb (bit_or x y % 2) 1 ≡ (eqb (x % 2) 1 || eqb (y % 2) 1)
    low x y = ap (λ (n : ℕ). eqb n 1) (or_mod x y 1) ∙ digits (x % 2) (y % 2) (digit x) (digit y)

-- ---- a single one

pub bit_single : (j i : ℕ) → bit_of (2 ^ j) i ≡ eqb i j
bit_single j i = by (ℕ_discrete i j) (dec_lt i j)
  where
    by : Dec (i ≡ j) → Dec (i < j) → bit_of (2 ^ j) i ≡ eqb i j
    by (yes e) d =
        let one : 2 ^ j / 2 ^ i ≡ 1 = ap (λ (k : ℕ). 2 ^ j / 2 ^ k) e ∙ ap (λ (x : ℕ). x / 2 ^ j) (sym (one-mul (2 ^ j))) ∙ shl-shr 1 j in
        rw (eq-eqb i j e, one)
    by (no n) (yes l) =
        let s : (j - i - 1) + 1 + i ≡ j = omega arith in
        let e : 2 ^ j ≡ 2 ^ (j - i - 1) * 2 * 2 ^ i =
        ap (λ (k : ℕ). 2 ^ k) (sym s) ∙ pow-add 2 (j - i - 1 + 1) i ∙ ap (λ (x : ℕ). x * 2 ^ i) (pow-add 2 (j - i - 1) 1) in
        let q : 2 ^ j / 2 ^ i ≡ 2 ^ (j - i - 1) * 2 = ap (λ (x : ℕ). x / 2 ^ i) e ∙ shl-shr (2 ^ (j - i - 1) * 2) i in
        rw (ne_eqb i j n, q, mul-mod_left (2 ^ (j - i - 1)) 2)
    by (no n) (no l) =
        let h : j < i = omega arith in
        let q : 2 ^ j / 2 ^ i ≡ 0 = div-eq_of_lt (pow-lt h) in
        rw (ne_eqb i j n, q)

-- ---- all of them, and those that are not in a number

pub bit_full : (n i : ℕ) → i < n → bit_of (2 ^ n - 1) i ≡ true
bit_full n i l = rw (top, odd)
  where
    top : (2 ^ n - 1) / 2 ^ i ≡ 2 ^ (n - i) - 1
    top =
        let s : n - i + i ≡ n = omega arith in
        ap (λ (k : ℕ). (2 ^ k - 1) / 2 ^ i) (sym s) ∙ ap (λ (x : ℕ). x / 2 ^ i) (ones_split (n - i) i) ∙ high (2 ^ (n - i) - 1) i (ones_lt i)

    odd : (2 ^ (n - i) - 1) % 2 ≡ 1
    odd =
        let s : n - i - 1 + 1 ≡ n - i = omega arith in
        ap (λ (k : ℕ). (2 ^ k - 1) % 2) (sym s) ∙ ap (λ (x : ℕ). x % 2) (ones_split (n - i - 1) 1) ∙ low (2 ^ (n - i - 1) - 1) 1 (ones_lt 1)

pub bit_others : (n b i : ℕ) → i < n → bit_of (bit_xor (2 ^ n - 1) b) i ≡ not (bit_of b i)
bit_others n b i l = ap (λ (x : ℕ). eqb (x % 2) 1) (xor_shr (2 ^ n - 1) b i) ∙ lowest ((2 ^ n - 1) / 2 ^ i) (b / 2 ^ i) (eqb-true ((2 ^ n - 1) / 2 ^ i % 2) 1 (bit_full n i l))
  where
    digits : (x y : ℕ) → x ≡ 1 → (y ≡ 0) ⊎ (y ≡ 1) → eqb (bit_xor x y) 1 ≡ not (eqb y 1)
    digits x y e (inl d) = rw (e, d)
    digits x y e (inr d) = rw (e, d)

    lowest : (x y : ℕ) → x % 2 ≡ 1 → eqb (bit_xor x y % 2) 1 ≡ not (eqb (y % 2) 1)
    lowest x y e = ap (λ (n : ℕ). eqb n 1) (xor_mod x y 1) ∙ digits (x % 2) (y % 2) e (digit y)

pub bit_none : (i : ℕ) → bit_of 0 i ≡ false
bit_none i = rw (zero-div (2 ^ i))

-- ---- the bits from n up

below_top : (k x : ℕ) → x < 2 ^ suc k → bit_of x k ≡ false → x < 2 ^ k
below_top k x l clear =
    let q : x / 2 ^ k < 2 ^ 1 = shr_lt 1 k (let e : 1 + k ≡ suc k = omega arith in rw e l) in
    let none : x / 2 ^ k ≡ 0 = by (ℕ_discrete (x / 2 ^ k) 0) q in
    let whole : 0 * 2 ^ k + x % 2 ^ k ≡ x = ap (λ (d : ℕ). d * 2 ^ k + x % 2 ^ k) (sym none) ∙ split x k in
    omega (arith, mod-lt x (pow_pos k))
  where
    by : Dec (x / 2 ^ k ≡ 0) → x / 2 ^ k < 2 ^ 1 → x / 2 ^ k ≡ 0
    by (yes e) q = e
    by (no d) q =
        let one : x / 2 ^ k ≡ 1 = omega arith in
        absurd (eqb-false (x / 2 ^ k % 2) 1 clear (ap (λ (y : ℕ). y % 2) one))

clear_below : (k n x : ℕ) → x < 2 ^ k → ((i : ℕ) → n ≤ i → bit_of x i ≡ false) → x < 2 ^ n
clear_below zero n x l clear = omega (arith, pow_pos n)
clear_below (suc k) n x l clear = by (dec_lt k n) (λ h. clear_below k n x (below_top k x l (clear k h)) clear)
  where
    by : Dec (k < n) → (n ≤ k → x < 2 ^ n) → x < 2 ^ n
    by (yes h) rest = let m : 2 ^ suc k ≤ 2 ^ n = pow_mono h in omega arith
    by (no h) rest = rest (omega arith)

-- A number is below 2 ^ n exactly if its bits from n up are clear. (k bounds it, as every u64 is below 2 ^ 64.)
pub clear_iff : (k n x : ℕ) → x < 2 ^ k → (x < 2 ^ n) ↔ ((i : ℕ) → n ≤ i → bit_of x i ≡ false)
clear_iff k n x bound = (
  λ l i h. let m : 2 ^ n ≤ 2 ^ i = pow_mono h in let e : x / 2 ^ i ≡ 0 = div-eq_of_lt (omega arith) in rw e,
  clear_below k n x bound,
)

-- ---- as code tests it

pub bit_test : (n i : ℕ) → bit_and (n / 2 ^ i) 1 ≡ n / 2 ^ i % 2
bit_test n i = and_mask (n / 2 ^ i) 1

-- `1u64 << i`
pub bit_shifted : (i : ℕ) → i < 64 → 1 * 2 ^ i % 2 ^ 64 ≡ 2 ^ i
bit_shifted i l = ap (λ (x : ℕ). x % 2 ^ 64) (one-mul (2 ^ i)) ∙ mod-eq_of_lt (pow-lt l)
