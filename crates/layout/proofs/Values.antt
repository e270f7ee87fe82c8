-- Numbers as bytes, there and back, for any width. Assumes nothing.
use mathlib.Core.Path.{◌≡◌, refl, ap, ◌∙◌}
use mathlib.Core.List.{List, [], ◌∷◌, ◌++◌}
use Prim.Native.Nat.{ℕ, zero, suc, ◌+◌, ◌*◌, ◌-◌, ◌/◌, ◌^◌, ◌≤◌, ◌<◌}
use native.Mathlib.Nat.{zero-lt-suc, pow-le-pow_right, pow-succ', div-lt_iff_lt-mul, mul_comm, mod-add-div, div-mul-le_self, mul-le-mul_left}
use native.Mathlib.Omega.{arith}
use borrow.Author.Tests.{lt-ltb, le-ltb}
use lib.IntN.{ℤ, pos, negsuc}
use lib.ListN.{length, get_or}
use lib.Signed.{mag}
use Rattle.layout.specs.Values.{bytes_of, value_of, wrapped, unwrapped, signed_bytes, signed_value}

pub length-bytes_of : (k x : ℕ) → length (bytes_of k x) ≡ k
unfolding bytes_of
length-bytes_of zero x = refl
length-bytes_of (suc k) x = ap suc (length-bytes_of k _)

pub length-signed_bytes : (k : ℕ) (z : ℤ) → length (signed_bytes k z) ≡ k
length-signed_bytes k z = length-bytes_of k (wrapped k z)

-- A number that fits k bytes is what its k bytes stand for.
pub value_bytes_of : (k x : ℕ) → x < 256 ^ k → value_of (bytes_of k x) ≡ x
unfolding bytes_of value_of
value_bytes_of zero x h = omega arith
value_bytes_of (suc k) x h =
    let below : x / 256 < 256 ^ k = (div-lt_iff_lt-mul {k = 256} {x = x} {y = 256 ^ k} (omega arith)).1 (omega (arith, pow-succ' 256 k, mul_comm 256 (256 ^ k))) in
    omega (arith, value_bytes_of k (x / 256) below, mod-add-div x 256)

-- Zeros behind bytes change nothing.
pub padded : (p l : List ℕ) → ((i : ℕ) → get_or l i 0 ≡ 0) → value_of (p ++ l) ≡ value_of p
unfolding value_of
padded [] [] z = refl
padded [] (b ∷ l) z = omega (arith, z 0, padded [] l (λ i. z (suc i)))
padded (a ∷ p) l z = ap (λ (n : ℕ). a + 256 * n) (padded p l z)

-- One byte more, the lowest: how large the value is.
more_below : (m v b : ℕ) → v < 256 ^ m → b < 256 → v * 256 + b < 256 ^ suc m
more_below m v b h l = omega (arith, pow-succ' 256 m, mul-le-mul_left 256 h)

-- What bytes stand for is below what so many bytes can say.
pub value_below : (l : List ℕ) (k : ℕ) → length l ≤ k → ((i : ℕ) → i < length l → get_or l i 0 < 256) → value_of l < 256 ^ k
unfolding value_of
value_below [] k h f = let z : 0 ≤ k = omega arith in let p : 256 ^ 0 ≤ 256 ^ k = pow-le-pow_right (zero-lt-suc 255) z in omega arith
value_below (b ∷ l) zero h f = absurd (omega arith)
value_below (b ∷ l) (suc k) h f = omega (arith, more_below k (value_of l) b (value_below l k (omega arith) (λ i m. f (suc i) (omega arith))) (f 0 (omega arith)))

-- ---- two's complement

module _ (k : ℕ) (z : ℤ) (fits : mag z < 256 ^ k / 2) where
  pub wrapped-below : wrapped k z < 256 ^ k
  wrapped-below = by z fits
    where
      by : (z : ℤ) → mag z < 256 ^ k / 2 → wrapped k z < 256 ^ k
      by (pos n) h = omega (arith, div-mul-le_self (256 ^ k) 2)
      by (negsuc n) h = omega (arith, div-mul-le_self (256 ^ k) 2)

  pub unwrapped-wrapped : unwrapped k (wrapped k z) ≡ z
  unwrapped-wrapped = by z fits
    where
      by : (z : ℤ) → mag z < 256 ^ k / 2 → unwrapped k (wrapped k z) ≡ z
      by (pos n) h = rw (lt-ltb n (256 ^ k / 2) h)
      by (negsuc n) h =
          let upper : 256 ^ k / 2 ≤ 256 ^ k - suc n = omega (arith, div-mul-le_self (256 ^ k) 2) in
          let back : 256 ^ k - suc (256 ^ k - suc n) ≡ n = omega (arith, div-mul-le_self (256 ^ k) 2) in
          rw (le-ltb (256 ^ k - suc n) (256 ^ k / 2) upper) (ap negsuc back)

  -- An integer that fits k bytes is what its k bytes stand for.
  pub signed_value-signed_bytes : signed_value k (signed_bytes k z) ≡ z
  signed_value-signed_bytes = ap (unwrapped k) (value_bytes_of k (wrapped k z) wrapped-below) ∙ unwrapped-wrapped
