-- Decimal digits: what they are of a number below 10 and of a larger one, which determines them, and how many there are. Assumes nothing.
use mathlib.Core.Path.{◌≡◌, refl, sym, ap, ◌∙◌}
use mathlib.Core.List.{List, [], ◌∷◌, ◌++◌}
use Prim.Native.Nat.{ℕ, zero, suc, ◌+◌, ◌/◌, ◌%◌, ◌^◌, ◌≤◌, ◌<◌}
use native.Mathlib.Decide.{dec_lt}
use native.Mathlib.Nat.{div-le_self, div-lt_iff_lt-mul, pow-succ', mul_comm}
use native.Mathlib.Omega.{arith}
use borrow.Author.Tests.{lt-ltb, le-ltb}
use lib.ListN.{length, length-append}
use Rattle.lines.specs.Decimal.{digits, decimal}

-- Without its last digit, a number has one digit less.
less-below : (k x : ℕ) → x < 10 ^ suc k → x / 10 < 10 ^ k
less-below k x h = (div-lt_iff_lt-mul {k = 10} {x = x} {y = 10 ^ k} (omega arith)).1 (omega (arith, pow-succ' 10 k, mul_comm 10 (10 ^ k)))

digits_none : (x : ℕ) → digits 0 x ≡ []
unfolding digits
digits_none x = refl

digits_small : (k x : ℕ) → x < 10 → digits (suc k) x ≡ (48 + x % 10) ∷ []
unfolding digits
digits_small k x h = rw (lt-ltb x 10 h)

digits_more : (k x : ℕ) → 10 ≤ x → digits (suc k) x ≡ digits k (x / 10) ++ ((48 + x % 10) ∷ [])
unfolding digits
digits_more k x h = rw (le-ltb x 10 h)

-- More digits than enough are as good as enough.
enough : (k m x : ℕ) → x < 10 ^ suc k → x < 10 ^ suc m → digits (suc k) x ≡ digits (suc m) x
enough zero m x h l = digits_small 0 x (omega arith) ∙ sym (digits_small m x (omega arith))
enough (suc k) zero x h l = digits_small (suc k) x (omega arith) ∙ sym (digits_small 0 x (omega arith))
enough (suc k) (suc m) x h l = by (dec_lt x 10) (enough k m (x / 10) (less-below (suc k) x h) (less-below (suc m) x l))
  where
    by : Dec (x < 10) → digits (suc k) (x / 10) ≡ digits (suc m) (x / 10) → digits (suc (suc k)) x ≡ digits (suc (suc m)) x
    by (yes s) same = digits_small (suc k) x s ∙ sym (digits_small (suc m) x s)
    by (no s) same =
        digits_more (suc k) x (omega arith) ∙ ap (λ (t : List ℕ). t ++ ((48 + x % 10) ∷ [])) same ∙ sym (digits_more (suc m) x (omega arith))

-- The two laws that determine the digits of a number of 64 bits.
pub decimal_small : (x : ℕ) → x < 10 → decimal x ≡ (48 + x % 10) ∷ []
decimal_small = digits_small 19

pub length_digit : (x : ℕ) → x < 10 → length (decimal x) ≡ 1
length_digit x h = ap length (decimal_small x h)

pub decimal_more : (x : ℕ) → x < 2 ^ 64 → 10 ≤ x → decimal x ≡ decimal (x / 10) ++ ((48 + x % 10) ∷ [])
decimal_more x l h =
    digits_more 19 x h
    ∙ ap (λ (t : List ℕ). t ++ ((48 + x % 10) ∷ [])) (enough 18 19 (x / 10) (less-below 19 x (omega arith)) (omega (arith, div-le_self x 10)))

pub length_more : (x : ℕ) → x < 2 ^ 64 → 10 ≤ x → length (decimal x) ≡ length (decimal (x / 10)) + 1
length_more x l h = ap length (decimal_more x l h) ∙ length-append (decimal (x / 10)) ((48 + x % 10) ∷ [])

pub length_digits : (k m x : ℕ) → x < 10 ^ suc k → length (digits m x) ≤ suc k
length_digits k zero x h = omega (arith, ap length (digits_none x))
length_digits k (suc m) x h = by (dec_lt x 10) k h (λ j l. length_digits j m (x / 10) l)
  where
    by : Dec (x < 10) → (k : ℕ) → x < 10 ^ suc k → ((j : ℕ) → x / 10 < 10 ^ suc j → length (digits m (x / 10)) ≤ suc j) → length (digits (suc m) x) ≤ suc k
    by (yes s) k h ih = omega (arith, ap length (digits_small m x s))
    by (no s) zero h ih = absurd (omega arith)
    by (no s) (suc k) h ih =
        omega (arith, ap length (digits_more m x (omega arith)), length-append (digits m (x / 10)) ((48 + x % 10) ∷ []), ih k (less-below (suc k) x h))

-- A number of 64 bits has at most 20 digits.
pub decimal_short : (x : ℕ) → x < 2 ^ 64 → length (decimal x) ≤ 20
decimal_short x h = length_digits 19 20 x (omega arith)
