-- Numbers as bytes, as the library's `from_le_bytes` and `to_le_bytes` read and write them. Assumes nothing.
use mathlib.Core.Path.{◌≡◌, refl, sym, ap, ap₂, ◌∙◌}
use mathlib.Core.Bool.{Bool, true, false, cond}
use mathlib.Core.List.{List, [], ◌∷◌}
use Prim.Native.Nat.{ℕ, zero, suc, ◌+◌, ◌*◌, ◌-◌, ◌/◌, ◌%◌, ◌^◌, ◌≤◌, ◌<◌}
use native.Mathlib.Nat.{zero-mul, mul_assoc, div-one, pow-suc, pow-succ', div-div-eq-div-mul}
use native.Mathlib.Omega.{arith}
use lib.Dec.{ltb}
use lib.IntN.{ℤ, pos, negsuc}
use lib.ListN.{length, get_or, take}
use lib.Seq.{take_all, take-nil}
use mir.Syntax.{Width, w8, w16, w32, w64, w128}
use mir.Val.{SFits, sel, to_z, of_z}
use mir.Facts.{to_z-of_z}
use Rattle.std.specs.Int.{byte_at, byte_len, byte_worth, bytes_low_first, sum_through, to_le_bytes, from_le_bytes}
use Rattle.lists.specs.Parts.{part}
use Rattle.lists.proofs.Parts.{part_length}
use Rattle.layout.specs.Values.{bytes_of, value_of, wrapped, unwrapped, signed_bytes, signed_value}

-- One byte more, the highest.
value_more : (l : List ℕ) (k : ℕ) → value_of (take (suc k) l) ≡ value_of (take k l) + get_or l k 0 * 256 ^ k
unfolding value_of
value_more [] k = rw (take-nil, zero-mul) refl
value_more (b ∷ l) zero = omega arith
value_more (b ∷ l) (suc k) = omega (arith, value_more l k, ap (λ (m : ℕ). get_or l k 0 * m) (pow-succ' 256 k), mul_assoc (get_or l k 0) (256 ^ k) 256)

byte_is : (i n : ℕ) → byte_at i n ≡ n / 256 ^ i % 256
byte_is zero n = ap (λ (x : ℕ). x % 256) (sym (div-one n))
byte_is (suc i) n = refl

-- The bytes that `to_le_bytes` gives, from the i-th on.
low_first : (i k n : ℕ) → bytes_low_first i k n ≡ bytes_of k (n / 256 ^ i)
unfolding bytes_of
low_first i zero n = refl
low_first i (suc k) n = ap₂ (λ (b : ℕ) (l : List ℕ). b ∷ l) (byte_is i n) (low_first (suc i) k n ∙ ap (bytes_of k) (ap (λ (m : ℕ). n / m) (pow-suc 256 i) ∙ sym (div-div-eq-div-mul n (256 ^ i) 256)))

pub written : (w : Width) (n : ℕ) → to_le_bytes w n ≡ bytes_of (byte_len w) n
written w n = low_first 0 (byte_len w) n ∙ ap (bytes_of (byte_len w)) (div-one n)

-- What `from_le_bytes` makes of k + 1 bytes.
read_through : (l : List ℕ) (k : ℕ) → sum_through (λ i. byte_worth i (get_or l i 0)) k ≡ value_of (take (suc k) l)
unfolding value_of
read_through [] zero = refl
read_through (b ∷ l) zero = omega arith
read_through l (suc k) = ap (λ (n : ℕ). n + get_or l (suc k) 0 * 256 ^ suc k) (read_through l k) ∙ sym (value_more l (suc k))

some : (w : Width) → 0 < byte_len w
some w8 = omega arith
some w16 = omega arith
some w32 = omega arith
some w64 = omega arith
some w128 = omega arith

pub read : (w : Width) (l : List ℕ) → length l ≡ byte_len w → from_le_bytes w l ≡ value_of l
read w l e = read_through l (byte_len w - 1) ∙ ap value_of (take_all (suc (byte_len w - 1)) l (omega (arith, some w)))

-- ---- two's complement

sel_cond : (t : Bool) (x y : ℤ) → sel t x y ≡ cond t x y
sel_cond true x y = refl
sel_cond false x y = refl

pub to_z_unwrapped : (w : Width) (n : ℕ) → to_z w n ≡ unwrapped (byte_len w) n
to_z_unwrapped w8 n = sel_cond (ltb n (2 ^ 7)) (pos n) (negsuc (2 ^ 8 - suc n))
to_z_unwrapped w16 n = sel_cond (ltb n (2 ^ 15)) (pos n) (negsuc (2 ^ 16 - suc n))
to_z_unwrapped w32 n = sel_cond (ltb n (2 ^ 31)) (pos n) (negsuc (2 ^ 32 - suc n))
to_z_unwrapped w64 n = sel_cond (ltb n (2 ^ 63)) (pos n) (negsuc (2 ^ 64 - suc n))
to_z_unwrapped w128 n = sel_cond (ltb n (2 ^ 127)) (pos n) (negsuc (2 ^ 128 - suc n))

pub of_z_wrapped : (w : Width) (z : ℤ) → of_z w z ≡ wrapped (byte_len w) z
of_z_wrapped w (pos n) = refl
of_z_wrapped w8 (negsuc n) = refl
of_z_wrapped w16 (negsuc n) = refl
of_z_wrapped w32 (negsuc n) = refl
of_z_wrapped w64 (negsuc n) = refl
of_z_wrapped w128 (negsuc n) = refl

pub signed_read : (w : Width) (l : List ℕ) → length l ≡ byte_len w → to_z w (from_le_bytes w l) ≡ signed_value (byte_len w) l
signed_read w l e = to_z_unwrapped w (from_le_bytes w l) ∙ ap (unwrapped (byte_len w)) (read w l e)

-- The bits of z, read again and written.
pub signed_written : (w : Width) {z : ℤ} → SFits w z → to_le_bytes w (of_z w (to_z w (of_z w z))) ≡ signed_bytes (byte_len w) z
signed_written w {z} f =
    ap (λ (x : ℤ). to_le_bytes w (of_z w x)) (to_z-of_z f) ∙ written w (of_z w z) ∙ ap (bytes_of (byte_len w)) (of_z_wrapped w z)

-- ---- a part of a list of bytes, read as code reads it

module _ (w : Width) (at : ℕ) (bytes : List ℕ) {p : List ℕ} (e : p ≡ part at (byte_len w) bytes) (h : at + byte_len w ≤ length bytes) where
  long : length p ≡ byte_len w
  long = ap length e ∙ part_length at (byte_len w) bytes h

  pub part_read : {n : ℕ} → n ≡ from_le_bytes w p → n ≡ value_of (part at (byte_len w) bytes)
  part_read f = f ∙ read w p long ∙ ap value_of e

  pub signed_part_read : {z : ℤ} → SFits w z → z ≡ to_z w (from_le_bytes w p) → to_z w (of_z w z) ≡ signed_value (byte_len w) (part at (byte_len w) bytes)
  signed_part_read s f = to_z-of_z s ∙ f ∙ signed_read w p long ∙ ap (signed_value (byte_len w)) e
