-- Sums, differences and negation of integers, as facts for omega's list; and those of any depth by one entry, `exact`. Assumes nothing.
use mathlib.Core.Path.{◌≡◌, refl}
use mathlib.Core.Bool.{Bool, true, false, not, cond}
use Prim.Native.Nat.{ℕ, zero, suc, ◌+◌, ◌-◌, ◌≤◌, ◌<◌}
use native.Mathlib.Omega.{arith}
use lib.Dec.{T, ltb, ltb→lt, nltb→le}
use lib.IntN.{ℤ, pos, negsuc, ◌+ℤ◌, ◌-ℤ◌, neg_ℤ, sub_ℕ}
use Rattle.ints.specs.Parts.{up, down}

subℕ-parts : (a b : ℕ) → up (sub_ℕ a b) + b ≡ down (sub_ℕ a b) + a
subℕ-parts a b = by (ltb a b) (λ t. ltb→lt a b t) (λ t. nltb→le a b t)
  where
    picked : Bool → ℤ
    picked t = cond t (negsuc (b - suc a)) (pos (a - b))

    by : (t : Bool) → (T t → a < b) → (T (not t) → b ≤ a) → up (picked t) + b ≡ down (picked t) + a
    by true f g = omega (arith, f tt)
    by false f g = omega (arith, g tt)

pub sum : (a b : ℤ) → up (a +ℤ b) + (down a + down b) ≡ down (a +ℤ b) + (up a + up b)
sum (pos a) (pos b) = omega arith
sum (pos a) (negsuc b) = omega (arith, subℕ-parts a (suc b))
sum (negsuc a) (pos b) = omega (arith, subℕ-parts b (suc a))
sum (negsuc a) (negsuc b) = omega arith

pub up_neg : (a : ℤ) → up (neg_ℤ a) ≡ down a
up_neg (pos zero) = refl
up_neg (pos (suc a)) = refl
up_neg (negsuc a) = refl

pub down_neg : (a : ℤ) → down (neg_ℤ a) ≡ up a
down_neg (pos zero) = refl
down_neg (pos (suc a)) = refl
down_neg (negsuc a) = refl

pub dif : (a b : ℤ) → up (a -ℤ b) + (down a + up b) ≡ down (a -ℤ b) + (up a + down b)
dif a b = omega (arith, sum a (neg_ℤ b), up_neg b, down_neg b)

-- ---- sums and differences of any depth: `exact ((at c ⊟ at v) ⊟ at h)`

infixl 60 ◌⊞◌ ◌⊟◌
pub data Expression : Type 0 where
  at : ℤ → Expression
  ◌⊞◌ ◌⊟◌ : Expression → Expression → Expression

abbrev pub value : Expression → ℤ
value (at z) = z
value (x ⊞ y) = value x +ℤ value y
value (x ⊟ y) = value x -ℤ value y

abbrev mutual
  pub ups : Expression → ℕ
  ups (at z) = up z
  ups (x ⊞ y) = ups x + ups y
  ups (x ⊟ y) = ups x + downs y

  pub downs : Expression → ℕ
  downs (at z) = down z
  downs (x ⊞ y) = downs x + downs y
  downs (x ⊟ y) = downs x + ups y

pub exact : (e : Expression) → up (value e) + downs e ≡ down (value e) + ups e
exact (at z) = omega arith
exact (x ⊞ y) = omega (arith, exact x, exact y, sum (value x) (value y))
exact (x ⊟ y) = omega (arith, exact x, exact y, dif (value x) (value y))
