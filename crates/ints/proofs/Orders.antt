-- The orders and the equality of integers, read as orders and equations of natural numbers and made from them. Assumes nothing.
use mathlib.Core.Path.{◌≡◌, sym, ap, subst}
use mathlib.Core.Bool.{true, false}
use Prim.Native.Nat.{ℕ, ◌+◌, ◌≤◌, ◌<◌}
use native.Mathlib.Omega.{arith}
use lib.Dec.{T, leb→le, le→leb, ltb→lt, lt→ltb}
use lib.IntN.{ℤ, pos, negsuc}
use lib.Signed.{◌≤ℤ◌, ◌<ℤ◌, le_z, lt_z}
use Rattle.ints.specs.Parts.{up, down}

-- ---- at most

le_z_read : (a b : ℤ) → T (le_z a b) → up a + down b ≤ up b + down a
le_z_read (pos a) (pos b) t = omega (arith, leb→le a b t)
le_z_read (pos a) (negsuc b) t = absurd t
le_z_read (negsuc a) (pos b) t = omega arith
le_z_read (negsuc a) (negsuc b) t = omega (arith, leb→le b a t)

le_z_make : (a b : ℤ) → up a + down b ≤ up b + down a → T (le_z a b)
le_z_make (pos a) (pos b) h = le→leb a b (omega arith)
le_z_make (pos a) (negsuc b) h = absurd (omega arith)
le_z_make (negsuc a) (pos b) h = tt
le_z_make (negsuc a) (negsuc b) h = le→leb b a (omega arith)

pub le_read : {a b : ℤ} → a ≤ℤ b → up a + down b ≤ up b + down a
le_read {a} {b} h = le_z_read a b h.le

pub le_make : {a b : ℤ} → up a + down b ≤ up b + down a → a ≤ℤ b
le_make {a} {b} h = record { le = le_z_make a b h }

-- ---- below

lt_z_read : (a b : ℤ) → T (lt_z a b) → up a + down b < up b + down a
lt_z_read (pos a) (pos b) t = omega (arith, ltb→lt a b t)
lt_z_read (pos a) (negsuc b) t = absurd t
lt_z_read (negsuc a) (pos b) t = omega arith
lt_z_read (negsuc a) (negsuc b) t = omega (arith, ltb→lt b a t)

lt_z_make : (a b : ℤ) → up a + down b < up b + down a → T (lt_z a b)
lt_z_make (pos a) (pos b) h = lt→ltb a b (omega arith)
lt_z_make (pos a) (negsuc b) h = absurd (omega arith)
lt_z_make (negsuc a) (pos b) h = tt
lt_z_make (negsuc a) (negsuc b) h = lt→ltb b a (omega arith)

pub lt_read : {a b : ℤ} → a <ℤ b → up a + down b < up b + down a
lt_read {a} {b} h = lt_z_read a b h.lt

pub lt_make : {a b : ℤ} → up a + down b < up b + down a → a <ℤ b
lt_make {a} {b} h = record { lt = lt_z_make a b h }

-- ---- equal

pub eq_read : {a b : ℤ} → a ≡ b → up a + down b ≡ up b + down a
eq_read {a} {b} e = omega (arith, ap up e, ap down e)

pub eq_make : {a b : ℤ} → up a + down b ≡ up b + down a → a ≡ b
eq_make {a = pos a} {b = pos b} h = let e : a ≡ b = omega arith in ap pos e
eq_make {a = pos a} {b = negsuc b} h = absurd (omega arith)
eq_make {a = negsuc a} {b = pos b} h = absurd (omega arith)
eq_make {a = negsuc a} {b = negsuc b} h = let e : a ≡ b = omega arith in ap negsuc e

-- ---- the tests that a definition or code makes, read

pub le_z_true : (a b : ℤ) → le_z a b ≡ true → up a + down b ≤ up b + down a
le_z_true a b e = le_z_read a b (subst T (sym e) tt)

pub le_z_false : (a b : ℤ) → le_z a b ≡ false → up b + down a < up a + down b
le_z_false a b e = turned (up a + down b) (up b + down a) (λ l. subst T e (le_z_make a b l))
  where
    turned : (x y : ℕ) → (x ≤ y → ⊥) → y < x
    turned x y f = omega arith

pub lt_z_true : (a b : ℤ) → lt_z a b ≡ true → up a + down b < up b + down a
lt_z_true a b e = lt_z_read a b (subst T (sym e) tt)

pub lt_z_false : (a b : ℤ) → lt_z a b ≡ false → up b + down a ≤ up a + down b
lt_z_false a b e = turned (up a + down b) (up b + down a) (λ l. subst T e (lt_z_make a b l))
  where
    turned : (x y : ℕ) → (x < y → ⊥) → y ≤ x
    turned x y f = omega arith
