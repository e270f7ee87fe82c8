-- One line each: the kinds of goal over the integers that the two rule sets close, from plain orders to two deep.
use mathlib.Core.Path.{◌≡◌}
use mathlib.Core.Bool.{true, false}
use mathlib.Core.Logic.{⊎_elim}
use Prim.Native.Nat.{ℕ, ◌+◌, ◌*◌}
use lib.IntN.{ℤ, pos, negsuc, neg_ℤ, ◌+ℤ◌, ◌-ℤ◌}
use lib.Signed.{◌≤ℤ◌, ◌<ℤ◌, lt_z, le_z}
use mir.Syntax.{w32, w64}
use mir.Val.{SFits, to_z, of_z}
use Rattle.ints.specs.Parts.{Within}
use Rattle.ints.proofs.Sums.{sum, dif, up_neg, down_neg, exact, at, ◌⊟◌}
use Rattle.ints.proofs.Ranges.{zarith}
use Rattle.ints.proofs.Shapes.{zlin}
use Rattle.ints.proofs.Tests.{le_or_lt}
use Rattle.ints.proofs.Bits.{told_fits}

-- ---- orders and equations of numbers alone

chain : (a b c : ℤ) → a ≤ℤ b → b <ℤ c → a <ℤ c
chain a b c h k = omega zarith

antisymmetric : (a b : ℤ) → a ≤ℤ b → b ≤ℤ a → a ≡ b
antisymmetric a b h k = omega zarith

no_both : (a b : ℤ) → a <ℤ b → b ≤ℤ a → ⊥
no_both a b h k = omega zarith

-- ---- a sum or a difference on either side: no list is needed

move_over : (a b c d : ℤ) → a ≤ℤ (b -ℤ c) → d ≤ℤ c → (a +ℤ d) ≤ℤ b
move_over a b c d h k = omega zlin

move_back : (a b c : ℤ) → a ≡ b -ℤ c → a +ℤ c ≡ b
move_back a b c h = omega zlin

cross : (a b c d : ℤ) → (a -ℤ b) ≤ℤ (c -ℤ d) → (a +ℤ d) ≤ℤ (c +ℤ b)
cross a b c d h = omega zlin

literals : (a b c : ℤ) → pos 5 ≤ℤ a → (pos 7 +ℤ b) ≤ℤ c → negsuc 3 ≤ℤ b → pos 8 ≤ℤ (a +ℤ c)
literals a b c h k l = omega zlin

-- ---- two deep: the inner sum or difference is listed, or the whole by `exact`

inner_listed : (v s l u : ℤ) → u ≡ v -ℤ (s -ℤ l) → l ≤ℤ s → u ≤ℤ v
inner_listed v s l u h k = omega (zlin, dif s l)

both_listed : (c v h m d : ℤ) → d ≡ (c -ℤ v) -ℤ (h -ℤ m) → m ≤ℤ h → d ≤ℤ (c -ℤ v)
both_listed c v h m d p q = omega (zlin, dif c v, dif h m)

by_exact : (c v h m d : ℤ) → d ≡ (c -ℤ v) -ℤ (h -ℤ m) → m ≤ℤ h → (d +ℤ v) ≤ℤ c
by_exact c v h m d p q = omega (zarith, sum d v, exact ((at c ⊟ at v) ⊟ (at h ⊟ at m)))

regroup : (a b c : ℤ) → (a +ℤ b) +ℤ c ≡ (a +ℤ c) +ℤ b
regroup a b c = omega (zlin, sum a b, sum a c)

-- ---- negation

negated : (a b : ℤ) → a ≤ℤ neg_ℤ b → (a +ℤ b) ≤ℤ pos 0
negated a b h = omega (zlin, up_neg b, down_neg b)

-- ---- one order or the other: the cases are named, omega closes each

greater_of_two : (a b c : ℤ) → a <ℤ c → b <ℤ c → (d : ℤ) → (a ≤ℤ b → d ≡ b) → (b <ℤ a → d ≡ a) → d <ℤ c
greater_of_two a b c h k d f g = ⊎_elim (λ l. omega (zarith, f l)) (λ l. omega (zarith, g l)) (le_or_lt a b)

-- ---- within a bound

within_inner_listed : (a b : ℤ) → Within 1000 a → Within 50 b → Within 1050 (a -ℤ b)
within_inner_listed a b h k = omega (zlin, dif a b)

within_named : (a b d : ℤ) (n m : ℕ) → Within (n + m) a → b ≡ a +ℤ d → Within m d → Within (n + m + m) b
within_named a b d n m h k l = omega zlin

within_multiple : (a b : ℤ) (k : ℕ) → Within k a → Within (5 * k) b → Within (6 * k) (a -ℤ b)
within_multiple a b k h l = omega (zlin, dif a b)

-- ---- no sum wraps

fits : (a b : ℤ) → Within 10000000000 a → SFits w32 b → SFits w64 (b -ℤ a)
fits a b h k = omega zlin

-- ---- the tests and the bits that code leaves

tests : (a b : ℤ) → lt_z a b ≡ true → le_z b a ≡ true → ⊥
tests a b h k = omega zarith

bits : (a b : ℤ) → lt_z (to_z w64 (of_z w64 a)) (to_z w64 (of_z w64 b)) ≡ false → SFits w64 a → SFits w64 b → b ≤ℤ a
bits a b h f g = omega (zarith, told_fits f, told_fits g)
