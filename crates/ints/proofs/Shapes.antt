-- Orders and equations of integers with a sum or a difference on a side, read as facts of natural numbers and made from them.
-- Written by shapes.sh. Assumes nothing.
use mathlib.Core.Path.{◌≡◌}
use Prim.Native.Nat.{◌+◌, ◌-◌, ◌^◌, ◌≤◌, ◌<◌}
use lib.IntN.{ℤ, ◌+ℤ◌, ◌-ℤ◌}
use lib.Signed.{◌≤ℤ◌, ◌<ℤ◌}
use mir.Syntax.{Width}
use mir.Val.{SFits, hbits}
use Rattle.ints.specs.Parts.{up, down}
use Rattle.ints.proofs.Sums.{sum, dif}
use Rattle.ints.proofs.Ranges.{zarith}

pub read_le_ss : (a b c d : ℤ) → (a -ℤ b) ≤ℤ (c -ℤ d) → up a + down b + down c + up d ≤ up c + down d + down a + up b
read_le_ss a b c d h = omega (zarith, dif a b, dif c d)

pub make_le_ss : (a b c d : ℤ) → up a + down b + down c + up d ≤ up c + down d + down a + up b → (a -ℤ b) ≤ℤ (c -ℤ d)
make_le_ss a b c d h = omega (zarith, dif a b, dif c d)

pub read_le_sa : (a b c d : ℤ) → (a -ℤ b) ≤ℤ (c +ℤ d) → up a + down b + down c + down d ≤ up c + up d + down a + up b
read_le_sa a b c d h = omega (zarith, dif a b, sum c d)

pub make_le_sa : (a b c d : ℤ) → up a + down b + down c + down d ≤ up c + up d + down a + up b → (a -ℤ b) ≤ℤ (c +ℤ d)
make_le_sa a b c d h = omega (zarith, dif a b, sum c d)

pub read_le_sv : (a b c : ℤ) → (a -ℤ b) ≤ℤ c → up a + down b + down c ≤ up c + down a + up b
read_le_sv a b c h = omega (zarith, dif a b)

pub make_le_sv : (a b c : ℤ) → up a + down b + down c ≤ up c + down a + up b → (a -ℤ b) ≤ℤ c
make_le_sv a b c h = omega (zarith, dif a b)

pub read_le_as : (a b c d : ℤ) → (a +ℤ b) ≤ℤ (c -ℤ d) → up a + up b + down c + up d ≤ up c + down d + down a + down b
read_le_as a b c d h = omega (zarith, sum a b, dif c d)

pub make_le_as : (a b c d : ℤ) → up a + up b + down c + up d ≤ up c + down d + down a + down b → (a +ℤ b) ≤ℤ (c -ℤ d)
make_le_as a b c d h = omega (zarith, sum a b, dif c d)

pub read_le_aa : (a b c d : ℤ) → (a +ℤ b) ≤ℤ (c +ℤ d) → up a + up b + down c + down d ≤ up c + up d + down a + down b
read_le_aa a b c d h = omega (zarith, sum a b, sum c d)

pub make_le_aa : (a b c d : ℤ) → up a + up b + down c + down d ≤ up c + up d + down a + down b → (a +ℤ b) ≤ℤ (c +ℤ d)
make_le_aa a b c d h = omega (zarith, sum a b, sum c d)

pub read_le_av : (a b c : ℤ) → (a +ℤ b) ≤ℤ c → up a + up b + down c ≤ up c + down a + down b
read_le_av a b c h = omega (zarith, sum a b)

pub make_le_av : (a b c : ℤ) → up a + up b + down c ≤ up c + down a + down b → (a +ℤ b) ≤ℤ c
make_le_av a b c h = omega (zarith, sum a b)

pub read_le_vs : (a c d : ℤ) → a ≤ℤ (c -ℤ d) → up a + down c + up d ≤ up c + down d + down a
read_le_vs a c d h = omega (zarith, dif c d)

pub make_le_vs : (a c d : ℤ) → up a + down c + up d ≤ up c + down d + down a → a ≤ℤ (c -ℤ d)
make_le_vs a c d h = omega (zarith, dif c d)

pub read_le_va : (a c d : ℤ) → a ≤ℤ (c +ℤ d) → up a + down c + down d ≤ up c + up d + down a
read_le_va a c d h = omega (zarith, sum c d)

pub make_le_va : (a c d : ℤ) → up a + down c + down d ≤ up c + up d + down a → a ≤ℤ (c +ℤ d)
make_le_va a c d h = omega (zarith, sum c d)

pub read_lt_ss : (a b c d : ℤ) → (a -ℤ b) <ℤ (c -ℤ d) → up a + down b + down c + up d < up c + down d + down a + up b
read_lt_ss a b c d h = omega (zarith, dif a b, dif c d)

pub make_lt_ss : (a b c d : ℤ) → up a + down b + down c + up d < up c + down d + down a + up b → (a -ℤ b) <ℤ (c -ℤ d)
make_lt_ss a b c d h = omega (zarith, dif a b, dif c d)

pub read_lt_sa : (a b c d : ℤ) → (a -ℤ b) <ℤ (c +ℤ d) → up a + down b + down c + down d < up c + up d + down a + up b
read_lt_sa a b c d h = omega (zarith, dif a b, sum c d)

pub make_lt_sa : (a b c d : ℤ) → up a + down b + down c + down d < up c + up d + down a + up b → (a -ℤ b) <ℤ (c +ℤ d)
make_lt_sa a b c d h = omega (zarith, dif a b, sum c d)

pub read_lt_sv : (a b c : ℤ) → (a -ℤ b) <ℤ c → up a + down b + down c < up c + down a + up b
read_lt_sv a b c h = omega (zarith, dif a b)

pub make_lt_sv : (a b c : ℤ) → up a + down b + down c < up c + down a + up b → (a -ℤ b) <ℤ c
make_lt_sv a b c h = omega (zarith, dif a b)

pub read_lt_as : (a b c d : ℤ) → (a +ℤ b) <ℤ (c -ℤ d) → up a + up b + down c + up d < up c + down d + down a + down b
read_lt_as a b c d h = omega (zarith, sum a b, dif c d)

pub make_lt_as : (a b c d : ℤ) → up a + up b + down c + up d < up c + down d + down a + down b → (a +ℤ b) <ℤ (c -ℤ d)
make_lt_as a b c d h = omega (zarith, sum a b, dif c d)

pub read_lt_aa : (a b c d : ℤ) → (a +ℤ b) <ℤ (c +ℤ d) → up a + up b + down c + down d < up c + up d + down a + down b
read_lt_aa a b c d h = omega (zarith, sum a b, sum c d)

pub make_lt_aa : (a b c d : ℤ) → up a + up b + down c + down d < up c + up d + down a + down b → (a +ℤ b) <ℤ (c +ℤ d)
make_lt_aa a b c d h = omega (zarith, sum a b, sum c d)

pub read_lt_av : (a b c : ℤ) → (a +ℤ b) <ℤ c → up a + up b + down c < up c + down a + down b
read_lt_av a b c h = omega (zarith, sum a b)

pub make_lt_av : (a b c : ℤ) → up a + up b + down c < up c + down a + down b → (a +ℤ b) <ℤ c
make_lt_av a b c h = omega (zarith, sum a b)

pub read_lt_vs : (a c d : ℤ) → a <ℤ (c -ℤ d) → up a + down c + up d < up c + down d + down a
read_lt_vs a c d h = omega (zarith, dif c d)

pub make_lt_vs : (a c d : ℤ) → up a + down c + up d < up c + down d + down a → a <ℤ (c -ℤ d)
make_lt_vs a c d h = omega (zarith, dif c d)

pub read_lt_va : (a c d : ℤ) → a <ℤ (c +ℤ d) → up a + down c + down d < up c + up d + down a
read_lt_va a c d h = omega (zarith, sum c d)

pub make_lt_va : (a c d : ℤ) → up a + down c + down d < up c + up d + down a → a <ℤ (c +ℤ d)
make_lt_va a c d h = omega (zarith, sum c d)

pub read_eq_ss : (a b c d : ℤ) → (a -ℤ b) ≡ (c -ℤ d) → up a + down b + down c + up d ≡ up c + down d + down a + up b
read_eq_ss a b c d h = omega (zarith, dif a b, dif c d)

pub make_eq_ss : (a b c d : ℤ) → up a + down b + down c + up d ≡ up c + down d + down a + up b → (a -ℤ b) ≡ (c -ℤ d)
make_eq_ss a b c d h = omega (zarith, dif a b, dif c d)

pub read_eq_sa : (a b c d : ℤ) → (a -ℤ b) ≡ (c +ℤ d) → up a + down b + down c + down d ≡ up c + up d + down a + up b
read_eq_sa a b c d h = omega (zarith, dif a b, sum c d)

pub make_eq_sa : (a b c d : ℤ) → up a + down b + down c + down d ≡ up c + up d + down a + up b → (a -ℤ b) ≡ (c +ℤ d)
make_eq_sa a b c d h = omega (zarith, dif a b, sum c d)

pub read_eq_sv : (a b c : ℤ) → (a -ℤ b) ≡ c → up a + down b + down c ≡ up c + down a + up b
read_eq_sv a b c h = omega (zarith, dif a b)

pub make_eq_sv : (a b c : ℤ) → up a + down b + down c ≡ up c + down a + up b → (a -ℤ b) ≡ c
make_eq_sv a b c h = omega (zarith, dif a b)

pub read_eq_as : (a b c d : ℤ) → (a +ℤ b) ≡ (c -ℤ d) → up a + up b + down c + up d ≡ up c + down d + down a + down b
read_eq_as a b c d h = omega (zarith, sum a b, dif c d)

pub make_eq_as : (a b c d : ℤ) → up a + up b + down c + up d ≡ up c + down d + down a + down b → (a +ℤ b) ≡ (c -ℤ d)
make_eq_as a b c d h = omega (zarith, sum a b, dif c d)

pub read_eq_aa : (a b c d : ℤ) → (a +ℤ b) ≡ (c +ℤ d) → up a + up b + down c + down d ≡ up c + up d + down a + down b
read_eq_aa a b c d h = omega (zarith, sum a b, sum c d)

pub make_eq_aa : (a b c d : ℤ) → up a + up b + down c + down d ≡ up c + up d + down a + down b → (a +ℤ b) ≡ (c +ℤ d)
make_eq_aa a b c d h = omega (zarith, sum a b, sum c d)

pub read_eq_av : (a b c : ℤ) → (a +ℤ b) ≡ c → up a + up b + down c ≡ up c + down a + down b
read_eq_av a b c h = omega (zarith, sum a b)

pub make_eq_av : (a b c : ℤ) → up a + up b + down c ≡ up c + down a + down b → (a +ℤ b) ≡ c
make_eq_av a b c h = omega (zarith, sum a b)

pub read_eq_vs : (a c d : ℤ) → a ≡ (c -ℤ d) → up a + down c + up d ≡ up c + down d + down a
read_eq_vs a c d h = omega (zarith, dif c d)

pub make_eq_vs : (a c d : ℤ) → up a + down c + up d ≡ up c + down d + down a → a ≡ (c -ℤ d)
make_eq_vs a c d h = omega (zarith, dif c d)

pub read_eq_va : (a c d : ℤ) → a ≡ (c +ℤ d) → up a + down c + down d ≡ up c + up d + down a
read_eq_va a c d h = omega (zarith, sum c d)

pub make_eq_va : (a c d : ℤ) → up a + down c + down d ≡ up c + up d + down a → a ≡ (c +ℤ d)
make_eq_va a c d h = omega (zarith, sum c d)

pub fits_dif : (w : Width) (a b : ℤ) → (up a + down b - (down a + up b)) + (down a + up b - (up a + down b)) < 2 ^ hbits w → SFits w (a -ℤ b)
fits_dif w a b h = omega (zarith, dif a b)

pub fits_sum : (w : Width) (a b : ℤ) → (up a + up b - (down a + down b)) + (down a + down b - (up a + up b)) < 2 ^ hbits w → SFits w (a +ℤ b)
fits_sum w a b h = omega (zarith, sum a b)

-- Linear arithmetic over the integers, sums and differences of two among it.
pub ruleset zlin = (read_le_ss, make_le_ss, read_le_sa, make_le_sa, read_le_sv, make_le_sv, read_le_as, make_le_as, read_le_aa, make_le_aa, read_le_av, make_le_av, read_le_vs, make_le_vs, read_le_va, make_le_va, read_lt_ss, make_lt_ss, read_lt_sa, make_lt_sa, read_lt_sv, make_lt_sv, read_lt_as, make_lt_as, read_lt_aa, make_lt_aa, read_lt_av, make_lt_av, read_lt_vs, make_lt_vs, read_lt_va, make_lt_va, read_eq_ss, make_eq_ss, read_eq_sa, make_eq_sa, read_eq_sv, make_eq_sv, read_eq_as, make_eq_as, read_eq_aa, make_eq_aa, read_eq_av, make_eq_av, read_eq_vs, make_eq_vs, read_eq_va, make_eq_va, fits_dif, fits_sum, zarith)
