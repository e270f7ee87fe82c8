-- Past a test: what the calls after it ask for. Assumes nothing.
use mathlib.Core.Path.{◌≡◌, refl, ap}
use mathlib.Core.List.{List, [], ◌∷◌}
use Prim.Native.Nat.{ℕ, ◌*◌, ◌≤◌, ◌<◌}
use native.Mathlib.Nat.{le_refl, le_trans}
use native.Mathlib.Omega.{arith}
use lib.IntN.{ℤ}
use lib.ListN.{length}
use Rattle.lists.specs.Permutations.{at}
use Rattle.matrix.specs.Limits.{side, sheet_side}
use Rattle.matrix.specs.Verdicts.{Passes}
use Rattle.matrix.specs.Tests.{side_within, shaped, columns_inside}
use Rattle.matrix.specs.Asked.{ColumnsListed, Listed, Shaped}
use Rattle.matrix.proofs.SmallLimits.{sheet_side_small, sheet_side_within}
use Rattle.matrix.proofs.Verdicts.{then_iff}
use Rattle.matrix.proofs.Passed.{side_within_lem, shaped_iff, columns_inside_lem}
use Rattle.assignment.specs.Pairings.{Night, square}
use Rattle.bars.specs.Barred.{night_of}
use Rattle.bars.proofs.Passed.{square-unbarred}
use Rattle.checker.specs.Tests.{rows_fit}
use Rattle.checker.specs.Check.{price_tests, checks, shaped_barred, paired_barred, checks_barred, shaped_oblong, paired_oblong, checks_oblong}
use Rattle.checker.specs.Asked.{BitsFit}
use Rattle.checker.proofs.Tests.{rows_fit_lem}
use Rattle.checker.proofs.Accepted.{checks_iff}
use Rattle.checker.proofs.Barred.{shaped_barred_iff, paired_inside, checks_barred_iff}
use Rattle.checker.proofs.Oblong.{shaped_oblong_iff, checks_oblong_iff}

-- 1, on a sheet, and 23.
pub sheet_small : (n : ℕ) → Passes (side_within sheet_side n) → n ≤ side
sheet_small n e = le_trans ((side_within_lem sheet_side n).0 e) sheet_side_within

pub rows_small : (m n : ℕ) → Passes (side_within sheet_side n) → Passes (rows_fit m n) → m ≤ side
rows_small m n e f = le_trans ((rows_fit_lem m n).0 f) (sheet_small n e)

-- 6.
pub inside : (m n : ℕ) (cols : List ℕ) → Passes (columns_inside m n cols) → (i : ℕ) → i < m → at cols i < n
inside m n cols e = (columns_inside_lem m n cols).0 e

pub listed : (m n : ℕ) (cols : List ℕ) → m ≤ length cols → Passes (columns_inside m n cols) → ColumnsListed m n cols
listed m n cols h e = record { listed = h; inside = inside m n cols e }

-- The slice without an entry bars nothing.
pub none_fit : (n : ℕ) → BitsFit n []
none_fit n i set = absurd (set refl)

pub plain_prices : (n : ℕ) (costs : List ℤ) (cols : List ℕ) (us vs : List ℤ) → price_tests (night_of n n costs []) cols us vs ≡ price_tests (square n costs) cols us vs
plain_prices n costs cols us vs = ap (λ (night : Night). price_tests night cols us vs) (square-unbarred n costs)

-- 1, 2, 3 of a square night, and all of its tests.
pub shape : (n : ℕ) (costs : List ℤ) (a b c d : ℕ) → Passes (shaped n costs (a ∷ b ∷ c ∷ d ∷ [])) → Shaped n costs a b c d
shape n costs a b c d e = (shaped_iff n costs a b c d).0 e

pub checked_listed : (n : ℕ) (costs : List ℤ) (cols rows : List ℕ) (us vs : List ℤ) → Passes (checks n costs cols rows us vs) → Listed n costs n cols
checked_listed n costs cols rows us vs e =
    let f = (checks_iff n costs cols rows us vs).0 e in
    record { small = f.sizes.small; squared = f.sizes.squared; rows = le_refl n; listed = f.sizes.columns_listed; inside = f.named.inside }

-- ---- with bars

pub barred_shape : (n : ℕ) (costs : List ℤ) (a b c d e : ℕ) → Passes (shaped_barred n costs (a ∷ b ∷ c ∷ d ∷ []) e)
    → (n ≤ 64) × (n ≤ side) × (length costs ≡ n * n) × (n ≤ a) × (n ≤ b) × (n ≤ c) × (n ≤ d) × (n ≤ e)
barred_shape n costs a b c d e passed =
    let s = (shaped_barred_iff n costs a b c d e).0 passed in
    (le_trans s.0 sheet_side_small, le_trans s.0 sheet_side_within, s.1, s.2, s.3, s.4, s.5, s.6)

pub barred_listed : (n : ℕ) (costs : List ℤ) (cols rows bars : List ℕ) → n ≤ length cols → Passes (paired_barred n costs cols rows bars) → ColumnsListed n n cols
barred_listed n costs cols rows bars h e = record { listed = h; inside = paired_inside n costs cols rows bars e }

pub small_fit : (n : ℕ) (bars : List ℕ) → n ≤ 64 → BitsFit n bars
small_fit n bars h i set = h

pub barred_totalled : (n : ℕ) (costs : List ℤ) (cols rows : List ℕ) (us vs : List ℤ) (bars : List ℕ) → Passes (checks_barred n costs cols rows us vs bars)
    → (n ≤ side) × (n * n ≤ length costs) × ColumnsListed n n cols
barred_totalled n costs cols rows us vs bars e =
    let f = ((checks_barred_iff n costs bars cols rows us vs).0 e).0 in
    (le_trans f.small sheet_side_within, omega (arith, f.squared), record { listed = f.columns_listed; inside = f.named.inside })

-- ---- of an oblong night

pub oblong_shape : (m n : ℕ) (costs : List ℤ) (cols us vs : ℕ) → Passes (shaped_oblong m n costs cols us vs)
    → (m ≤ side) × (n ≤ side) × (length costs ≡ m * n) × (m ≤ cols) × (m ≤ us) × (n ≤ vs)
oblong_shape m n costs cols us vs passed =
    let s = (shaped_oblong_iff m n costs cols us vs).0 passed in
    let small = le_trans s.0 sheet_side_within in
    (le_trans s.1 small, small, s.2, s.3, s.4, s.5)

pub oblong_listed : (m n : ℕ) (costs : List ℤ) (cols : List ℕ) → m ≤ length cols → Passes (paired_oblong m n costs cols) → ColumnsListed m n cols
oblong_listed m n costs cols h e = listed m n cols h ((then_iff _ _).0 ((then_iff _ _).0 e).0).1

pub listed_more : (m n k : ℕ) (cols : List ℕ) → n ≤ k → ColumnsListed m n cols → ColumnsListed m k cols
listed_more m n k cols h l = record { listed = l.listed; inside = λ i b. omega (arith, l.inside i b) }

pub oblong_totalled : (m n : ℕ) (costs : List ℤ) (cols : List ℕ) (us vs : List ℤ) → Passes (checks_oblong m n costs cols us vs)
    → (m ≤ side) × (n ≤ side) × (m * n ≤ length costs) × ColumnsListed m n cols
oblong_totalled m n costs cols us vs e =
    let f = ((checks_oblong_iff m n costs cols us vs).0 e).0 in
    let small = le_trans f.small sheet_side_within in
    (le_trans f.fits small, small, omega (arith, f.filled), record { listed = f.columns_listed; inside = f.inside })
