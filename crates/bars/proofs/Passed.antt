-- What an input that passes the tests of bars is like; and that the list without an entry bars nothing. Assumes nothing.
use mathlib.Core.Path.{◌≡◌, ap, fun_ext}
use mathlib.Core.Bool.{Bool, true, false, not}
use mathlib.Core.Logic.{◌↔◌}
use mathlib.Core.List.{List, []}
use Prim.Native.Nat.{ℕ, ◌≤◌, ◌<◌}
use native.Mathlib.Omega.{arith}
use borrow.Author.Tests.{not-true}
use lib.IntN.{ℤ}
use lib.ListN.{length}
use Rattle.ints.specs.Parts.{Within}
use Rattle.lists.specs.Permutations.{at}
use Rattle.lists.specs.Counts.{bit_of}
use Rattle.lists.proofs.BitSets.{bit_none}
use Rattle.assignment.specs.Pairings.{signed_at, square}
use Rattle.matrix.specs.Limits.{K}
use Rattle.matrix.specs.Verdicts.{Passes}
use Rattle.matrix.proofs.Passed.{costs_in_lem}
use Rattle.matrix.proofs.Verdicts.{fails_at_iff}
use Rattle.bars.specs.Barred.{night_of, barred, bits_above}
use Rattle.bars.specs.Tests.{barred_most, costs_small, bars_clear, unbarred}

-- Costs with bars are small, and so within K.
pub barred_most_small : barred_most ≤ K
unfolding barred_most K
barred_most_small = omega arith

pub costs_small_lem : (costs : List ℤ) → Passes (costs_small costs) ↔ ((k : ℕ) → k < length costs → Within barred_most (signed_at costs k))
costs_small_lem costs = costs_in_lem barred_most costs

pub bars_clear_lem : (n : ℕ) (bars : List ℕ) → Passes (bars_clear n bars) ↔ ((i : ℕ) → i < n → bits_above n (at bars i) ≡ false)
bars_clear_lem n bars = fails_at_iff _ _ _ _

pub unbarred_iff : (n : ℕ) (costs : List ℤ) (bars cols : List ℕ) → Passes (unbarred n bars cols)
    ↔ ((i : ℕ) → i < n → (barred n costs bars).allowed i (at cols i) ≡ true)
unbarred_iff n costs bars cols =
    let t = fails_at_iff _ _ _ _ in
    (λ e i l. ap not (t.0 e i l), λ h. t.1 (λ i l. not-true (bit_of (at bars i) (at cols i)) (h i l)))

pub none_barred_lem : (m n : ℕ) (costs : List ℤ) (i j : ℕ) → (night_of m n costs []).allowed i j ≡ true
none_barred_lem m n costs i j = ap not (bit_none j)

-- A square night is one without bars.
pub square-unbarred : (n : ℕ) (costs : List ℤ) → barred n costs [] ≡ square n costs
square-unbarred n costs =
    ap (λ (allowed : ℕ → ℕ → Bool). record { row_count = n; column_count = n; cost = (square n costs).cost; allowed = allowed })
    (fun_ext (λ i. fun_ext (λ j. none_barred_lem n n costs i j)))
