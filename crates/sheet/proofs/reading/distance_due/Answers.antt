-- `distance_due` answers the distance that an edition wants. Assumes nothing.
use Prim.Native.Nat.{ℕ, ◌*◌, ◌≤◌}
use native.Mathlib.Nat.{mul-le-mul}
use native.Mathlib.Omega.{arith}
use Rattle.matrix.specs.Limits.{sheet_side}
use Rattle.matrix.proofs.SmallLimits.{sheet_side_small}
use Rattle.sheet.proofs.Editions.{bars_short_lem, count-short}
use Rattle.sheet.proofs.reading.distance_due.Goals as goal

places : {m n : ℕ} → (m ≤ n) × (n ≤ sheet_side) → m * n ≤ 4096
places {m} {n} h =
    let few : n ≤ 64 = omega (arith, h.1, sheet_side_small) in
    let fewer : m ≤ 64 = omega (arith, h.0, few) in
    mul-le-mul fewer few

pub overflow_mul-result : goal.overflow_mul-result
overflow_mul-result c = omega (arith, places c.requires)

pub overflow_mul-result-2 : goal.overflow_mul-result-2
overflow_mul-result-2 c = omega (arith, places c.requires)

pub overflow_add-result : goal.overflow_add-result
overflow_add-result c = omega (arith, places c.requires, c.requires.1, sheet_side_small, c.bars_length.ensures, bars_short_lem c.args.edition c.args.n)

pub overflow_add-result-2 : goal.overflow_add-result-2
overflow_add-result-2 c =
    omega (arith, places c.requires, c.requires.1, sheet_side_small, c.bars_length.ensures, bars_short_lem c.args.edition c.args.n, c.row_count_length.ensures, count-short c.args.edition)
