-- `lists_fit` answers tests 18, 13, 16 of a sheet of scores: a side that passes 13 is small, and so is its square. Assumes nothing.
use mathlib.Core.Path.{sym, ◌∙◌}
use Prim.Native.Nat.{◌*◌, ◌/◌, ◌≤◌}
use native.Mathlib.Nat.{mul-le-mul}
use native.Mathlib.Omega.{arith}
use borrow.Author.Tests.{ltb-false}
use Rattle.matrix.proofs.SmallLimits.{sheet_side_small}
use Rattle.matrix.proofs.Verdicts.{fails_if_iff}
use Rattle.score.proofs.tests.lists_fit.Goals as goal

squares : (c : goal.In_ok-fails_if-2) → let n = c.args.firsts / 12 in n * n ≤ 4096
squares c =
    let within = ltb-false c.sheet_side.result (c.args.firsts / 12) ((fails_if_iff _ _ _).0 (sym c.fails_if-2.ensures ∙ c.in_ok-fails_if-2.was)) in
    let few : c.args.firsts / 12 ≤ 64 = omega (arith, within, c.sheet_side.ensures, sheet_side_small) in
    mul-le-mul few few

pub overflow_mul-n : goal.overflow_mul-n
overflow_mul-n c = omega (arith, squares c)

pub overflow_mul-n-2 : goal.overflow_mul-n-2
overflow_mul-n-2 c = omega (arith, squares c)

pub overflow_add-n : goal.overflow_add-n
overflow_add-n c = omega (arith, squares c)
