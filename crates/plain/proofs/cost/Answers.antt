-- `cost` answers what a list costs. Assumes nothing.
use Rattle.std.proofs.Common.{◌≡◌, Bool, true, not, ◌||◌, List, ℕ, ◌<◌, ℤ, Some, None, length, sym, ap, ◌∙◌, arith}
use mathlib.Core.Bool.{not-not}
use mir.Syntax.{w64}
use Rattle.ints.proofs.Bits.{read_back}
use Rattle.lists.specs.Counts.{bit_of}
use Rattle.lists.specs.Permutations.{at}
use Rattle.bars.specs.Barred.{night_of}
use Rattle.matrix.specs.Cost.{total_of}
use Rattle.matrix.proofs.First.{Clear}
use Rattle.plain.specs.Engine.{taken, cost_of}
use Rattle.plain.proofs.Pairings.{eight_within, wrong, wrong_fails, right_passes}
use Rattle.plain.proofs.Answers.{cost_passed, cost_failed}
use Rattle.plain.proofs.cost.Goals as goal

module _ (m n : ℕ) (costs : List ℤ) (bars cols : List ℕ) where
  abbrev wrong_row : ℕ → Bool
  wrong_row i = bit_of (at bars i) (at cols i) || taken cols i

  same : (i : ℕ) → wrong (λ k j. not (bit_of (at bars k) j)) cols i ≡ wrong_row i
  same i = ap (λ (b : Bool). b || taken cols i) (not-not (bit_of (at bars i) (at cols i)))

  failed : (i : ℕ) → i < m → wrong_row i ≡ true → None ≡ cost_of (night_of m n costs bars) cols
  failed i l e = sym (cost_failed (night_of m n costs bars) cols (wrong_fails (night_of m n costs bars) cols i l (same i ∙ e)))

  passed : (t : ℤ) → Clear wrong_row m → t ≡ total_of n costs m cols → Some t ≡ cost_of (night_of m n costs bars) cols
  passed t clear e =
      ap Some e ∙ sym (cost_passed (night_of m n costs bars) cols (right_passes (night_of m n costs bars) cols (λ i l. same i ∙ clear i l)))

pub total_of-requires : goal.total_of-requires
total_of-requires c = let p = c.requires in (omega (arith, eight_within), omega (arith, eight_within), omega arith, p.3)

pub returns-in-Some : goal.returns-in-Some
returns-in-Some c =
    let u = c.args in
    let h = c.in-Some.ensures in
    failed (length u.cols.now) u.n u.costs.now u.bars.now u.cols.now c.in-Some.field-0 h.0 h.1

pub returns-in-None : goal.returns-in-None
returns-in-None c =
    let u = c.args in
    let t = c.total_of.result in
    passed (length u.cols.now) u.n u.costs.now u.bars.now u.cols.now _ c.in-None.ensures (read_back w64 t c.total_of.type_inv ∙ c.total_of.ensures)
