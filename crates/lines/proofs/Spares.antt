-- Spare columns: their lines, which they are, and that a night of as many rows as columns has none. Assumes nothing.
use mathlib.Core.Path.{◌≡◌, refl, sym, ap, ap₂, ◌∙◌}
use mathlib.Core.Bool.{true, false, true≢false}
use mathlib.Core.Logic.{◌↔◌}
use mathlib.Core.List.{List, [], ◌∷◌, ◌++◌}
use Prim.Native.Nat.{ℕ, zero, suc, ◌<◌}
use native.Mathlib.Omega.{arith}
use borrow.Author.Tests.{eq-eqb, eqb-true}
use lib.Dec.{eqb}
use Rattle.ints.proofs.Tests.{not_true_false}
use Rattle.lists.specs.Runs.{turns, upward, first}
use Rattle.lists.specs.Permutations.{at}
use Rattle.lists.proofs.Counts.{some_read, some_make}
use Rattle.assignment.specs.Pairings.{Night, Spare}
use Rattle.sheet.specs.Reading.{Laid}
use Rattle.sheet.specs.Settle.{found}
use Rattle.sheet.proofs.Pairing.{Readable}
use Rattle.sheet.proofs.Solver.{owed}
use Rattle.lines.specs.Decimal.{digits}
use Rattle.lines.specs.Lines.{accepted_line, row_lines, spare_line, used, spare_at, spare_lines, second_line, second_of, night_lines}

-- One row, paired with column 1 of 3: `spare 0`, `spare 2`.
rising : spare_lines 1 (1 ∷ []) 3 ≡ 115 ∷ 112 ∷ 97 ∷ 114 ∷ 101 ∷ 32 ∷ 48 ∷ 10 ∷ 115 ∷ 112 ∷ 97 ∷ 114 ∷ 101 ∷ 32 ∷ 50 ∷ 10 ∷ []
unfolding digits turns upward first spare_line spare_lines
rising = refl

-- No column, and one more.
pub spares_start : (m : ℕ) (cols : List ℕ) → spare_lines m cols 0 ≡ []
unfolding spare_lines
spares_start m cols = refl

pub spares_more : (m : ℕ) (cols : List ℕ) (k : ℕ) → spare_lines m cols (suc k) ≡ spare_lines m cols k ++ spare_at m cols k
unfolding spare_lines
spares_more m cols k = refl

used_by_lem : (m : ℕ) (cols : List ℕ) (j i : ℕ) → i < m → at cols i ≡ j → used m cols j ≡ true
used_by_lem m cols j i l e = some_make m (λ k. eqb (at cols k) j) i l (eq-eqb (at cols i) j e)

-- A column that is not told as used is spare in the sense in which prices are compared.
pub spare_iff : (night : Night) (cols : List ℕ) (j : ℕ) → (used night.row_count cols j ≡ false) ↔ Spare night cols j
spare_iff night cols j = (
  λ e i l same. true≢false (sym (used_by_lem night.row_count cols j i l same) ∙ e),
  λ spare. not_true_false (λ t. let s = some_read night.row_count (λ k. eqb (at cols k) j) t in spare s.0 s.1 (eqb-true (at cols s.0) j s.2)),
)

-- Where all of the first k columns are used, nothing is written.
pub spares_none : (m : ℕ) (cols : List ℕ) (k : ℕ) → ((j : ℕ) → j < k → used m cols j ≡ true) → spare_lines m cols k ≡ []
spares_none m cols zero h = spares_start m cols
spares_none m cols (suc k) h = spares_more m cols k ∙ rw (spares_none m cols k (λ j l. h j (omega arith)), h k (omega arith))

-- A night of as many rows as columns, as every night of editions 1 and 2 is: the first line, those of its rows and the last.
pub square_lines : (room : ℕ) (laid : Laid) → Readable room laid → laid.row_count ≡ laid.side
    → night_lines laid
    ≡ accepted_line laid.side (found laid).total ++ (row_lines laid.side laid.costs (found laid).cols laid.side ++ second_line (second_of laid))
square_lines room laid right e =
    let n = laid.side in
    let a = found laid in
    let back = (owed laid.edition laid.row_count n laid.costs laid.bars right.filled right.rows right.fewer right.small right.passes).named_back in
    let none : spare_lines n a.cols n ≡ [] = spares_none n a.cols n (λ j l. used_by_lem n a.cols j (at a.rows j) (back.inside j l) (back.back j l)) in
    ap₂ (λ (k : ℕ) (l : List ℕ). accepted_line n a.total ++ (row_lines n laid.costs a.cols k ++ (l ++ second_line (second_of laid)))) e
    (ap (λ (k : ℕ). spare_lines k a.cols n) e ∙ none)
