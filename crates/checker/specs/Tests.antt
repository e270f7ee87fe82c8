-- The checker's own tests, for any night.
use Rattle.std.specs.Prelude.{Bool, not, ◌&&◌, ◌||◌, List, ℕ, ◌+◌, ◌*◌, ltb, eqb, ℤ, pos, ◌+ℤ◌, ◌-ℤ◌}
use Rattle.std.specs.Int.Signed.{lt_z}
use Rattle.lists.specs.Runs.{first}
use Rattle.lists.specs.Permutations.{at}
use Rattle.lists.specs.Counts.{some}
use Rattle.assignment.specs.Pairings.{Night, signed_at}
use Rattle.assignment.specs.Prices.{priced}
use Rattle.matrix.specs.Verdicts.{fails_at_by, fails_if, fails_at}
use Rattle.matrix.specs.Verdicts.{Verdict}
use Rattle.matrix.specs.declared.refusals.Reason.TheVariants.{RowNotNamed, PricesOverCost, PricesNotCost, RowsOver, SpareBelow}

-- 7, "the column of a row does not name that row back".
abbrev pub rows_named : ℕ → List ℕ → List ℕ → Verdict
rows_named n cols rows = fails_at RowNotNamed (λ i. i) n (λ i. not (eqb (at rows (at cols i)) i))

-- "the slack, cost minus both prices", of place (i, j).
abbrev pub slack : Night → List ℤ → List ℤ → ℕ → ℕ → ℤ
slack night us vs i j = night.cost i j -ℤ priced us vs i j

-- The prices u and v of a place are over its cost: its slack is below 0.
unfoldable pub is_over : ℤ → ℤ → ℤ → Bool
is_over cost u v = lt_z (cost -ℤ (u +ℤ v)) (pos 0)

-- "row price + column price over the cost", at place (i, j), where it is allowed: its slack is below 0.
abbrev pub over : Night → List ℤ → List ℤ → ℕ → ℕ → Bool
over night us vs i j = night.allowed i j && lt_z (slack night us vs i j) (pos 0)

-- The first such column of row i, or the number of columns.
abbrev pub over_first : Night → List ℤ → List ℤ → ℕ → ℕ
over_first night us vs i = first night.column_count (over night us vs i)

-- Whether row i has such a place.
abbrev pub over_in : Night → List ℤ → List ℤ → ℕ → Bool
over_in night us vs i = ltb (over_first night us vs i) night.column_count

-- A test of the rows but row s. Where s is no row, none is left out.
abbrev pub but : ℕ → (ℕ → Bool) → ℕ → Bool
but s test i = not (eqb i s) && test i

-- 9, "first i*n+j", in the first row that a test names: there the first such column. It carries the slack of that place.
abbrev pub refused_over : Night → List ℤ → List ℤ → (ℕ → Bool) → Verdict
refused_over night us vs test =
    fails_at_by PricesOverCost (λ i. i * night.column_count + over_first night us vs i) (λ i. slack night us vs i (over_first night us vs i)) night.row_count test

-- 9: the first row that has such a place.
abbrev pub under_costs : Night → List ℤ → List ℤ → Verdict
under_costs night us vs = refused_over night us vs (over_in night us vs)

-- 9, "leaving out" row s.
abbrev pub under_costs_but : ℕ → Night → List ℤ → List ℤ → Verdict
under_costs_but s night us vs = refused_over night us vs (but s (over_in night us vs))

-- a is not b: it is below b or above it.
abbrev pub differ : ℤ → ℤ → Bool
differ a b = lt_z a b || lt_z b a

-- "on a paired place that sum is not the cost", in row i: its slack is not 0.
abbrev pub loose : Night → List ℕ → List ℤ → List ℤ → ℕ → Bool
loose night cols us vs i = differ (slack night us vs i (at cols i)) (pos 0)

-- 10, "first row", in the first row that a test names. It carries the slack of that row's place.
abbrev pub refused_loose : Night → List ℕ → List ℤ → List ℤ → (ℕ → Bool) → Verdict
refused_loose night cols us vs test = fails_at_by PricesNotCost (λ i. i) (λ i. slack night us vs i (at cols i)) night.row_count test

-- 10.
abbrev pub tight_on : Night → List ℕ → List ℤ → List ℤ → Verdict
tight_on night cols us vs = refused_loose night cols us vs (loose night cols us vs)

-- 10, "leaving out" row s.
abbrev pub tight_on_but : ℕ → Night → List ℕ → List ℤ → List ℤ → Verdict
tight_on_but s night cols us vs = refused_loose night cols us vs (but s (loose night cols us vs))

-- ---- an oblong night: m rows, each with its own of n columns, and spare columns

-- 23, "More rows than columns is 23, place the row count".
abbrev pub rows_fit : ℕ → ℕ → Verdict
rows_fit m n = fails_if RowsOver m (ltb n m)

-- Whether one of the first rows, so many, has column j.
abbrev pub used_by : List ℕ → ℕ → ℕ → Bool
used_by cols count j = some count (λ i. eqb (at cols i) j)

-- 7, "one used twice is 7, place the later row": the first row whose column an earlier row has.
abbrev pub columns_once : ℕ → List ℕ → Verdict
columns_once m cols = fails_at RowNotNamed (λ i. i) m (λ i. used_by cols i (at cols i))

-- Whether column j is spare and its price below that of a used column.
abbrev pub spare_below : ℕ → List ℕ → List ℤ → ℕ → Bool
spare_below m cols vs j = not (used_by cols m j) && some m (λ i. lt_z (signed_at vs j) (signed_at vs (at cols i)))

-- 27, "No spare column's price may be below a used one's", "place the first such spare column".
abbrev pub spares_not_below : ℕ → ℕ → List ℕ → List ℤ → Verdict
spares_not_below m n cols vs = fails_at SpareBelow (λ j. j) n (spare_below m cols vs)
