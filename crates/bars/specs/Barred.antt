-- Nights with bars: costs in row order, and for each row a number whose bits are the columns barred to it.
use Rattle.std.specs.Prelude.{Bool, not, cond, List, ℕ, ◌+◌, ◌*◌, ◌/◌, ◌%◌, ◌^◌, leb, ℤ}
use Rattle.lists.specs.Runs.{first}
use Rattle.lists.specs.Permutations.{at, table}
use Rattle.lists.specs.Counts.{bit_of}
use Rattle.assignment.specs.Pairings.{Night, signed_at}

-- A night of m rows and n columns: its costs in row order, and for each row a number whose bits are the columns barred to it. A row past the end of
-- `bars` has none barred: the list without an entry bars nothing.
abbrev pub night_of : ℕ → ℕ → List ℤ → List ℕ → Night
night_of m n costs bars = record {
  row_count = m;
  column_count = n;
  cost = λ i j. signed_at costs (i * n + j);
  allowed = λ i j. not (bit_of (at bars i) j);
}

-- "bit j set where column j is barred", of a square night.
abbrev pub barred : ℕ → List ℤ → List ℕ → Night
barred n = night_of n n

-- The first row that is paired at a barred place; n where none is.
abbrev pub first_barred : ℕ → List ℕ → List ℕ → ℕ
first_barred n bars cols = first n (λ i. bit_of (at bars i) (at cols i))

-- "bits from n up must be clear": whether one of them is set.
abbrev pub bits_above : ℕ → ℕ → Bool
bits_above n bits = leb (2 ^ n) bits

-- A row of costs with this one on barred places: what stands at j.
abbrev pub filled_in : ℕ → ℤ → List ℤ → ℕ → ℤ
filled_in bits dear row j = cond (bit_of bits j) dear (signed_at row j)

-- The costs with this one on barred places: what stands at k, and all of them.
abbrev pub filled_at : ℕ → ℤ → List ℤ → List ℕ → ℕ → ℤ
filled_at n dear costs bars k = cond (bit_of (at bars (k / n)) (k % n)) dear (signed_at costs k)

unfoldable pub filled_costs : ℕ → ℤ → List ℤ → List ℕ → List ℤ
filled_costs n dear costs bars = table (n * n) (filled_at n dear costs bars)
