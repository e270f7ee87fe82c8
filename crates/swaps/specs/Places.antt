-- What code asks of one place: whether the walk goes on over it.
use Rattle.std.specs.Prelude.{Bool, not, ◌&&◌, ◌||◌, List, ℕ, ltb, eqb, ℤ, ◌+ℤ◌}
use Rattle.std.specs.Int.Signed.{le_z}
use Rattle.lists.specs.Permutations.{at}
use Rattle.lists.specs.Counts.{bit_of}
use Rattle.assignment.specs.Pairings.{signed_at}

-- From row i over column j: the node behind it is another and is not done; a spare column's price is not above the highest of a used one; and the
-- column is not barred to the row.
abbrev pub free : ℕ → ℤ → ℕ → ℕ → ℤ → List ℕ → List ℕ → ℕ → Bool
free m top bits i v rows marks j =
    not (eqb (at rows j) i) && not (eqb (at marks (at rows j)) 2) && (ltb (at rows j) m || le_z v top) && not (bit_of bits j)

-- And the prices are not below the cost.
abbrev pub goes_over : ℕ → ℤ → ℕ → ℕ → List ℤ → ℤ → List ℤ → List ℕ → List ℕ → ℕ → Bool
goes_over m top bits i row u vs rows marks j =
    le_z (signed_at row j) (u +ℤ signed_at vs j) && free m top bits i (signed_at vs j) rows marks j

-- From the spare columns to row i: it is not done, and its column has the highest price of a used one.
abbrev pub comes_down : ℤ → List ℕ → List ℤ → List ℕ → ℕ → Bool
comes_down top cols vs marks i = not (eqb (at marks i) 2) && le_z top (signed_at vs (at cols i))
