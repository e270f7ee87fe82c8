-- The rows reached as a number's bits, as code has them: sides to 64 fit a u64. `bars` has a number for each row, whose bits are the columns
-- barred to it.
use Rattle.std.specs.Prelude.{cond, List, ℕ, ◌-◌, ◌^◌}
use Rattle.std.specs.Int.Bits.{bit_or, bit_xor}
use Rattle.lists.specs.Runs.{upward}
use Rattle.lists.specs.Permutations.{at}
use Rattle.lists.specs.Counts.{bit_of}
use Rattle.bars.specs.Barred.{first_barred}

-- The columns allowed to a row, of n.
abbrev pub allowed_mask : ℕ → ℕ → ℕ
allowed_mask n barred = bit_xor (2 ^ n - 1) barred

-- The columns allowed to the rows of a set.
unfoldable pub columns_mask : ℕ → List ℕ → ℕ → ℕ
columns_mask n bars rows = upward 0 n (λ i c. cond (bit_of rows i) (bit_or c (allowed_mask n (at bars i))) c) 0

-- With the rows, those that are paired with one of these columns.
unfoldable pub paired_mask : ℕ → List ℕ → ℕ → ℕ → ℕ
paired_mask n cols columns rows = upward 0 n (λ k s. cond (bit_of columns (at cols k)) (bit_or s (2 ^ k)) s) rows

-- The rows reached from row i.
unfoldable pub reached_mask : ℕ → List ℕ → List ℕ → ℕ → ℕ
reached_mask n bars cols i = upward 0 n (λ r rows. paired_mask n cols (columns_mask n bars rows) rows) (2 ^ i)

-- The rows to show where the first row at a barred place is one: those reached from it.
abbrev pub shown_rows : ℕ → List ℕ → List ℕ → ℕ
shown_rows n bars cols = reached_mask n bars cols (first_barred n bars cols)
