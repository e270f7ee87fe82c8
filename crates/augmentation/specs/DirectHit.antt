-- A direct hit: the last free column at the least reduced cost of a row.
use Rattle.std.specs.Prelude.{◌≡◌, Bool, true, false, cond, Option, Some, None, List, ℕ, ◌+◌, ◌*◌, ◌<◌, ℤ, ◌-ℤ◌, length, take, drop, ltb}
use Rattle.std.specs.Int.Signed.{lt_z, le_z}
use Rattle.ints.specs.Parts.{Within}
use Rattle.assignment.specs.Pairings.{signed_at}
use Rattle.matrix.specs.Limits.{near}

-- The reduced costs of a row, at column prices v.
abbrev pub reduced_in : List ℤ → List ℤ → ℕ → ℤ
reduced_in row v j = signed_at row j -ℤ signed_at v j

-- The same of row i of n * n costs.
abbrev pub reduced_of : ℕ → List ℤ → List ℤ → ℕ → ℕ → ℤ
reduced_of n costs v i = reduced_in (take n (drop (i * n) costs)) v

-- A row with a price for each of its columns; prices are near.
pub record Priced (row v : List ℤ) : Type 0 where
  pub prices_size : length v ≡ length row
  pub prices_near : (j : ℕ) → Within near (signed_at v j)

-- A row of costs, with a price and a row for each of its columns.
pub record CanLook (row v : List ℤ) (rows : List ℕ) : Type 0 where
  pub priced : Priced row v
  pub rows_size : length rows ≡ length row

-- The lesser of two values.
abbrev pub lesser : ℤ → ℤ → ℤ
lesser a h = cond (lt_z h a) h a

-- The least of four values of f, from j on.
abbrev pub least_of_four : (ℕ → ℤ) → ℕ → ℤ
least_of_four f j = lesser (lesser (f j) (f (j + 1))) (lesser (f (j + 2)) (f (j + 3)))

-- Column j is free, and f is not above h there.
abbrev pub free_at : ℕ → (ℕ → ℤ) → (ℕ → ℕ) → ℤ → ℕ → Bool
free_at n f row h j = cond (ltb (row j) n) false (le_z (f j) h)

-- The last place below n at which a test holds, and none where it holds at none.
abbrev pub LastOf : ℕ → (ℕ → Bool) → Option ℕ → Type 0
LastOf n test None = (k : ℕ) → k < n → test k ≡ false
LastOf n test (Some j) = (j < n) × (test j ≡ true) × ((k : ℕ) → j < k → k < n → test k ≡ false)
