-- What the rules make of a row that was handed back as a part of the costs. Assumes nothing.
use mathlib.Core.Path.{◌≡◌, ap, ◌∙◌}
use mathlib.Core.List.{List}
use Prim.Native.Nat.{ℕ, ◌*◌, ◌<◌}
use native.Mathlib.Omega.{arith}
use lib.IntN.{ℤ, ◌-ℤ◌}
use lib.ListN.{length}
use Rattle.lists.specs.Parts.{part}
use Rattle.assignment.specs.Pairings.{square, signed_at}
use Rattle.rules.specs.Lowest.{reduced, two_lowest, least_but}
use Rattle.rules.proofs.Lowest.{two_lowest_cong, least_but_cong}
use Rattle.matrix.proofs.RowParts as parts

module _ (n i : ℕ) (costs row : List ℤ) (inside : i < n) (size : length costs ≡ n * n) (is : row ≡ part (i * n) n costs) where
  pub row_length : length row ≡ n
  row_length = ap length is ∙ parts.row_length n costs i inside size

  pub row_at : (j : ℕ) → j < n → signed_at row j ≡ (square n costs).cost i j
  row_at j h = ap (λ (l : List ℤ). signed_at l j) is ∙ parts.row_at n costs i j h

  module _ (v : List ℤ) where
    pub row_two_lowest : two_lowest (length row) (λ j. signed_at row j -ℤ signed_at v j) ≡ two_lowest n (reduced (square n costs).cost (signed_at v) i)
    row_two_lowest =
        ap (λ (m : ℕ). two_lowest m (λ j. signed_at row j -ℤ signed_at v j)) row_length
        ∙ two_lowest_cong n (λ j. signed_at row j -ℤ signed_at v j) (reduced (square n costs).cost (signed_at v) i) (omega arith)
        (λ j h. ap (λ (x : ℤ). x -ℤ signed_at v j) (row_at j h))

    pub row_least_but : (j : ℕ) → least_but (length row) (λ k. signed_at row k -ℤ signed_at v k) j ≡ least_but n (reduced (square n costs).cost (signed_at v) i) j
    row_least_but j =
        ap (λ (m : ℕ). least_but m (λ k. signed_at row k -ℤ signed_at v k) j) row_length
        ∙ least_but_cong n (λ k. signed_at row k -ℤ signed_at v k) (reduced (square n costs).cost (signed_at v) i) j
        (λ k h. ap (λ (x : ℤ). x -ℤ signed_at v k) (row_at k h))
