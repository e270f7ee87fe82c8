-- The column minima, taken row by row: those of row 0 alone, and what one row more makes of them. Assumes nothing.
use mathlib.Core.Path.{◌≡◌, sym, ap, ◌∙◌}
use mathlib.Core.List.{List}
use Prim.Native.Nat.{ℕ, ◌+◌, ◌*◌, ◌≤◌, ◌<◌}
use lib.IntN.{ℤ, pos}
use native.Mathlib.Omega.{arith}
use lib.ListN.{length, get_or}
use lib.Seq.{ext_get_or}
use Rattle.lists.specs.Parts.{part}
use Rattle.lists.specs.Permutations.{at, table}
use Rattle.lists.proofs.Tables.{length-table, get_d_table, table_get_d, table_cong}
use Rattle.assignment.specs.Pairings.{square, signed_at}
use Rattle.rules.specs.declared.Low.{Low}
use Rattle.rules.specs.Lowest.{lowest}
use Rattle.reduction.specs.Columns.{low_at}
use Rattle.reduction.proofs.Turns.{lower_cong, lowest_one, lowest_more}
use Rattle.reduction.proofs.RowParts.{row_length, row_at}

-- A list is the table of what stands in it.
pub is_table : {A : Type 0} (n : ℕ) (f : ℕ → A) (d : A) (l : List A) → length l ≡ n → ((k : ℕ) → k < n → get_or l k d ≡ f k) → l ≡ table n f
is_table n f d l e same =
    ext_get_or d l (table n f) (e ∙ sym (length-table n f)) (λ k h. let m : k < n = omega arith in same k m ∙ sym (get_d_table n f d k m))

module _ (n : ℕ) (costs : List ℤ) where
  -- The lowest of the first i rows in column j.
  abbrev pub lowest_of : ℕ → ℕ → Low
  lowest_of i j = lowest i (λ k. (square n costs).cost k j)

  -- Where each stands, and its value.
  abbrev pub places : ℕ → List ℕ
  places i = table n (λ j. (lowest_of i j).place)

  abbrev pub values : ℕ → List ℤ
  values i = table n (λ j. (lowest_of i j).value)

module _ (n i : ℕ) (costs row : List ℤ) (inside : i < n) (size : length costs ≡ n * n) (is : row ≡ part (i * n) n costs) where
  low_at_is : 1 ≤ i → (rows : List ℕ) (v : List ℤ) → rows ≡ places n costs i → v ≡ values n costs i → (j : ℕ) → j < n
      → low_at i row v rows j ≡ lowest_of n costs (i + 1) j
  low_at_is one rows v e f j h =
      let value : signed_at v j ≡ (lowest_of n costs i j).value = ap (λ (x : List ℤ). signed_at x j) f ∙ get_d_table n (λ k. (lowest_of n costs i k).value) (pos 0) j h in
      let place : at rows j ≡ (lowest_of n costs i j).place = ap (λ (x : List ℕ). at x j) e ∙ get_d_table n (λ k. (lowest_of n costs i k).place) 0 j h in
      let here : signed_at row j ≡ (square n costs).cost i j = row_at n i costs row inside size is j h in
      lower_cong i value place here ∙ sym (lowest_more (λ k. (square n costs).cost k j) i one)

  module _ (one : 1 ≤ i) (rows : List ℕ) (v : List ℤ) (e : rows ≡ places n costs i) (f : v ≡ values n costs i) where
    pub places_more : table (length row) (λ j. (low_at i row v rows j).place) ≡ places n costs (i + 1)
    places_more =
        ap (λ (m : ℕ). table m (λ j. (low_at i row v rows j).place)) (row_length n i costs row inside size is)
        ∙ table_cong n (λ j. (low_at i row v rows j).place) (λ j. (lowest_of n costs (i + 1) j).place)
        (λ j h. ap (λ (x : Low). x.place) (low_at_is one rows v e f j h))

    pub values_more : table (length row) (λ j. (low_at i row v rows j).value) ≡ values n costs (i + 1)
    values_more =
        ap (λ (m : ℕ). table m (λ j. (low_at i row v rows j).value)) (row_length n i costs row inside size is)
        ∙ table_cong n (λ j. (low_at i row v rows j).value) (λ j. (lowest_of n costs (i + 1) j).value)
        (λ j h. ap (λ (x : Low). x.value) (low_at_is one rows v e f j h))

module _ (n : ℕ) (costs row : List ℤ) (inside : 0 < n) (size : length costs ≡ n * n) (is : row ≡ part (0 * n) n costs) where
  pub places_one : table n (λ j. 0) ≡ places n costs 1
  places_one =
      table_cong n (λ j. 0) (λ j. (lowest_of n costs 1 j).place) (λ j h. sym (ap (λ (x : Low). x.place) (lowest_one (λ k. (square n costs).cost k j))))

  pub values_one : row ≡ values n costs 1
  values_one =
      sym (table_get_d row (pos 0)) ∙ ap (λ (m : ℕ). table m (signed_at row)) (row_length n 0 costs row inside size is)
      ∙ table_cong n (signed_at row) (λ j. (lowest_of n costs 1 j).value)
      (λ j h. row_at n 0 costs row inside size is j h ∙ sym (ap (λ (x : Low). x.value) (lowest_one (λ k. (square n costs).cost k j))))
