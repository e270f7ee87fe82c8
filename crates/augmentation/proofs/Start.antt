-- The start of a search, from the lists that are lent for it. Assumes nothing.
use mathlib.Core.Path.{◌≡◌, sym, ap, ◌∙◌}
use mathlib.Core.List.{List}
use Prim.Native.Nat.{ℕ}
use lib.IntN.{ℤ, ◌-ℤ◌}
use lib.ListN.{length, replicate}
use Rattle.lists.specs.Permutations.{table}
use Rattle.lists.proofs.Tables.{table_cong, table_constant}
use Rattle.assignment.specs.Pairings.{signed_at, square}
use Rattle.rules.specs.Lowest.{reduced}
use Rattle.augmentation.specs.Search.{CanStart, Started}
use Rattle.augmentation.specs.DirectHit.{reduced_in}
use Rattle.augmentation.proofs.Scan.{costs_of_row, row_length, row_cost}

pub started : {n : ℕ} {costs : List ℤ} {start : ℕ} {v d₀ : List ℤ} {list₀ predecessors₀ : List ℕ} → CanStart n costs start v d₀ list₀ predecessors₀
    → (row d : List ℤ) (list predecessors : List ℕ) → row ≡ costs_of_row n costs start → d ≡ table (length row) (reduced_in row v)
    → list ≡ table (length list₀) (λ j. j) → predecessors ≡ replicate (length predecessors₀) start → Started n costs start v d list predecessors
started {n} {costs} {start} {v} C row d list predecessors row_is distances numbered filled =
    let size : length row ≡ n = ap length row_is ∙ row_length n costs start C.start_below C.costs_size in
    let d_is : d ≡ table n (reduced (square n costs).cost (signed_at v) start) =
    distances ∙ ap (λ (m : ℕ). table m (reduced_in row v)) size
    ∙ table_cong n (reduced_in row v) (reduced (square n costs).cost (signed_at v) start)
    (λ j h. ap (λ (x : ℤ). x -ℤ signed_at v j) (ap (λ (s : List ℤ). signed_at s j) row_is ∙ sym (row_cost n costs start j h))) in
    let list_is : list ≡ table n (λ j. j) = numbered ∙ ap (λ (m : ℕ). table m (λ j. j)) C.list_size in
    let filled_is : predecessors ≡ table n (λ j. start) = filled ∙ ap (λ (m : ℕ). replicate m start) C.predecessors_size ∙ sym (table_constant n start) in
    record { same = rw (d_is, list_is, filled_is) }
