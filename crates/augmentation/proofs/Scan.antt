-- A row of the costs as code has it, and the scan of one column put together from its parts. Assumes nothing.
use mathlib.Core.Path.{◌≡◌, sym, ap, ◌∙◌}
use mathlib.Core.List.{List}
use Prim.Native.Nat.{ℕ, ◌+◌, ◌*◌, ◌<◌}
use native.Mathlib.Nat.{mul-le-mul_right}
use native.Mathlib.Omega.{arith}
use lib.IntN.{ℤ, pos, ◌-ℤ◌}
use lib.ListN.{length, take, drop}
use mir.Syntax.{w32}
use mir.Val.{SFits}
use Rattle.ints.specs.Parts.{Within}
use Rattle.ints.proofs.Sums.{dif}
use Rattle.ints.proofs.Shapes.{zlin}
use Rattle.lists.specs.Runs.{until}
use Rattle.lists.proofs.Parts.{part_length, part_at}
use Rattle.lists.specs.Permutations.{at}
use Rattle.assignment.specs.Pairings.{signed_at, square}
use Rattle.matrix.specs.Limits.{near}
use Rattle.std.specs.declared.ops.ControlFlow.{ControlFlow}
use Rattle.rules.specs.Search.{scan_row, scan_column, work_of}
use Rattle.augmentation.specs.Scan.{seen, ColumnsLowered, Scanned}

-- Row i of n * n costs in row order.
abbrev pub costs_of_row : ℕ → List ℤ → ℕ → List ℤ
costs_of_row n costs i = take n (drop (i * n) costs)

pub row_length : (n : ℕ) (costs : List ℤ) (i : ℕ) → i < n → length costs ≡ n * n → length (costs_of_row n costs i) ≡ n
row_length n costs i l e = part_length (i * n) n costs (omega (arith, mul-le-mul_right n l))

pub row_cost : (n : ℕ) (costs : List ℤ) (i j : ℕ) → j < n → (square n costs).cost i j ≡ signed_at (costs_of_row n costs i) j
row_cost n costs i j l = sym (part_at (i * n) n costs j (pos 0) l)

-- What a row has to spare is near.
pub spare_near : (c p m : ℤ) → SFits w32 c → Within near p → Within (2 * near) m → Within (4 * near) ((c -ℤ p) -ℤ m)
spare_near c p m f a b = omega (zlin, f, dif c p, dif (c -ℤ p) m)

module _ (n : ℕ) (costs v : List ℤ) (rows : List ℕ) (lo hi : ℕ) (d₀ : List ℤ) (list₀ predecessors₀ : List ℕ) (j i : ℕ) (row : List ℤ) (minimum h : ℤ)
    (column : j ≡ at list₀ lo) (below : j < n) (row_of : i ≡ at rows j) (row_is : row ≡ costs_of_row n costs i) (least : minimum ≡ signed_at d₀ j)
    (spare : h ≡ (signed_at row j -ℤ signed_at v j) -ℤ minimum) where
  -- What the row of the column at place lo leaves is the scan of that column.
  pub scanned : {r : ControlFlow ℕ ℕ} {d : List ℤ} {list predecessors : List ℕ} → ColumnsLowered n i row v rows h minimum hi d₀ list₀ predecessors₀ r d list predecessors
      → Scanned n costs v rows lo hi d₀ list₀ predecessors₀ r d list predecessors
  scanned L = record { same = λ m. L.same cost agrees (m + 1) ∙ ap seen (as_row m) }
    where
      cost : ℕ → ℕ → ℤ
      cost = (square n costs).cost

      agrees : (k : ℕ) → k < n → cost i k ≡ signed_at row k
      agrees k l = row_cost n costs i k l ∙ ap (λ (s : List ℤ). signed_at s k) (sym row_is)

      spare_is : h ≡ (cost i j -ℤ signed_at v j) -ℤ minimum
      spare_is = spare ∙ ap (λ (x : ℤ). (x -ℤ signed_at v j) -ℤ minimum) (sym (agrees j below))

      as_row : (m : ℕ) → until hi n (scan_column n cost (signed_at v) (at rows) minimum h i) (work_of hi list₀ d₀ predecessors₀ (m + 1)) ≡ scan_row n cost (signed_at v) (at rows) lo (work_of hi list₀ d₀ predecessors₀ m)
      as_row m =
          ap (λ (x : ℤ). until hi n (scan_column n cost (signed_at v) (at rows) minimum x i) (work_of hi list₀ d₀ predecessors₀ (m + 1))) spare_is
          ∙ ap (λ (x : ℤ). until hi n (scan_column n cost (signed_at v) (at rows) x ((cost i j -ℤ signed_at v j) -ℤ x) i) (work_of hi list₀ d₀ predecessors₀ (m + 1))) least
          ∙ ap (λ (y : ℕ). until hi n (scan_column n cost (signed_at v) (at rows) (signed_at d₀ j) ((cost y j -ℤ signed_at v j) -ℤ signed_at d₀ j) y) (work_of hi list₀ d₀ predecessors₀ (m + 1))) row_of
          ∙ ap (λ (y : ℕ). until hi n (scan_column n cost (signed_at v) (at rows) (signed_at d₀ y) ((cost (at rows y) y -ℤ signed_at v y) -ℤ signed_at d₀ y) (at rows y)) (work_of hi list₀ d₀ predecessors₀ (m + 1))) column
