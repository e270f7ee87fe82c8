-- What a search does to prices, with no search in it. `e j` is how far column j lies from the start row s, cut at μ, the last block's minimum; each
-- price falls by μ less e j. Paired rows stay at their minimum, and so does each row that reaches a column as near as it lies. Assumes nothing.
use mathlib.Core.Path.{◌≡◌}
use Prim.Native.Nat.{ℕ, ◌<◌}
use lib.IntN.{ℤ, ◌+ℤ◌, ◌-ℤ◌}
use lib.Signed.{◌≤ℤ◌}
use Rattle.ints.proofs.Sums.{sum, dif}
use Rattle.ints.proofs.Ranges.{zarith}
use Rattle.rules.specs.Lowest.{reduced}
use Rattle.rules.specs.Asked.{AtMinimum, Fair}

module _ (n : ℕ) (cost : ℕ → ℕ → ℤ) where
  -- Distances, cut at μ, that no step makes shorter.
  pub record Settled (v : ℕ → ℤ) (row : ℕ → ℕ) (s : ℕ) (e : ℕ → ℤ) (μ : ℤ) : Type 0 where
    pub from_start : (k : ℕ) → k < n → e k ≤ℤ reduced cost v s k
    pub relaxed : (j k : ℕ) → j < n → k < n → row j < n → (e k +ℤ reduced cost v (row j) j) ≤ℤ (e j +ℤ reduced cost v (row j) k)

  abbrev pub lowered : (ℕ → ℤ) → (ℕ → ℤ) → ℤ → ℕ → ℤ
  lowered v e μ j = v j +ℤ (e j -ℤ μ)

  module _ (v : ℕ → ℤ) (row : ℕ → ℕ) (s : ℕ) (e : ℕ → ℤ) (μ : ℤ) where
    abbrev v' : ℕ → ℤ
    v' = lowered v e μ

    -- What a lowered price makes of a reduced cost.
    reduced_lowered : (i k : ℕ) → reduced cost v' i k +ℤ e k ≡ reduced cost v i k +ℤ μ
    reduced_lowered i k =
        omega (zarith, dif (cost i k) (v k), sum (reduced cost v i k) μ, dif (e k) μ, sum (v k) (e k -ℤ μ), dif (cost i k) (v' k), sum (reduced cost v' i k) (e k))

    pub still_fair : Settled v row s e μ → Fair n cost v' row
    still_fair S = record {
      paired_at_minimum = λ j l h. record {
        no_less = λ k m.
            let i = row j in
            omega (
              zarith,
              S.relaxed j k l m h,
              reduced_lowered i j,
              reduced_lowered i k,
              sum (reduced cost v' i j) (e j),
              sum (reduced cost v i j) μ,
              sum (reduced cost v' i k) (e k),
              sum (reduced cost v i k) μ,
              sum (e k) (reduced cost v i j),
              sum (e j) (reduced cost v i k),
            );
      };
    }

    -- μ is the start row's minimum.
    start_least : Settled v row s e μ → (k : ℕ) → k < n → μ ≤ℤ reduced cost v' s k
    start_least S k l = omega (zarith, S.from_start k l, reduced_lowered s k, sum (reduced cost v' s k) (e k), sum (reduced cost v s k) μ)

    -- A column that the start row reaches as near as it lies.
    pub start_minimum : Settled v row s e μ → (j : ℕ) → j < n → e j ≡ reduced cost v s j → AtMinimum n cost v' s j
    start_minimum S j l q = record {
      no_less = λ k m. omega (zarith, start_least S k m, reduced_lowered s j, sum (reduced cost v' s j) (e j), sum (reduced cost v s j) μ);
    }

    -- A column that the row of column x reaches as near as it lies.
    pub step_minimum : Settled v row s e μ → (x j : ℕ) → x < n → j < n → row x < n
        → e j +ℤ reduced cost v (row x) x ≡ e x +ℤ reduced cost v (row x) j → AtMinimum n cost v' (row x) j
    step_minimum S x j lx l h q = record {
      no_less = λ k m.
          let i = row x in
          omega (
            zarith,
            ((still_fair S).paired_at_minimum x lx h).no_less k m,
            reduced_lowered i x,
            reduced_lowered i j,
            sum (reduced cost v' i j) (e j),
            sum (reduced cost v i j) μ,
            sum (reduced cost v' i x) (e x),
            sum (reduced cost v i x) μ,
            sum (e j) (reduced cost v i x),
            sum (e x) (reduced cost v i j),
          );
    }
