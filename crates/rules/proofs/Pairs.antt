-- Pairs under way: columns and rows that name each other, and what a row that takes a column leaves. Where a row has no column, a column is
-- free. Assumes nothing.
use mathlib.Core.Path.{◌≡◌, sym, ap, ◌∙◌}
use mathlib.Core.Logic.{◌≢◌, ◌⊎◌, inl, inr, ⊎_elim}
use Prim.Native.Nat.{ℕ, zero, suc, ◌≤◌, ◌<◌}
use native.Mathlib.Omega.{arith}
use lib.ListN.{length, length-set}
use lib.Seq.{get_or-set_same, get_or-set_other}
use Rattle.lists.specs.Permutations.{at, Injective}
use Rattle.lists.proofs.Injections.{reached}
use Rattle.lists.proofs.Cases.{lt_or_le, here_or_elsewhere, below_suc}
use Rattle.rules.specs.Columns.{Pairs}
use Rattle.rules.specs.Rows.{take_column}
use Rattle.rules.specs.Asked.{Paired, Unpaired, Agree}

-- ---- row i takes column j

module _ (n : ℕ) (p : Pairs) (cols_size : length p.cols ≡ n) (rows_size : length p.rows ≡ n) (i j : ℕ) (li : i < n) (lj : j < n) where
  pub took_col : at (take_column p i j).cols i ≡ j
  took_col = get_or-set_same p.cols i j 0 (omega arith)

  pub kept_col : (x : ℕ) → x ≢ i → at (take_column p i j).cols x ≡ at p.cols x
  kept_col x d = get_or-set_other p.cols i x j 0 d

  pub took_row : at (take_column p i j).rows j ≡ i
  took_row = get_or-set_same p.rows j i 0 (omega arith)

  pub kept_row : (k : ℕ) → k ≢ j → at (take_column p i j).rows k ≡ at p.rows k
  kept_row k d = get_or-set_other p.rows j k i 0 d

  pub taken-paired : Paired (take_column p i j) i
  taken-paired = ap (at (take_column p i j).rows) took_col ∙ took_row

  pub taken-below : ((x : ℕ) → x < n → at p.cols x < n) → (x : ℕ) → x < n → at (take_column p i j).cols x < n
  taken-below h =
      here_or_elsewhere (λ x. x < n → at (take_column p i j).cols x < n) i (λ l. omega (arith, took_col))
      (λ x d l. omega (arith, kept_col x d, h x l))

-- A row that had no column takes one: the pairs agree.
pub take_agree : (n : ℕ) (p : Pairs) → Agree n p → (i j : ℕ) → i < n → j < n → Unpaired n p i → Agree n (take_column p i j)
take_agree n p A i j li lj alone =
    let q = take_column p i j in
    let tc = took_col n p A.cols_size A.rows_size i j li lj in
    let kc = kept_col n p A.cols_size A.rows_size i j li lj in
    let tr = took_row n p A.cols_size A.rows_size i j li lj in
    let kr = kept_row n p A.cols_size A.rows_size i j li lj in
    record {
      cols_size = length-set p.cols i j ∙ A.cols_size;
      rows_size = length-set p.rows j i ∙ A.rows_size;
      cols_below = taken-below n p A.cols_size A.rows_size i j li lj A.cols_below;
      named_back = here_or_elsewhere (λ k. k < n → at q.rows k < n → at q.cols (at q.rows k) ≡ k) j
          (λ l h. ap (at q.cols) tr ∙ tc)
          (λ k d l h. ap (at q.cols) (kr k d) ∙ kc (at p.rows k) (alone k l) ∙ A.named_back k l (omega (arith, kr k d)));
    }

-- ---- a free column

all_or_one : (n m : ℕ) (row : ℕ → ℕ) → ((k : ℕ) → k < m → row k < n) ⊎ ((y : ℕ) × (y < m) × (n ≤ row y))
all_or_one n zero row = inl (λ k l. absurd (omega arith))
all_or_one n (suc m) row = elim (lt_or_le (row m) n) [
  | inl a ↦ ⊎_elim (λ f. inl (below_suc (λ k. row k < n) f a)) (λ y. inr (y.0, omega (arith, y.1), y.2)) (all_or_one n m row)
  | inr a ↦ inr (m, omega arith, a)
]

-- Were no column free, each of the n rows would have one of the n columns.
pub free_column : (n : ℕ) (p : Pairs) → Agree n p → (s : ℕ) → s < n → Unpaired n p s → (y : ℕ) × (y < n) × (n ≤ at p.rows y)
free_column n p A s l alone =
    ⊎_elim
    (λ f.
    let I : Injective n n (at p.rows) = record {
      below = f;
      once = λ i k a b e. sym (A.named_back i a (f i a)) ∙ ap (at p.cols) e ∙ A.named_back k b (f k b);
    } in
    let r = reached I s l in
    absurd (alone r.0 r.1 r.2))
    (λ y. y)
    (all_or_one n n (at p.rows))
