-- The filled costs in row order: how many there are, what stands at a place, their range, that only the first n * n costs count, and what a row
-- that was lent and came back filled leaves. Assumes nothing.
use mathlib.Core.Path.{◌≡◌, sym, ap, ap₂, ◌∙◌, subst}
use mathlib.Core.Bool.{cond}
use mathlib.Core.List.{List, ◌++◌}
use Prim.Native.Nat.{ℕ, ◌+◌, ◌*◌, ◌/◌, ◌%◌, ◌≤◌, ◌<◌}
use native.Mathlib.Nat.{mul-add-div_right, mul-add-mod_self_right, div-eq_of_lt, mod-eq_of_lt, add-zero}
use native.Mathlib.Omega.{arith}
use lib.IntN.{ℤ, pos}
use lib.ListN.{length, take, drop}
use lib.Seq.{drop_at, drop-drop, get_or-take, length-take-le}
use Rattle.ints.specs.Parts.{Within}
use Rattle.lists.specs.Permutations.{at, table}
use Rattle.lists.specs.Parts.{part, replaced}
use Rattle.lists.specs.Counts.{bit_of}
use Rattle.lists.proofs.Parts.{part_at, part_length}
use Rattle.lists.proofs.Cases.{cond_cases}
use Rattle.lists.proofs.Tables.{length-table, get_d_table, table_cong, filled_none, filled-part}
use Rattle.assignment.specs.Pairings.{signed_at}
use Rattle.bars.specs.Barred.{filled_in, filled_at, filled_costs}

module _ (n : ℕ) (dear : ℤ) (costs : List ℤ) (bars : List ℕ) where
  pub filled-place : (i j : ℕ) → j < n → filled_at n dear costs bars (i * n + j) ≡ cond (bit_of (at bars i) j) dear (signed_at costs (i * n + j))
  filled-place i j l = ap₂ (λ (r c : ℕ). cond (bit_of (at bars r) c) dear (signed_at costs (i * n + j))) row column
    where
      row : (i * n + j) / n ≡ i
      row = mul-add-div_right (let h : 0 < n = omega arith in h) i j ∙ ap (λ (x : ℕ). i + x) (div-eq_of_lt l) ∙ add-zero i

      column : (i * n + j) % n ≡ j
      column = mul-add-mod_self_right i n j ∙ mod-eq_of_lt l

  pub filled_costs_length : length (filled_costs n dear costs bars) ≡ n * n
  unfolding filled_costs
  filled_costs_length = length-table (n * n) (filled_at n dear costs bars)

  pub filled_costs_at : (k : ℕ) → k < n * n → signed_at (filled_costs n dear costs bars) k ≡ filled_at n dear costs bars k
  unfolding filled_costs
  filled_costs_at k l = get_d_table (n * n) (filled_at n dear costs bars) (pos 0) k l

  pub filled_costs_within : (b : ℕ) → Within b dear → ((k : ℕ) → k < n * n → Within b (signed_at costs k)) → (k : ℕ) → k < n * n
      → Within b (signed_at (filled_costs n dear costs bars) k)
  filled_costs_within b h within k l =
      subst (Within b) (sym (filled_costs_at k l))
      (cond_cases (bit_of (at bars (k / n)) (k % n)) (Within b) dear (signed_at costs k) (λ e. h) (λ e. within k l))

  pub filled_costs_first : filled_costs n dear (take (n * n) costs) bars ≡ filled_costs n dear costs bars
  unfolding filled_costs
  filled_costs_first =
      table_cong (n * n) (filled_at n dear (take (n * n) costs) bars) (filled_at n dear costs bars)
      (λ k l. ap (λ (z : ℤ). cond (bit_of (at bars (k / n)) (k % n)) dear z) (get_or-take (n * n) costs k (pos 0) l))

  -- The costs whose first rows are filled, i of them.
  abbrev pub rows_filled : ℕ → List ℤ
  rows_filled i = table (i * n) (filled_at n dear costs bars) ++ drop (i * n) costs

  pub no_row_filled : costs ≡ rows_filled 0
  no_row_filled = let z : 0 * n ≡ 0 = omega arith in rw z (filled_none (filled_at n dear costs bars) costs)

  pub all_rows_filled : (i : ℕ) → i ≡ n → rows_filled i ≡ filled_costs n dear costs bars ++ drop (n * n) costs
  unfolding filled_costs
  all_rows_filled i e = ap rows_filled e

  -- The next row, lent and come back filled.
  module _ (i k : ℕ) (inside : i * n + n ≤ length costs) (long : k ≡ n) (list : List ℤ) (filled : list ≡ rows_filled i) where
    lent : part (i * n) k list ≡ part (i * n) n costs
    lent =
        ap₂ (λ (m : ℕ) (l : List ℤ). part (i * n) m l) long filled
        ∙ ap (take n) (drop_at (table (i * n) (filled_at n dear costs bars)) (drop (i * n) costs) (i * n) (length-table (i * n) (filled_at n dear costs bars)))

    pub lent_row_length : length (part (i * n) k list) ≡ n
    lent_row_length = ap length lent ∙ part_length (i * n) n costs inside

    pub next_row_filled : (row : List ℤ) → row ≡ table (length (part (i * n) k list)) (filled_in (at bars i) dear (part (i * n) k list))
        → take (i * n) list ++ (row ++ drop k (drop (i * n) list)) ≡ rows_filled (i + 1)
    next_row_filled row e =
        let next : i * n + n ≡ (i + 1) * n = omega arith in
        let size : length row ≡ k = omega (arith, ap length e, length-table (length (part (i * n) k list)) (filled_in (at bars i) dear (part (i * n) k list)), lent_row_length) in
        let whole : row ≡ table n (filled_in (at bars i) dear (part (i * n) n costs)) =
        e ∙ ap₂ (λ (m : ℕ) (r : List ℤ). table m (filled_in (at bars i) dear r)) lent_row_length lent in
        ap (λ (l : List ℤ). take (i * n) list ++ (row ++ l)) (drop-drop k (i * n) list ∙ ap (λ (m : ℕ). drop (i * n + m) list) (sym size))
        ∙ ap₂ (replaced (i * n)) whole filled
        ∙ filled-part (i * n) n (filled_at n dear costs bars) (filled_in (at bars i) dear (part (i * n) n costs)) costs
        (λ j l. ap (λ (z : ℤ). cond (bit_of (at bars i) j) dear z) (part_at (i * n) n costs j (pos 0) l) ∙ sym (filled-place i j l))
        ∙ ap (λ (m : ℕ). table m (filled_at n dear costs bars) ++ drop m costs) next

pub ruleset rows_rules = (no_row_filled, all_rows_filled, lent_row_length, next_row_filled, length-take-le, get_or-take)
