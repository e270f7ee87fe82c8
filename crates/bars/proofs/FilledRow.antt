-- A row of costs, filled from the front with one cost on its barred places. Assumes nothing.
use Rattle.std.proofs.Common.{◌≡◌, true, false, List, ◌++◌, ℕ, ◌+◌, ◌<◌, ℤ, pos, length, drop, get_or, sym, ap, ◌∙◌}
use Rattle.std.proofs.Math.ListN.{set}
use Rattle.lists.specs.Permutations.{table}
use Rattle.lists.specs.Counts.{bit_of}
use Rattle.lists.proofs.Tables.{table_get_d, table_cong, filled_none, filled_more, filled-kept}
use Rattle.lists.proofs.BitSets.{bit_none}
use Rattle.bars.specs.Barred.{filled_in}

module _ (bits : ℕ) (dear : ℤ) (row : List ℤ) where
  -- The row with its first j places filled.
  abbrev pub row_filled : ℕ → List ℤ
  row_filled j = table j (filled_in bits dear row) ++ drop j row

  pub fill_none : row ≡ row_filled 0
  fill_none = filled_none (filled_in bits dear row) row

  pub fill_place : (j : ℕ) → j < length row → bit_of bits j ≡ true → set (row_filled j) j dear ≡ row_filled (j + 1)
  fill_place j l e =
      let there : dear ≡ filled_in bits dear row j = rw e in
      ap (set (row_filled j) j) there ∙ filled_more j (filled_in bits dear row) row l

  pub fill_kept : (j : ℕ) → j < length row → bit_of bits j ≡ false → row_filled j ≡ row_filled (j + 1)
  fill_kept j l e = filled-kept (filled_in bits dear row) row j (pos 0) l (rw e)

  -- Without a bar it stays as it is.
  pub fill_bare : bits ≡ 0 → row ≡ table (length row) (filled_in bits dear row)
  fill_bare e =
      sym (table_cong (length row) (filled_in bits dear row) (λ j. get_or row j (pos 0)) (λ j l. rw (e, bit_none j)) ∙ table_get_d row (pos 0))

pub ruleset row_rules = (fill_none, fill_place, fill_kept, fill_bare)
