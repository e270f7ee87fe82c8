-- Lists of bars and columns longer than the night's rows: only the first n entries count. Assumes nothing.
use mathlib.Core.Path.{◌≡◌, ap, ap₂, ◌∙◌}
use mathlib.Core.Bool.{Bool, cond}
use mathlib.Core.List.{List}
use Prim.Native.Nat.{ℕ, suc, ◌^◌, ◌<◌}
use lib.Bits.{bit_or}
use lib.Dec.{ltb}
use Rattle.lists.specs.Runs.{first}
use Rattle.lists.specs.Permutations.{at}
use Rattle.lists.specs.Counts.{bit_of}
use Rattle.lists.proofs.Runs.{upward_cong}
use Rattle.bars.specs.Barred.{first_barred}
use Rattle.bars.specs.Masks.{allowed_mask, columns_mask, paired_mask, reached_mask, shown_rows}

module _ (n : ℕ) (cols cols' : List ℕ) (same_cols : (i : ℕ) → i < n → at cols i ≡ at cols' i) where
  pub paired_mask_same : (columns rows : ℕ) → paired_mask n cols columns rows ≡ paired_mask n cols' columns rows
  unfolding paired_mask
  paired_mask_same columns rows =
      upward_cong 0 n _ _ rows (λ i s h l. ap (λ (j : ℕ). cond (bit_of columns j) (bit_or s (2 ^ i)) s) (same_cols i l))

module _ (n : ℕ) (bars bars' : List ℕ) (same_bars : (i : ℕ) → i < n → at bars i ≡ at bars' i) where
  pub columns_mask_same : (rows : ℕ) → columns_mask n bars rows ≡ columns_mask n bars' rows
  unfolding columns_mask
  columns_mask_same rows =
      upward_cong 0 n _ _ 0 (λ i c h l. ap (λ (b : ℕ). cond (bit_of rows i) (bit_or c (allowed_mask n b)) c) (same_bars i l))

  module _ (cols cols' : List ℕ) (same_cols : (i : ℕ) → i < n → at cols i ≡ at cols' i) where
    pub first_barred_same : first_barred n bars cols ≡ first_barred n bars' cols'
    unfolding first
    first_barred_same =
        upward_cong 0 n _ _ 0
        (λ i found h l. ap (λ (t : Bool). cond (ltb found i) found (cond t i (suc i))) (ap₂ bit_of (same_bars i l) (same_cols i l)))

    pub reached_mask_same : (i : ℕ) → reached_mask n bars cols i ≡ reached_mask n bars' cols' i
    unfolding reached_mask
    reached_mask_same i =
        upward_cong 0 n _ _ (2 ^ i)
        (λ r rows h l. paired_mask_same n cols cols' same_cols (columns_mask n bars rows) rows ∙ ap (λ (c : ℕ). paired_mask n cols' c rows) (columns_mask_same rows))

    pub shown_rows_same : shown_rows n bars cols ≡ shown_rows n bars' cols'
    shown_rows_same = reached_mask_same (first_barred n bars cols) ∙ ap (reached_mask n bars' cols') first_barred_same
