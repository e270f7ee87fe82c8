-- One round of a set's growth: it loses no row, a set that has all the rows it leads to stays as it is, and any other has more rows after it.
-- Assumes nothing.
use mathlib.Core.Path.{◌≡◌, sym, ◌∙◌, subst}
use mathlib.Core.Bool.{Bool, true, false, ◌||◌}
use mathlib.Core.Logic.{◌⊎◌, inl, inr, ⊎_elim}
use mathlib.Core.List.{List}
use Prim.Native.Nat.{ℕ, suc, ◌<◌}
use native.Mathlib.Omega.{arith}
use lib.IntN.{ℤ, pos}
use lib.Signed.{◌≤ℤ◌}
use lib.ListN.{length}
use lib.Seq.{ext_get_or}
use Rattle.ints.proofs.Shapes.{zlin}
use Rattle.ints.proofs.Tests.{le_or_lt}
use Rattle.lists.specs.Sums.{sum}
use Rattle.lists.specs.Permutations.{at}
use Rattle.lists.proofs.Cases.{flags_same, or_either, or_second}
use Rattle.lists.proofs.Sums.{sum_le_tight}
use Rattle.lists.proofs.Tables.{length-table, get_d_table}
use Rattle.lists.proofs.Counts.{one, one_le, one_same}
use Rattle.assignment.specs.Pairings.{Night}
use Rattle.bars.specs.Blocked.{columns_of, has, grow}

module _ (night : Night) (cols : List ℕ) where
  abbrev pub joins : List Bool → ℕ → Bool
  joins set k = has set k || columns_of night (has set) (at cols k)

  -- A set is shut where it has every row that is paired with a column allowed to one of its rows.
  abbrev pub Shut : List Bool → Type 0
  Shut set = (k : ℕ) → k < night.row_count → columns_of night (has set) (at cols k) ≡ true → has set k ≡ true

  -- How many rows a set has.
  abbrev pub number : List Bool → ℤ
  number set = sum night.row_count (λ k. one (has set k))

  module _ (set : List Bool) where
    pub grow-at : (k : ℕ) → k < night.row_count → has (grow night cols set) k ≡ joins set k
    grow-at k l = get_d_table night.row_count (joins set) false k l

    pub grow-length : length (grow night cols set) ≡ night.row_count
    grow-length = length-table night.row_count (joins set)

    pub grow_keeps : (k : ℕ) → k < night.row_count → has set k ≡ true → has (grow night cols set) k ≡ true
    grow_keeps k l e = grow-at k l ∙ rw e

    grow_joins : (k : ℕ) → k < night.row_count → columns_of night (has set) (at cols k) ≡ true → has (grow night cols set) k ≡ true
    grow_joins k l e = grow-at k l ∙ or_second (has set k) e

    stays : length set ≡ night.row_count → Shut set → grow night cols set ≡ set
    stays size shut =
        ext_get_or false (grow night cols set) set (grow-length ∙ sym size)
        (λ k h. let l : k < night.row_count = omega (arith, grow-length) in
        flags_same (has (grow night cols set) k) (has set k)
        (λ e. ⊎_elim (λ t. t) (shut k l) (or_either (has set k) (columns_of night (has set) (at cols k)) (sym (grow-at k l) ∙ e))) (grow_keeps k l))

    -- After the round a set of r rows has more, or it is shut.
    pub grows : length set ≡ night.row_count → (r : ℕ) → (pos r ≤ℤ number set) ⊎ Shut set
        → (pos (suc r) ≤ℤ number (grow night cols set)) ⊎ Shut (grow night cols set)
    grows size r = ⊎_elim
        (λ g. ⊎_elim (λ h. kept (shut h)) (λ h. inl (omega zlin)) (le_or_lt (number (grow night cols set)) (number set))) kept
      where
        kept : Shut set → (pos (suc r) ≤ℤ number (grow night cols set)) ⊎ Shut (grow night cols set)
        kept s = inr (subst Shut (sym (stays size s)) s)

        shut : number (grow night cols set) ≤ℤ number set → Shut set
        shut h k l e =
            one_same (has set k) (has (grow night cols set) k)
            (sum_le_tight night.row_count (λ a. one (has set a)) (λ a. one (has (grow night cols set) a))
            (λ a b. one_le (has set a) (has (grow night cols set) a) (grow_keeps a b)) h k l)
            ∙ grow_joins k l e
