-- The rows listed by column, store by store: the row behind each column. Assumes nothing.
use mathlib.Core.Path.{◌≡◌, sym, ap, ◌∙◌}
use mathlib.Core.Logic.{◌≢◌, ⊎_elim}
use mathlib.Core.List.{List}
use Prim.Native.Nat.{ℕ, ◌+◌, ◌<◌}
use native.Mathlib.Decide.{ℕ_discrete}
use native.Mathlib.Omega.{arith}
use lib.Dec.{eqb}
use lib.ListN.{length, set, length-set}
use lib.Seq.{get_or-set_same, get_or-set_other, ext_get_or}
use borrow.Author.Tests.{ne_eqb}
use Rattle.lists.specs.Permutations.{at, table, Injective}
use Rattle.lists.proofs.Runs.{first_none}
use Rattle.lists.proofs.Tables.{length-table, get_d_table}
use Rattle.lists.proofs.Injections.{source, source_of, reached_or_not}

module _ (m n : ℕ) (cols : List ℕ) (inj : Injective m n (at cols)) where
  -- After i rows: each names itself at its column, and m stands at every other column.
  pub record Listed (i : ℕ) (rows : List ℕ) : Type 0 where
    pub size : length rows ≡ n
    pub named : (k : ℕ) → k < i → at rows (at cols k) ≡ k
    pub spare : (j : ℕ) → j < n → ((k : ℕ) → k < i → at cols k ≢ j) → at rows j ≡ m

  pub listed_none : (rows : List ℕ) → rows ≡ table n (λ j. m) → Listed 0 rows
  listed_none rows e = record {
    size = ap length e ∙ length-table n (λ j. m);
    named = λ k l. absurd (omega arith);
    spare = λ j l u. ap (λ (r : List ℕ). at r j) e ∙ get_d_table n (λ k. m) 0 j l;
  }

  pub listed_more : (i : ℕ) (rows : List ℕ) → i < m → Listed i rows → Listed (i + 1) (set rows (at cols i) i)
  listed_more i rows l h = record {
    size = length-set rows (at cols i) i ∙ h.size;
    named = λ k b. elim (ℕ_discrete k i) [
      | yes e ↦ rw e (get_or-set_same rows (at cols i) i 0 (omega (arith, h.size, inj.below i l)))
      | no d ↦ get_or-set_other rows (at cols i) (at cols k) i 0 (λ e. d (inj.once k i (omega arith) l e)) ∙ h.named k (omega arith)
    ];
    spare = λ j b u. get_or-set_other rows (at cols i) j i 0 (λ e. u i (omega arith) (sym e)) ∙ h.spare j b (λ k g. u k (omega arith));
  }

  pub listed_all : (rows : List ℕ) → Listed m rows → rows ≡ table n (λ j. source (at cols) m j)
  listed_all rows h =
      ext_get_or 0 rows (table n (λ j. source (at cols) m j)) (h.size ∙ sym (length-table n (λ j. source (at cols) m j)))
      (λ j l. at_row j (omega (arith, h.size)) ∙ sym (get_d_table n (λ j. source (at cols) m j) 0 j (omega (arith, h.size))))
    where
      at_row : (j : ℕ) → j < n → at rows j ≡ source (at cols) m j
      at_row j l = ⊎_elim
          (λ r. ap (at rows) (sym r.2) ∙ h.named r.0 r.1 ∙ sym (ap (source (at cols) m) (sym r.2) ∙ source_of inj r.0 r.1))
          (λ u. h.spare j l u ∙ sym (first_none (λ i. eqb (at cols i) j) m (λ i b. ne_eqb (at cols i) j (u i b))))
          (reached_or_not (at cols) m j)
