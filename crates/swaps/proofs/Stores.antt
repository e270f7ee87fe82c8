-- The moved pairing as code writes it: the columns copied, and then a store for each row of the closed walk, along the path. Assumes nothing.
use mathlib.Core.Path.{◌≡◌, refl, sym, ◌∙◌, subst}
use mathlib.Core.Bool.{Bool, true, false, cond, true≢false}
use mathlib.Core.Logic.{◌≢◌}
use mathlib.Core.List.{List}
use Prim.Native.Nat.{ℕ, suc, ◌≤◌, ◌<◌}
use native.Mathlib.Decide.{ℕ_discrete, dec_lt}
use native.Mathlib.Omega.{arith}
use lib.Dec.{ltb}
use lib.IntN.{ℤ}
use lib.ListN.{length, set, length-set}
use lib.Seq.{get_or-set_same, get_or-set_other}
use borrow.Author.Tests.{lt-ltb, le-ltb}
use Rattle.lists.specs.Runs.{upward}
use Rattle.lists.specs.Permutations.{at}
use Rattle.lists.proofs.Runs.{upward_keeps}
use Rattle.lists.proofs.Tables.{get_d_table}
use Rattle.assignment.specs.Pairings.{Night}
use Rattle.swaps.specs.Walks.{Closed, place, on_closed, choice}
use Rattle.swaps.specs.Second.{nodes, way, moved}
use Rattle.swaps.proofs.Walks.{IsClosed}
use Rattle.swaps.proofs.Closed.{closed_true, closed_make}

-- At place k of a path: the value of its node, where that is below m.
abbrev pub store : ℕ → (ℕ → ℕ) → (ℕ → ℕ) → ℕ → List ℕ → List ℕ
store m path value k l = cond (ltb (path k) m) (set l (path k) (value (path k))) l

module _ (m from size : ℕ) (path value : ℕ → ℕ) (cols : List ℕ) (apart : (i k : ℕ) → i < size → k < size → path i ≡ path k → i ≡ k)
    (order : from ≤ size) (enough : m ≤ length cols) where
  -- Before place k.
  record Stored (k : ℕ) (l : List ℕ) : Type 0 where
    long : length l ≡ length cols
    written : (t : ℕ) → from ≤ t → t < k → path t < m → at l (path t) ≡ value (path t)
    kept : (i : ℕ) → ((t : ℕ) → from ≤ t → t < k → path t ≢ i) → at l i ≡ at cols i

  one : (k : ℕ) (l : List ℕ) → from ≤ k → k < size → Stored k l → Stored (suc k) (store m path value k l)
  one k l a b S = by (dec_lt (path k) m)
    where
      by : Dec (path k < m) → Stored (suc k) (store m path value k l)
      by (yes h) = rw (lt-ltb (path k) m h) (record {
        long = length-set l (path k) (value (path k)) ∙ S.long;
        written = λ t f g e. elim (ℕ_discrete t k) [
          | yes q ↦ rw q (get_or-set_same l (path k) (value (path k)) 0 (omega (arith, S.long)))
          | no d ↦ get_or-set_other l (path k) (path t) (value (path k)) 0 (λ q. d (apart t k (omega arith) b q)) ∙ S.written t f (omega arith) e
        ];
        kept = λ i f. get_or-set_other l (path k) i (value (path k)) 0 (λ q. f k a (omega arith) (sym q)) ∙ S.kept i (λ t g h. f t g (omega arith));
      })
      by (no h) = rw (le-ltb (path k) m (omega arith)) (record {
        long = S.long;
        written = λ t f g e. elim (ℕ_discrete t k) [ yes q ↦ absurd (h (rw q at e)) | no d ↦ S.written t f (omega arith) e ];
        kept = λ i f. S.kept i (λ t g h. f t g (omega arith));
      })

  stores : Stored size (upward from size (store m path value) cols)
  stores =
      upward_keeps Stored from size (store m path value) cols order
      (record { long = refl; written = λ t f g e. absurd (omega arith); kept = λ i f. refl }) one

module _ (night : Night) (us vs : List ℤ) (cols : List ℕ) (z : Closed) (c : IsClosed (nodes night) night.column_count (way night us vs cols) z)
    (enough : night.row_count ≤ length cols) where
  abbrev chosen : ℕ → ℕ
  chosen x = choice (nodes night) night.column_count (way night us vs cols) z.walk x

  abbrev written : List ℕ
  written = upward z.from z.walk.size (store night.row_count (place z.walk) chosen) cols

  all : Stored night.row_count z.from z.walk.size (place z.walk) chosen cols c.sound.apart (omega (arith, c.from_below)) enough z.walk.size written
  all = stores night.row_count z.from z.walk.size (place z.walk) chosen cols c.sound.apart (omega (arith, c.from_below)) enough

  pub stored_length : length written ≡ length cols
  stored_length = all.long

  -- The stores make the moved pairing.
  pub stored_moved : (i : ℕ) → i < night.row_count → at written i ≡ at (moved night us vs cols z) i
  stored_moved i l = by (on_closed z i) refl ∙ sym (get_d_table night.row_count (λ k. cond (on_closed z k) (chosen k) (at cols k)) 0 i l)
    where
      by : (t : Bool) → on_closed z i ≡ t → at written i ≡ cond (on_closed z i) (chosen i) (at cols i)
      by true e =
          let k = closed_true (nodes night) night.column_count (way night us vs cols) z c i e in
          rw e (subst (λ (x : ℕ). at written x ≡ chosen x) k.3 (all.written k.0 k.1 k.2 (omega (arith, k.3))))
      by false e =
          rw e
          (all.kept i (λ t f g q. true≢false (sym (closed_make (nodes night) night.column_count (way night us vs cols) z c i (t, f, g, q)) ∙ e)))
