-- Lists longer than the night's rows: only the first entries count for the answer. Assumes nothing.
use mathlib.Core.Path.{◌≡◌, refl, ap, ap₂, ◌∙◌, fun_ext}
use mathlib.Core.Bool.{cond}
use mathlib.Core.List.{List}
use Prim.Native.Nat.{ℕ, ◌<◌}
use native.Mathlib.Decide.{dec_lt}
use native.Mathlib.Omega.{arith}
use lib.Dec.{eqb}
use lib.IntN.{ℤ}
use lib.Signed.{lt_z}
use lib.ListN.{take}
use borrow.Author.Tests.{lt-ltb, le-ltb}
use Rattle.lists.specs.Runs.{Turn, on, left, upward}
use Rattle.lists.specs.Permutations.{at}
use Rattle.lists.proofs.Runs.{upward_cong}
use Rattle.lists.proofs.Tables.{table_cong}
use Rattle.matrix.proofs.First.{first_cong}
use Rattle.assignment.specs.Pairings.{Night, signed_at}
use Rattle.assignment.proofs.Longer.{at_first}
use Rattle.swaps.specs.Walks.{Walk, Closed, on_closed, choice, walk}
use Rattle.swaps.specs.Second.{also, nodes, behind, higher, dearest, way, answer, second}

module _ (night : Night) (us vs : List ℤ) (cols : List ℕ) where
  abbrev m : ℕ
  m = night.row_count

  abbrev firsts : List ℕ
  firsts = take m cols

  behind-first : (j : ℕ) → behind night firsts j ≡ behind night cols j
  behind-first j = first_cong m (λ i. eqb (at firsts i) j) (λ i. eqb (at cols i) j) (λ i l. ap (λ (x : ℕ). eqb x j) (at_first night cols i l))

  dearest-first : 0 < m → dearest night vs firsts ≡ dearest night vs cols
  unfolding dearest
  dearest-first h =
      upward_cong 0 m (higher vs firsts) (higher vs cols) (signed_at vs (at firsts 0))
      (λ k t a b. ap (λ (x : ℕ). cond (lt_z t (signed_at vs x)) (signed_at vs x) t) (at_first night cols k b))
      ∙ ap (λ (x : ℕ). upward 0 m (higher vs cols) (signed_at vs x)) (at_first night cols 0 h)

  way_first : (x j : ℕ) → way night us vs firsts x j ≡ way night us vs cols x j
  way_first x j = by (dec_lt x m) (dec_lt j m)
    where
      by : Dec (x < m) → Dec (j < m) → way night us vs firsts x j ≡ way night us vs cols x j
      by (yes h) d = rw (lt-ltb x m h, behind-first j, dearest-first (omega arith))
      by (no h) (yes l) = rw (le-ltb x m (omega arith), at_first night cols j l, dearest-first (omega arith))
      by (no h) (no l) = rw (le-ltb x m (omega arith), le-ltb j m (omega arith))

  same_way : way night us vs firsts ≡ way night us vs cols
  same_way = fun_ext (λ x. fun_ext (λ j. way_first x j))

  pub second_first : second night us vs firsts ≡ second night us vs cols
  unfolding second
  second_first =
      by (walk (nodes night) night.column_count (way night us vs firsts))
      ∙ ap (λ (f : ℕ → ℕ → ℕ). answer night us vs cols (walk (nodes night) night.column_count f)) same_way
    where
      by : (t : Turn Walk Closed) → answer night us vs firsts t ≡ answer night us vs cols t
      by (on w) = refl
      by (left z) =
          ap also
          (table_cong m (λ i. cond (on_closed z i) (choice (nodes night) night.column_count (way night us vs firsts) z.walk i) (at firsts i))
          (λ i. cond (on_closed z i) (choice (nodes night) night.column_count (way night us vs cols) z.walk i) (at cols i))
          (λ i l. ap₂ (cond (on_closed z i)) (ap (λ (f : ℕ → ℕ → ℕ). choice (nodes night) night.column_count f z.walk i) same_way) (at_first night cols i l)))
