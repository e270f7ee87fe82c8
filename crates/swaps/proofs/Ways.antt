-- The ways of the walk for a second pairing: the nodes, the node behind a column, the highest price of a used column, and what it is that a choice
-- leads on. Assumes nothing.
use mathlib.Core.Path.{◌≡◌, refl, ap}
use mathlib.Core.Bool.{Bool, true, false, cond, not, ◌&&◌, ◌||◌, and-eq-true_iff}
use mathlib.Core.Logic.{◌≢◌, ◌⊎◌, inl, inr, ⊎_elim}
use mathlib.Core.List.{List}
use Prim.Native.Nat.{ℕ, suc, ◌≤◌, ◌<◌}
use native.Mathlib.Decide.{ℕ_discrete, dec_lt}
use native.Mathlib.Omega.{arith}
use lib.Dec.{ltb, eqb}
use lib.IntN.{ℤ}
use lib.Signed.{◌≤ℤ◌, le_z, lt_z}
use borrow.Author.Tests.{ltb-true, eqb-true, eqb-false, not-true, lt-ltb, le-ltb, ne_eqb}
use Rattle.ints.proofs.Ranges.{zarith}
use Rattle.ints.proofs.Tests.{le_le_z}
use Rattle.lists.specs.Permutations.{at}
use Rattle.lists.proofs.Cases.{or_either, or_second}
use Rattle.lists.proofs.Runs.{upward_keeps, first_le, first_holds, first_before}
use Rattle.assignment.specs.Pairings.{Night, Spare, signed_at}
use Rattle.assignment.specs.Prices.{priced}
use Rattle.swaps.specs.Second.{nodes, behind, dearest, fits, row_way, spare_way, way}

-- ---- tests

-- What is picked is below the second only where it is the first.
picked : (t : Bool) (a b : ℕ) → cond t a b < b → (t ≡ true) × (cond t a b ≡ a)
picked true a b l = (refl, refl)
picked false a b l = absurd (omega arith)

-- ---- the nodes

pub rows_nodes : (night : Night) → night.row_count ≤ nodes night
rows_nodes night =
    elim (dec_lt night.row_count night.column_count) [
      | yes l ↦ rw (lt-ltb night.row_count night.column_count l) (omega arith)
      | no l ↦ rw (le-ltb night.row_count night.column_count (omega arith)) (omega arith)
    ]

pub spare_node : (night : Night) → night.row_count < night.column_count → night.row_count < nodes night
spare_node night l = rw (lt-ltb night.row_count night.column_count l) (omega arith)

module _ (night : Night) (us vs : List ℤ) (cols : List ℕ) where
  abbrev m : ℕ
  m = night.row_count

  abbrev top : ℤ
  top = dearest night vs cols

  abbrev own : ℕ → ℕ
  own j = behind night cols j

  -- ---- the highest price of a used column

  abbrev Top : ℕ → ℤ → Type 0
  Top k t = ((i : ℕ) → i < k → signed_at vs (at cols i) ≤ℤ t) × ((i : ℕ) × (i < m) × (t ≡ signed_at vs (at cols i)))

  pub dearest_ok : 0 < m → Top m top
  unfolding dearest
  dearest_ok h =
      upward_keeps Top 0 m (λ i t. cond (lt_z t (signed_at vs (at cols i))) (signed_at vs (at cols i)) t) (signed_at vs (at cols 0)) (omega arith)
      (λ i l. absurd (omega arith), (0, h, refl)) more
    where
      more : (k : ℕ) (t : ℤ) → 0 ≤ k → k < m → Top k t → Top (suc k) (cond (lt_z t (signed_at vs (at cols k))) (signed_at vs (at cols k)) t)
      more k t a b s = by (lt_z t (signed_at vs (at cols k))) refl
        where
          by : (u : Bool) → lt_z t (signed_at vs (at cols k)) ≡ u → Top (suc k) (cond u (signed_at vs (at cols k)) t)
          by true e = (
            λ i l. elim (ℕ_discrete i k) [
              | yes q ↦ omega (zarith, ap (λ (x : ℕ). signed_at vs (at cols x)) q)
              | no d ↦ omega (zarith, s.0 i (omega arith))
            ],
            (k, b, refl),
          )
          by false e = (
            λ i l. elim (ℕ_discrete i k) [
              | yes q ↦ omega (zarith, ap (λ (x : ℕ). signed_at vs (at cols x)) q)
              | no d ↦ s.0 i (omega arith)
            ],
            s.1,
          )

  -- ---- the node behind a column

  pub behind_le : (j : ℕ) → own j ≤ m
  behind_le j = first_le (λ i. eqb (at cols i) j) m

  pub behind_row : (j : ℕ) → own j < m → at cols (own j) ≡ j
  behind_row j l = eqb-true (at cols (own j)) j (first_holds (λ i. eqb (at cols i) j) m l)

  pub behind_spare : (j : ℕ) → m ≤ own j → Spare night cols j
  behind_spare j l i h = eqb-false (at cols i) j (first_before (λ k. eqb (at cols k) j) m i (omega arith))

  -- ---- the ways of a row

  pub record RowWay (x j : ℕ) : Type 0 where
    pub leads : way night us vs cols x j ≡ own j
    pub other : own j ≢ x
    pub permitted : night.allowed x j ≡ true
    pub level : night.cost x j ≤ℤ priced us vs x j
    pub not_above : (own j < m) ⊎ (signed_at vs j ≤ℤ top)

  abbrev cheap : ℕ → ℕ → Bool
  cheap x j = le_z (night.cost x j) (priced us vs x j)

  abbrev low : ℕ → Bool
  low j = ltb (own j) m || le_z (signed_at vs j) top

  pub row_read : (x j : ℕ) → x < m → way night us vs cols x j < nodes night → RowWay x j
  row_read x j h l = go (rw (lt-ltb x m h) at l)
    where
      go : row_way night us vs cols x j < nodes night → RowWay x j
      go l =
          let k = picked (not (eqb (own j) x) && fits night us vs cols x j) (own j) (nodes night) l in
          let a = (and-eq-true_iff (not (eqb (own j) x)) (fits night us vs cols x j)).0 k.0 in
          let b = (and-eq-true_iff (night.allowed x j && cheap x j) (low j)).0 a.1 in
          let d = (and-eq-true_iff (night.allowed x j) (cheap x j)).0 b.0 in
          record {
            leads = rw (lt-ltb x m h) k.1;
            other = eqb-false (own j) x (not-true (eqb (own j) x) a.0);
            permitted = d.0;
            level = let e = d.1 in omega zarith;
            not_above = ⊎_elim (λ e. inl (ltb-true (own j) m e)) (λ e. inr (omega zarith)) (or_either (ltb (own j) m) (le_z (signed_at vs j) top) b.1);
          }

  pub row_make : (x j : ℕ) → x < m → own j ≢ x → night.allowed x j ≡ true → night.cost x j ≤ℤ priced us vs x j
      → (own j < m) ⊎ (signed_at vs j ≤ℤ top) → way night us vs cols x j ≡ own j
  row_make x j h d a c o = rw (lt-ltb x m h, (and-eq-true_iff (not (eqb (own j) x)) (fits night us vs cols x j)).1 (ap not (ne_eqb (own j) x d), good))
    where
      good : fits night us vs cols x j ≡ true
      good =
          (and-eq-true_iff (night.allowed x j && cheap x j) (low j)).1 (
            (and-eq-true_iff (night.allowed x j) (cheap x j)).1 (a, le_le_z (night.cost x j) (priced us vs x j) c),
            ⊎_elim (λ l. ap (λ (t : Bool). t || le_z (signed_at vs j) top) (lt-ltb (own j) m l)) (λ l. or_second (ltb (own j) m) (le_le_z (signed_at vs j) top l)) o,
          )

  -- ---- the ways of the spare columns

  pub spare_read : (x i : ℕ) → m ≤ x → way night us vs cols x i < nodes night
      → (way night us vs cols x i ≡ i) × (i < m) × (top ≤ℤ signed_at vs (at cols i))
  spare_read x i h l = go (rw (le-ltb x m h) at l)
    where
      go : spare_way night us vs cols i < nodes night → (way night us vs cols x i ≡ i) × (i < m) × (top ≤ℤ signed_at vs (at cols i))
      go l =
          let k = picked (ltb i m && le_z top (signed_at vs (at cols i))) i (nodes night) l in
          let a = (and-eq-true_iff (ltb i m) (le_z top (signed_at vs (at cols i)))).0 k.0 in
          (rw (le-ltb x m h) k.1, ltb-true i m a.0, (let e = a.1 in omega zarith))

  pub spare_make : (x i : ℕ) → m ≤ x → i < m → top ≤ℤ signed_at vs (at cols i) → way night us vs cols x i ≡ i
  spare_make x i h l c =
      rw (le-ltb x m h, (and-eq-true_iff (ltb i m) (le_z top (signed_at vs (at cols i)))).1 (lt-ltb i m l, le_le_z top (signed_at vs (at cols i)) c))
