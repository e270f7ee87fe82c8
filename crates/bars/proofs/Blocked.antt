-- A set of rows whose allowed columns are fewer leaves no pairing. For any night. Assumes nothing.
use mathlib.Core.Path.{◌≡◌, refl, ap, ◌∙◌}
use mathlib.Core.Bool.{Bool, true, ◌&&◌, and-eq-true_iff}
use mathlib.Core.Logic.{◌↔◌}
use mathlib.Core.List.{List}
use Prim.Native.Nat.{ℕ, ◌<◌, ◌^◌}
use native.Mathlib.Omega.{arith}
use lib.Count.{ones}
use lib.IntN.{pos, ◌-ℤ◌}
use Rattle.ints.proofs.Shapes.{zlin}
use Rattle.lists.specs.Permutations.{at}
use Rattle.lists.specs.Counts.{bit_of}
use Rattle.lists.proofs.Sums.{sum_le, sum_sub, sum_zero}
use Rattle.lists.proofs.Injections.{sum_injection_le}
use Rattle.lists.proofs.Counts.{one, one_le, one_least, count-sum, count_cong, some_read, some_make, some_cong}
use Rattle.lists.proofs.BitSets.{ones_count}
use Rattle.assignment.specs.Pairings.{Night, Pairing}
use Rattle.assignment.proofs.Pairings.{pairing_injective}
use Rattle.bars.specs.Blocked.{columns_of, Blocked}

module _ (night : Night) (rows : ℕ → Bool) where
  abbrev columns : ℕ → Bool
  columns j = columns_of night rows j

  pub columns_read : (j : ℕ) → columns j ≡ true → (i : ℕ) × (i < night.row_count) × (rows i ≡ true) × (night.allowed i j ≡ true)
  columns_read j e =
      let s = some_read night.row_count (λ i. rows i && night.allowed i j) e in
      let b = (and-eq-true_iff (rows s.0) (night.allowed s.0 j)).0 s.2 in
      (s.0, s.1, b.0, b.1)

  pub columns_make : (i j : ℕ) → i < night.row_count → rows i ≡ true → night.allowed i j ≡ true → columns j ≡ true
  columns_make i j l a b =
      some_make night.row_count (λ k. rows k && night.allowed k j) i l ((and-eq-true_iff (rows i) (night.allowed i j)).1 (a, b))

  -- A pairing would give each row of the set a column of its own among them.
  pub blocked_none : Blocked night rows → (cols : List ℕ) → Pairing night cols → ⊥
  blocked_none b cols p =
      omega (
        zlin,
        b.fewer,
        count-sum night.row_count rows,
        count-sum night.column_count columns,
        sum_le night.row_count (λ i. one (rows i)) (λ i. one (columns (at cols i)))
            (λ i l. one_le (rows i) (columns (at cols i)) (λ e. columns_make i (at cols i) l e (p.permitted i l))),
        sum_injection_le night.row_count (at cols) (λ j. pos 0 -ℤ one (columns j)) (pairing_injective night cols p)
            (λ j l. omega (zlin, one_least (columns j))),
        sum_sub night.column_count (λ j. pos 0) (λ j. one (columns j)),
        sum_sub night.row_count (λ i. pos 0) (λ i. one (columns (at cols i))),
        sum_zero night.row_count (λ j. pos 0) (λ j l. refl),
        sum_zero night.column_count (λ j. pos 0) (λ j l. refl),
      )

-- Two sets with the same rows.
pub columns_cong : (night : Night) (f g : ℕ → Bool) → ((i : ℕ) → i < night.row_count → f i ≡ g i) → (j : ℕ) → columns_of night f j ≡ columns_of night g j
columns_cong night f g e j =
    some_cong night.row_count (λ i. f i && night.allowed i j) (λ i. g i && night.allowed i j) (λ i l. ap (λ (t : Bool). t && night.allowed i j) (e i l))

pub blocked_cong : (night : Night) (f g : ℕ → Bool) → ((i : ℕ) → i < night.row_count → f i ≡ g i) → Blocked night f → Blocked night g
blocked_cong night f g e b = record {
  fewer = omega (
    arith,
    b.fewer,
    count_cong night.row_count f g e,
    count_cong night.column_count (columns_of night f) (columns_of night g) (λ j l. columns_cong night f g e j),
  );
}

-- With both sets as numbers' bits: the ones are counted.
pub blocked_ones : (night : Night) (r c : ℕ) → r < 2 ^ night.row_count → c < 2 ^ night.column_count
    → ((j : ℕ) → j < night.column_count → bit_of c j ≡ columns_of night (bit_of r) j) → (ones c < ones r) ↔ Blocked night (bit_of r)
blocked_ones night r c lr lc e =
    let s = ones_count night.row_count r lr in
    let t = ones_count night.column_count c lc ∙ count_cong night.column_count (bit_of c) (columns_of night (bit_of r)) e in
    (λ h. record { fewer = omega arith }, λ b. omega (arith, b.fewer))
