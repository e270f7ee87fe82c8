-- An amount on all costs of a row leaves the same pairings least, in any night: any rows, as many columns or more, any places allowed. So does one on all
-- costs of a column where there are as many rows as columns. Each pairing's total rises by the same. Assumes nothing.
use mathlib.Core.Path.{◌≡◌, refl, sym, ap, ◌∙◌, subst}
use mathlib.Core.Logic.{◌≢◌, ◌↔◌}
use mathlib.Core.List.{List}
use Prim.Native.Nat.{ℕ, ◌+◌, ◌*◌, ◌%◌, ◌<◌}
use native.Mathlib.Nat.{mul-le-mul_right, suc-mul, mul-add-mod_self_right, mod-eq_of_lt}
use native.Mathlib.Decide.{ℕ_discrete}
use native.Mathlib.Omega.{arith}
use borrow.Author.Tests.{eq-eqb, ne_eqb}
use lib.IntN.{ℤ, pos, ◌+ℤ◌, +ℤ_idr}
use lib.ListN.{length, set, length-set}
use lib.Seq.{ext_get_or, get_or-set_same, get_or-set_other}
use Rattle.ints.proofs.Shapes.{zlin}
use Rattle.lists.specs.Sums.{sum}
use Rattle.lists.specs.Permutations.{at, table, Injective}
use Rattle.lists.proofs.Sums.{sum_cong, sum_add, sum_zero, sum_change}
use Rattle.lists.proofs.Injections.{sum_permuted}
use Rattle.lists.proofs.Tables.{length-table, get_d_table}
use Rattle.assignment.specs.Pairings.{Night, Pairing, total, Least, signed_at, square}
use Rattle.assignment.specs.Amounts.{with_costs, ColumnAmounts, RowAmounts, only, risen}
use Rattle.assignment.proofs.Pairings.{pairing_injective}

-- ---- other costs at the same places

-- The pairings are the same: they do not see costs.
pub pairing_same : (night : Night) (cost : ℕ → ℕ → ℤ) (cols : List ℕ) → Pairing night cols ↔ Pairing (with_costs night cost) cols
pairing_same night cost cols = (
  λ p. record { size = p.size; inside = p.inside; apart = p.apart; permitted = p.permitted },
  λ p. record { size = p.size; inside = p.inside; apart = p.apart; permitted = p.permitted },
)

-- Where each pairing's total rises by the same, the same pairings are least.
pub least-same : (night : Night) (cost : ℕ → ℕ → ℤ) (t : ℤ)
    → ((cols : List ℕ) → Pairing night cols → total (with_costs night cost) cols ≡ total night cols +ℤ t)
    → (cols : List ℕ) → Least night cols ↔ Least (with_costs night cost) cols
least-same night cost t rises cols = (
  λ o. record {
    pairing = (pairing_same night cost cols).0 o.pairing;
    least = λ other q. let q₀ = (pairing_same night cost other).1 q in omega (zlin, rises cols o.pairing, rises other q₀, o.least other q₀);
  },
  λ o. let p = (pairing_same night cost cols).1 o.pairing in record {
    pairing = p;
    least = λ other q. omega (zlin, rises cols p, rises other q, o.least other ((pairing_same night cost other).0 q));
  },
)

-- ---- an amount on each row

module _ (night : Night) (amount : ℕ → ℤ) (cost : ℕ → ℕ → ℤ) (with-amounts : RowAmounts night amount cost) where
  pub row_amounts_total : (cols : List ℕ) → Pairing night cols → total (with_costs night cost) cols ≡ total night cols +ℤ sum night.row_count amount
  row_amounts_total cols p =
      sum_cong night.row_count (λ i. cost i (at cols i)) (λ i. night.cost i (at cols i) +ℤ amount i)
      (λ i l. with-amounts.added i (at cols i) l (p.inside i l) (p.permitted i l))
      ∙ sum_add night.row_count (λ i. night.cost i (at cols i)) amount

  pub row_amounts_least : (cols : List ℕ) → Least night cols ↔ Least (with_costs night cost) cols
  row_amounts_least = least-same night cost (sum night.row_count amount) row_amounts_total

-- ---- an amount on each column, of as many as there are rows

module _ (night : Night) (even : night.row_count ≡ night.column_count) (amount : ℕ → ℤ) (cost : ℕ → ℕ → ℤ) (with-amounts : ColumnAmounts night amount cost) where
  pub column_amounts_total : (cols : List ℕ) → Pairing night cols → total (with_costs night cost) cols ≡ total night cols +ℤ sum night.row_count amount
  column_amounts_total cols p =
      sum_cong night.row_count (λ i. cost i (at cols i)) (λ i. night.cost i (at cols i) +ℤ amount (at cols i))
      (λ i l. with-amounts.added i (at cols i) l (p.inside i l) (p.permitted i l))
      ∙ sum_add night.row_count (λ i. night.cost i (at cols i)) (λ i. amount (at cols i))
      ∙ ap (λ (z : ℤ). total night cols +ℤ z) (sum_permuted amount (subst (λ (n : ℕ). Injective night.row_count n (at cols)) (sym even) (pairing_injective night cols p)))

  pub column_amounts_least : (cols : List ℕ) → Least night cols ↔ Least (with_costs night cost) cols
  column_amounts_least = least-same night cost (sum night.row_count amount) column_amounts_total

-- ---- prices with the amounts added

module _ (amount : ℕ → ℤ) where
  pub length-risen : (v : List ℤ) → length (risen amount v) ≡ length v
  unfolding risen
  length-risen v = length-table (length v) (λ j. signed_at v j +ℤ amount j)

  pub price_risen : (v : List ℤ) (j : ℕ) → j < length v → signed_at (risen amount v) j ≡ signed_at v j +ℤ amount j
  unfolding risen
  price_risen v j l = get_d_table (length v) (λ k. signed_at v k +ℤ amount k) (pos 0) j l

-- ---- one amount

module _ (c : ℕ) (a : ℤ) where
  pub only_here : only c a c ≡ a
  only_here = rw (eq-eqb c c refl)

  pub only_elsewhere : (k : ℕ) → k ≢ c → only c a k ≡ pos 0
  only_elsewhere k d = rw (ne_eqb k c d)

  -- The sum of one amount is the amount.
  pub sum-only : (n : ℕ) → c < n → sum n (only c a) ≡ a
  sum-only n l =
      omega (
        zlin,
        sum_change n c (only c a) (λ k. pos 0) l (λ k m d. only_elsewhere k d),
        sum_zero n (λ k. pos 0) (λ k m. refl),
        only_here,
      )

  -- One price rises by it, and the other prices stay.
  pub risen-only : (v : List ℤ) → c < length v → risen (only c a) v ≡ set v c (signed_at v c +ℤ a)
  risen-only v l =
      ext_get_or (pos 0) (risen (only c a) v) (set v c (signed_at v c +ℤ a)) (length-risen (only c a) v ∙ sym (length-set v c (signed_at v c +ℤ a)))
      (λ j h. by j (omega (arith, length-risen (only c a) v)) (ℕ_discrete j c))
    where
      by : (j : ℕ) → j < length v → Dec (j ≡ c) → signed_at (risen (only c a) v) j ≡ signed_at (set v c (signed_at v c +ℤ a)) j
      by j m (yes e) =
          subst (λ (k : ℕ). signed_at (risen (only c a) v) k ≡ signed_at (set v c (signed_at v c +ℤ a)) k) (sym e)
          (price_risen (only c a) v c l ∙ ap (λ (z : ℤ). signed_at v c +ℤ z) only_here ∙ sym (get_or-set_same v c (signed_at v c +ℤ a) (pos 0) l))
      by j m (no d) =
          price_risen (only c a) v j m ∙ ap (λ (z : ℤ). signed_at v j +ℤ z) (only_elsewhere j d) ∙ +ℤ_idr (signed_at v j)
          ∙ sym (get_or-set_other v c j (signed_at v c +ℤ a) (pos 0) d)

-- A surcharge on one row: every pairing costs the amount more.
pub row_surcharge_total : (night : Night) (r : ℕ) → r < night.row_count → (a : ℤ) (cost : ℕ → ℕ → ℤ) → RowAmounts night (only r a) cost
    → (cols : List ℕ) → Pairing night cols → total (with_costs night cost) cols ≡ total night cols +ℤ a
row_surcharge_total night r l a cost with-amounts cols p =
    row_amounts_total night (only r a) cost with-amounts cols p ∙ ap (λ (z : ℤ). total night cols +ℤ z) (sum-only r a night.row_count l)

-- ---- every square night has one with the amounts

module _ (n : ℕ) (amount : ℕ → ℤ) (costs : List ℤ) where
  -- The costs in row order: place k stands in column k % n.
  abbrev pub with_amounts : List ℤ
  with_amounts = table (n * n) (λ k. signed_at costs k +ℤ amount (k % n))

  pub column_amounts_made : ColumnAmounts (square n costs) amount (square n with_amounts).cost
  column_amounts_made = record {
    added = λ i j l m e.
        get_d_table (n * n) (λ k. signed_at costs k +ℤ amount (k % n)) (pos 0) (i * n + j) (omega (arith, mul-le-mul_right n l, suc-mul i n))
        ∙ ap (λ (k : ℕ). signed_at costs (i * n + j) +ℤ amount k) (mul-add-mod_self_right i n j ∙ mod-eq_of_lt m);
  }
