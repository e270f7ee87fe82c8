-- Costs with an amount on each column, and prices that have risen by it: reduced costs stay, as cost and price rise together; a price stored with its amount;
-- the lowest of a column rises by the column's amount, at the same row. Assumes nothing.
use mathlib.Core.Path.{◌≡◌, refl, sym, ap, ◌∙◌}
use mathlib.Core.Bool.{Bool, cond}
use mathlib.Core.List.{List}
use Prim.Native.Nat.{ℕ, ◌≤◌, ◌<◌}
use native.Mathlib.Omega.{arith}
use lib.IntN.{ℤ, pos, ◌+ℤ◌}
use lib.Signed.{lt_z}
use lib.ListN.{length, set, length-set}
use lib.Seq.{ext_get_or, get_or-set_same, get_or-set_other, lt-length-set}
use Rattle.ints.proofs.Shapes.{zlin}
use Rattle.ints.proofs.Tests.{lt_z_plus}
use Rattle.lists.specs.Permutations.{table}
use Rattle.lists.proofs.Tables.{length-table, get_d_table, table_cong}
use Rattle.lists.proofs.InStep.{upward_both}
use Rattle.lists.proofs.Cases.{cond_both, here_or_elsewhere}
use Rattle.assignment.specs.Pairings.{signed_at}
use Rattle.assignment.specs.Amounts.{risen}
use Rattle.assignment.proofs.Amounts.{length-risen, price_risen}
use Rattle.rules.specs.declared.Low.{Low}
use Rattle.rules.specs.Lowest.{reduced, low, lower, lowest}

-- ---- prices

module _ (amount : ℕ → ℤ) where
  -- A price stored, with its amount. Past the end nothing is stored.
  pub set-risen : (v : List ℤ) (j : ℕ) (x y : ℤ) → (j < length v → y ≡ x +ℤ amount j) → set (risen amount v) j y ≡ risen amount (set v j x)
  set-risen v j x y e =
      ext_get_or (pos 0) (set (risen amount v) j y) (risen amount (set v j x))
      (length-set (risen amount v) j y ∙ length-risen amount v ∙ sym (length-set v j x) ∙ sym (length-risen amount (set v j x)))
      (λ i h. here_or_elsewhere (λ k. k < length v → signed_at (set (risen amount v) j y) k ≡ signed_at (risen amount (set v j x)) k) j
      (λ l. get_or-set_same (risen amount v) j y (pos 0) (omega (arith, length-risen amount v)) ∙ e l
      ∙ ap (λ z. z +ℤ amount j) (sym (get_or-set_same v j x (pos 0) l)) ∙ sym (price_risen amount (set v j x) j (lt-length-set v j x l)))
      (λ k d l. get_or-set_other (risen amount v) j k y (pos 0) d ∙ price_risen amount v k l
      ∙ ap (λ z. z +ℤ amount k) (sym (get_or-set_other v j k x (pos 0) d)) ∙ sym (price_risen amount (set v j x) k (lt-length-set v j x l)))
      i (omega (arith, length-set (risen amount v) j y, length-risen amount v)))

  pub table-risen : (n : ℕ) (f g : ℕ → ℤ) → ((j : ℕ) → j < n → g j ≡ f j +ℤ amount j) → table n g ≡ risen amount (table n f)
  unfolding risen
  table-risen n f g e =
      table_cong n g (λ j. signed_at (table n f) j +ℤ amount j) (λ j l. e j l ∙ ap (λ z. z +ℤ amount j) (sym (get_d_table n f (pos 0) j l)))
      ∙ ap (λ (m : ℕ). table m (λ j. signed_at (table n f) j +ℤ amount j)) (sym (length-table n f))

-- ---- reduced costs

-- Each cost below side n has its column's amount added.
abbrev pub Added : ℕ → (ℕ → ℤ) → (ℕ → ℕ → ℤ) → (ℕ → ℕ → ℤ) → Type 0
Added n amount cost cost' = (i j : ℕ) → i < n → j < n → cost' i j ≡ cost i j +ℤ amount j

pub reduced-same : (n : ℕ) (amount : ℕ → ℤ) (cost cost' : ℕ → ℕ → ℤ) → Added n amount cost cost' → (v : List ℤ) → length v ≡ n
    → (i j : ℕ) → i < n → j < n → reduced cost' (signed_at (risen amount v)) i j ≡ reduced cost (signed_at v) i j
reduced-same n amount cost cost' added v size i j l m = omega (zlin, added i j l m, price_risen amount v j (omega arith))

-- ---- the lowest of a column

-- A value with d added, at its place.
abbrev pub low_plus : ℤ → Low → Low
low_plus d a = low (a.value +ℤ d) a.place

lower_plus : (d : ℤ) (a h : Low) → lower (low_plus d a) (low_plus d h) ≡ low_plus d (lower a h)
lower_plus d a h =
    ap (λ (t : Bool). cond t (low_plus d h) (low_plus d a)) (lt_z_plus h.value a.value d)
    ∙ cond_both (lt_z h.value a.value) (λ (x y : Low). y ≡ low_plus d x) refl refl

pub lowest_plus : (n : ℕ) (f g : ℕ → ℤ) (d : ℤ) → 1 ≤ n → ((i : ℕ) → i < n → g i ≡ f i +ℤ d) → lowest n g ≡ low_plus d (lowest n f)
unfolding lowest
lowest_plus n f g d one e =
    upward_both (λ k a b. b ≡ low_plus d a) 1 n (λ i found. lower found (low (f i) i)) (λ i found. lower found (low (g i) i)) (low (f 0) 0) (low (g 0) 0) one
    (ap (λ (z : ℤ). low z 0) (e 0 one))
    (λ k a b l m r.
    ap (λ (x : Low). lower x (low (g k) k)) r ∙ ap (λ (z : ℤ). lower (low_plus d a) (low z k)) (e k m) ∙ lower_plus d a (low (f k) k))
