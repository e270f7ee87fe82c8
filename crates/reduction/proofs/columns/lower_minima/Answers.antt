use Rattle.std.proofs.Common.{◌≡◌, sym, ap, ap₂, ◌∙◌, ℕ, ◌+◌, ◌<◌, ℤ, pos, List, Bool, true, false, cond, length, set, arith, rules, w64, to_z, of_z}
use native.Mathlib.Nat.{le_refl}
use borrow.Author.Count.{below_more}
use lib.Seq.{get_or-set_same, get_or-set_other}
use lib.Signed.{lt_z}
use Rattle.lists.specs.Permutations.{at}
use Rattle.assignment.specs.Pairings.{signed_at}
use Rattle.matrix.proofs.SmallLimits.{side_small}
use Rattle.rules.specs.declared.Low.{Low}
use Rattle.rules.specs.Lowest.{low}
use Rattle.reduction.specs.Columns.{low_at}
use Rattle.reduction.proofs.Minima.{is_table}
use Rattle.reduction.proofs.columns.lower_minima.Invariants.{Lowered}
use Rattle.reduction.proofs.columns.lower_minima.Goals.{then-cost-v, else-cost-v}
use Rattle.reduction.proofs.columns.lower_minima.Goals as goal

module _ (i j : ℕ) (row v₀ v : List ℤ) (rows₀ rows : List ℕ) (h : Lowered i row v₀ rows₀ v rows j) where
  beside : {b : Bool} → lt_z (signed_at row j) (signed_at v j) ≡ b → low_at i row v₀ rows₀ j ≡ cond b (low (signed_at row j) i) (low (signed_at v j) (at rows j))
  beside {b} t =
      let p = h.values_left j (le_refl j) in
      ap (λ (z : Bool). cond z (low (signed_at row j) i) (low (signed_at v₀ j) (at rows₀ j))) (sym (ap (lt_z (signed_at row j)) p) ∙ t)
      ∙ ap₂ (λ (y : ℤ) (k : ℕ). cond b (low (signed_at row j) i) (low y k)) (sym p) (sym (h.places_left j (le_refl j)))

  -- a column that row i lowers
  lowered : lt_z (signed_at row j) (signed_at v j) ≡ true → j < length v → j < length rows → Lowered i row v₀ rows₀ (set v j (signed_at row j)) (set rows j i) (j + 1)
  lowered t here there = record {
    places = below_more (λ k. at (set rows j i) k ≡ (low_at i row v₀ rows₀ k).place) j
        (λ k l. get_or-set_other rows j k i 0 (λ e. omega arith) ∙ h.places k l)
        (get_or-set_same rows j i 0 there ∙ sym (ap (λ (y : Low). y.place) (beside t)));
    values = below_more (λ k. signed_at (set v j (signed_at row j)) k ≡ (low_at i row v₀ rows₀ k).value) j
        (λ k l. get_or-set_other v j k (signed_at row j) (pos 0) (λ e. omega arith) ∙ h.values k l)
        (get_or-set_same v j (signed_at row j) (pos 0) here ∙ sym (ap (λ (y : Low). y.value) (beside t)));
    places_left = λ k l. get_or-set_other rows j k i 0 (λ e. omega arith) ∙ h.places_left k (omega arith);
    values_left = λ k l. get_or-set_other v j k (signed_at row j) (pos 0) (λ e. omega arith) ∙ h.values_left k (omega arith);
  }

  -- a column that it leaves
  left : lt_z (signed_at row j) (signed_at v j) ≡ false → Lowered i row v₀ rows₀ v rows (j + 1)
  left t = record {
    places = below_more (λ k. at rows k ≡ (low_at i row v₀ rows₀ k).place) j h.places (sym (ap (λ (y : Low). y.place) (beside t)));
    values = below_more (λ k. signed_at v k ≡ (low_at i row v₀ rows₀ k).value) j h.values (sym (ap (λ (y : Low). y.value) (beside t)));
    places_left = λ k l. h.places_left k (omega arith);
    values_left = λ k l. h.values_left k (omega arith);
  }

pub overflow_cast-rows : goal.overflow_cast-rows
overflow_cast-rows c = omega (arith, side_small, c.requires.0)

pub loop-j-preserved : goal.loop-j-preserved
loop-j-preserved c =
    let u = c.args in
    let l = c.loop-j in
    let cost : to_z w64 (of_z w64 c.from-cost.result) ≡ signed_at u.row.now l.j = search rules in
    let price : to_z w64 (of_z w64 (signed_at l.v l.j)) ≡ signed_at l.v l.j = search rules in
    elim c.if-cost-v.branch [
      | then-cost-v w ↦ rw (w.v-is, w.rows-is, cost)
          (lowered u.i l.j u.row.now u.v.now l.v u.rows.now l.rows l.invariant (rw (cost, price) at w.if-cost-v.true) (omega arith) (omega arith))
      | else-cost-v w ↦ rw (w.v-is, w.rows-is) (left u.i l.j u.row.now u.v.now l.v u.rows.now l.rows l.invariant (rw (cost, price) at w.if-cost-v.false))
    ]

pub returns : goal.returns
returns c =
    let h = c.loop-j.invariant in
    (is_table _ _ _ _ (c.loop-j.auto.rows ∙ c.requires.1) (λ k m. h.places k (omega arith)), is_table _ _ _ _ (c.loop-j.auto.v ∙ c.requires.2) (λ k m. h.values k (omega arith)))
