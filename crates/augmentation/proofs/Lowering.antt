-- The turns in which one row sees the columns after the block: a column is passed by, lowered, swapped to the block's end, or hit. Assumes
-- nothing.
use mathlib.Core.Path.{◌≡◌, refl, sym, ap, ◌∙◌}
use mathlib.Core.Bool.{Bool, true, false, cond}
use mathlib.Core.List.{List}
use Prim.Native.Nat.{ℕ, ◌+◌, ◌≤◌, ◌<◌}
use native.Mathlib.Numerals.{add-one}
use native.Mathlib.Omega.{arith}
use lib.Dec.{ltb}
use lib.IntN.{ℤ, ◌-ℤ◌}
use lib.Signed.{lt_z}
use lib.ListN.{set}
use Rattle.ints.proofs.Ranges.{zarith}
use Rattle.ints.proofs.Tests.{not_true_false, le_le_z}
use Rattle.lists.specs.Runs.{Turn, on, left, and_then, until}
use Rattle.lists.proofs.Runs.{until_none, until-last}
use Rattle.lists.specs.Permutations.{at, exchange, Permutation}
use Rattle.lists.proofs.Permutations.{exchange_permutation}
use Rattle.lists.proofs.Leaving.{until-longer}
use Rattle.assignment.specs.Pairings.{signed_at}
use Rattle.rules.specs.Search.{Work, Hit, same, reach_by, join, after_lowering, scan_column, work_of}
use Rattle.rules.proofs.Scan.{same_true}
use Rattle.std.specs.declared.ops.ControlFlow.TheVariants.{Break}
use Rattle.augmentation.specs.Scan.{seen, ColumnsLowered}

pub same_equal : (x y : ℤ) → x ≡ y → same x y ≡ true
same_equal x y e = rw (le_le_z x y (omega zarith), le_le_z y x (omega zarith))

pub same_other : (x y : ℤ) → (x ≡ y → ⊥) → same x y ≡ false
same_other x y d = not_true_false (λ e. d (same_true x y e))

module _ (n i : ℕ) (row v : List ℤ) (rows : List ℕ) (h minimum : ℤ) (hi₀ : ℕ) (d₀ : List ℤ) (list₀ predecessors₀ : List ℕ) where
  -- A cost function whose row i is the row that sees the columns.
  abbrev Costs : (ℕ → ℕ → ℤ) → Type 0
  Costs cost = (j : ℕ) → j < n → cost i j ≡ signed_at row j

  -- The definition's turn at place k, and its run up to place k.
  abbrev step : (ℕ → ℕ → ℤ) → ℕ → Work → Turn Work Hit
  step cost = scan_column n cost (signed_at v) (at rows) minimum h i

  abbrev run : (ℕ → ℕ → ℤ) → ℕ → ℕ → Turn Work Hit
  run cost m k = until hi₀ k (step cost) (work_of hi₀ list₀ d₀ predecessors₀ m)

  -- The columns before place k have been seen, and the block ends at hi.
  pub record Lowering (d : List ℤ) (list predecessors : List ℕ) (hi k : ℕ) : Type 0 where
    pub place : (hi₀ ≤ hi) × (hi ≤ k) × (k ≤ n)
    pub listed : Permutation n list
    pub run_is : (cost : ℕ → ℕ → ℤ) → Costs cost → (m : ℕ) → on (work_of hi list d predecessors m) ≡ run cost m k

  pub first_lowering : hi₀ ≤ n → Permutation n list₀ → Lowering d₀ list₀ predecessors₀ hi₀ hi₀
  first_lowering l p = record {
    place = omega arith;
    listed = p;
    run_is = λ cost e m. sym (until_none hi₀ hi₀ (step cost) (work_of hi₀ list₀ d₀ predecessors₀ m) (omega arith));
  }

  module _ {d : List ℤ} {list predecessors : List ℕ} {hi k : ℕ} (L : Lowering d list predecessors hi k) where
    module _ (l : k < n) where
      abbrev j : ℕ
      j = at list k

      pub column_below : at list k < n
      column_below = L.listed.injective.below k l

      module _ (x : ℤ) (lowered : x ≡ (signed_at row j -ℤ signed_at v j) -ℤ h) where
        -- What the definition's turn is, by its tests.
        tests : ℕ → Bool → Bool → Bool → Turn Work Hit
        tests m a b c =
            let w = work_of hi list d predecessors m in
            let reached = reach_by w i j x in
            cond a (cond b (cond c (on (join reached k)) (left (record { column = j; work = reached }))) (on reached)) (on w)

        turn : (cost : ℕ → ℕ → ℤ) → Costs cost → (m : ℕ) (a b c : Bool) → lt_z x (signed_at d j) ≡ a → same x minimum ≡ b → ltb (at rows j) n ≡ c
            → tests m a b c ≡ run cost m (k + 1)
        unfolding tests
        turn cost e m a b c ea eb ec =
            let w = work_of hi list d predecessors m in
            let at_distance : ℤ → Turn Work Hit = λ z. cond (lt_z z (signed_at d j)) (after_lowering n (at rows) minimum k j z (reach_by w i j z)) (on w) in
            let z : x ≡ (cost i j -ℤ signed_at v j) -ℤ h = lowered ∙ ap (λ (y : ℤ). (y -ℤ signed_at v j) -ℤ h) (sym (e j column_below)) in
            let here : tests m a b c ≡ at_distance x = sym (rw (ea, eb, ec)) in
            here ∙ ap at_distance z
            ∙ ap (λ (t : Turn Work Hit). and_then t (step cost k)) (L.run_is cost e m)
            ∙ sym (until-last hi₀ k (step cost) (work_of hi₀ list₀ d₀ predecessors₀ m) (omega (arith, L.place)))
            ∙ ap (run cost m) (sym (add-one k))

        pub pass_by : lt_z x (signed_at d j) ≡ false → Lowering d list predecessors hi (k + 1)
        unfolding tests
        pass_by e = record {
          place = omega (arith, L.place);
          listed = L.listed;
          run_is = λ cost f m. turn cost f m false (same x minimum) (ltb (at rows j) n) e refl refl;
        }

        pub lower : lt_z x (signed_at d j) ≡ true → same x minimum ≡ false → Lowering (set d j x) list (set predecessors j i) hi (k + 1)
        unfolding tests
        lower e f = record {
          place = omega (arith, L.place);
          listed = L.listed;
          run_is = λ cost g m. turn cost g m true false (ltb (at rows j) n) e f refl;
        }

        pub swap_in : lt_z x (signed_at d j) ≡ true → same x minimum ≡ true → ltb (at rows j) n ≡ true
            → Lowering (set d j x) (exchange list k hi) (set predecessors j i) (hi + 1) (k + 1)
        unfolding tests
        swap_in e f g = record {
          place = omega (arith, L.place);
          listed = exchange_permutation L.listed k hi l (omega (arith, L.place));
          run_is = λ cost q m. turn cost q m true true true e f g;
        }

        pub hit : lt_z x (signed_at d j) ≡ true → same x minimum ≡ true → ltb (at rows j) n ≡ false
            → ColumnsLowered n i row v rows h minimum hi₀ d₀ list₀ predecessors₀ (Break j) (set d j x) list (set predecessors j i)
        unfolding tests
        hit e f g = record {
          same = λ cost q m.
              ap seen
              (sym
              (until-longer hi₀ (k + 1) (step cost) (work_of hi₀ list₀ d₀ predecessors₀ m)
              (record { column = j; work = work_of hi list (set d j x) (set predecessors j i) m }) (omega (arith, L.place))
              (sym (turn cost q m true true false e f g)) n (omega arith)));
        }

-- The same, at equal values.
pub lowering_at : {n i : ℕ} {row v : List ℤ} {rows : List ℕ} {h minimum : ℤ} {hi₀ : ℕ} {d₀ : List ℤ} {list₀ predecessors₀ : List ℕ} {d : List ℤ} {list predecessors : List ℕ}
    {hi k : ℕ} → Lowering n i row v rows h minimum hi₀ d₀ list₀ predecessors₀ d list predecessors hi k → {d' : List ℤ} {list' predecessors' : List ℕ} {hi' : ℕ} → d' ≡ d
    → list' ≡ list → predecessors' ≡ predecessors → hi' ≡ hi → Lowering n i row v rows h minimum hi₀ d₀ list₀ predecessors₀ d' list' predecessors' hi' k
lowering_at L a b c e = rw (a, b, c, e) L
