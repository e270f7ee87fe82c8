-- Rules 3 and 4 in lent memory, over plain lists: what one stage leaves is what the next asks for. Assumes nothing.
use mathlib.Core.Path.{◌≡◌, sym, ap, ◌∙◌, subst}
use mathlib.Core.List.{List}
use Prim.Native.Nat.{ℕ, ◌+◌, ◌≤◌}
use native.Mathlib.Decide.{dec_le}
use native.Mathlib.Omega.{arith}
use lib.IntN.{ℤ}
use lib.ListN.{length}
use Rattle.lists.specs.Parts.{part}
use Rattle.assignment.specs.Pairings.{square}
use Rattle.rules.specs.declared.Pass.{Pass}
use Rattle.rules.specs.Columns.{Stage, column_reduction}
use Rattle.rules.specs.Rows.{Passing, pass_start, row_reduction, pass_end}
use Rattle.reduction.specs.Columns.{stage_at}
use Rattle.reduction.specs.Rows.{passing_at, Passable}
use Rattle.reduction.proofs.Looks.{Sized, pass_sized, passable_none}
use Rattle.lapjv.specs.Stages.{Pairable, pass_one, pass_two, ReducedBy}
use Rattle.lapjv.proofs.Ready.{GoodStage, rule_three_good, rule_four, rule_four_good}

module _ (n : ℕ) (costs : List ℤ) (p : Pairable n costs) where
  abbrev cost : ℕ → ℕ → ℤ
  cost = (square n costs).cost

  abbrev pub one_good : GoodStage n costs p (pass_end (pass_one n costs))
  one_good = rule_four_good n costs p (column_reduction n cost) (rule_three_good n costs p)

  abbrev pub two_good : GoodStage n costs p (pass_end (pass_two n costs))
  two_good = rule_four_good n costs p (pass_end (pass_one n costs)) one_good

  -- A stage that is good, as it lies in lent memory, can be passed over.
  passable : (s : Stage) → GoodStage n costs p s → (cols rows : List ℕ) (v : List ℤ) (room : List ℕ) (count : ℕ)
      → stage_at cols rows v (part 0 n room) count ≡ s → Passable n costs cols rows v (part 0 n room) count
  passable s G cols rows v room count e =
      subst (λ (x : Stage). Passable n costs x.pairs.cols x.pairs.rows x.prices x.frees x.count) (sym e) (rule_four n costs p s G)

  -- After rule 3.
  module _ (cols rows : List ℕ) (v : List ℤ) (room : List ℕ) (count : ℕ) (e : stage_at cols rows v (part 0 n room) count ≡ column_reduction n cost) where
    all_passable : Passable n costs cols rows v (part 0 n room) count
    all_passable = passable (column_reduction n cost) (rule_three_good n costs p) cols rows v room count e

    sized : Sized n (pass_start (stage_at cols rows v (part 0 n room) count))
    sized =
        let P = all_passable in
        record { cols_size = P.cols_size; rows_size = P.rows_size; prices_size = P.prices_size; frees_size = P.frees_size; left_most = omega arith }

    -- All rows that rule 3 left can be passed over, or none.
    pub first_pass : (m : ℕ) → (1 ≤ m → count ≡ m) → Passable n costs cols rows v (part 0 n room) m
    first_pass m all = elim (dec_le 1 m) [
      | yes h ↦ subst (Passable n costs cols rows v (part 0 n room)) (all h) all_passable
      | no h ↦ let none : 0 ≡ m = omega arith in
          subst (Passable n costs cols rows v (part 0 n room)) none
          (passable_none n costs (stage_at cols rows v (part 0 n room) 0) all_passable.squared sized)
    ]

    -- After a first pass over m₁ rows.
    module _ (m₁ : ℕ) (cols₁ rows₁ : List ℕ) (v₁ : List ℤ) (room₁ : List ℕ) (pass₁ : Pass)
        (e₁ : passing_at cols₁ rows₁ v₁ (part 0 n room₁) pass₁ ≡ row_reduction n cost (stage_at cols rows v (part 0 n room) m₁)) where
      sized_one : Sized n (passing_at cols₁ rows₁ v₁ (part 0 n room₁) pass₁)
      sized_one = subst (Sized n) (sym e₁) (pass_sized n cost (stage_at cols rows v (part 0 n room) m₁) sized)

      again : Sized n (pass_start (stage_at cols₁ rows₁ v₁ (part 0 n room₁) 0))
      again = record {
        cols_size = sized_one.cols_size;
        rows_size = sized_one.rows_size;
        prices_size = sized_one.prices_size;
        frees_size = sized_one.frees_size;
        left_most = omega arith;
      }

      one : count ≡ m₁ → passing_at cols₁ rows₁ v₁ (part 0 n room₁) pass₁ ≡ pass_one n costs
      one all = e₁ ∙ ap (λ (k : ℕ). row_reduction n cost (stage_at cols rows v (part 0 n room) k)) (sym all) ∙ ap (row_reduction n cost) e

      stage_one : count ≡ m₁ → stage_at cols₁ rows₁ v₁ (part 0 n room₁) pass₁.left ≡ pass_end (pass_one n costs)
      stage_one all = ap pass_end (one all)

      -- All rows that the first pass left can be passed over, or none.
      pub second_pass : (m : ℕ) → (1 ≤ m → (count ≡ m₁) × (pass₁.left ≡ m)) → Passable n costs cols₁ rows₁ v₁ (part 0 n room₁) m
      second_pass m all = elim (dec_le 1 m) [
        | yes h ↦ subst (Passable n costs cols₁ rows₁ v₁ (part 0 n room₁)) (all h).1
            (passable (pass_end (pass_one n costs)) one_good cols₁ rows₁ v₁ room₁ pass₁.left (stage_one (all h).0))
        | no h ↦ let none : 0 ≡ m = omega arith in
            subst (Passable n costs cols₁ rows₁ v₁ (part 0 n room₁)) none
            (passable_none n costs (stage_at cols₁ rows₁ v₁ (part 0 n room₁) 0) all_passable.squared again)
      ]

      -- After a second pass over m₂ rows.
      module _ (m₂ : ℕ) (cols₂ rows₂ : List ℕ) (v₂ : List ℤ) (room₂ : List ℕ) (pass₂ : Pass)
          (e₂ : passing_at cols₂ rows₂ v₂ (part 0 n room₂) pass₂ ≡ row_reduction n cost (stage_at cols₁ rows₁ v₁ (part 0 n room₁) m₂)) where
        -- Both passes over all rows that were left: the stage and the counts of the rules.
        pub reduced_by : count ≡ m₁ → pass₁.left ≡ m₂ → length room₂ ≡ n + n + n + n
            → ReducedBy n costs cols₂ rows₂ v₂ room₂
            (record { free_rows = count; looks_one = pass₁.looks; left_one = pass₁.left; looks_two = pass₂.looks; rows_left = pass₂.left; columns_scanned = 0 })
        reduced_by all_one all_two size =
            let two : passing_at cols₂ rows₂ v₂ (part 0 n room₂) pass₂ ≡ pass_two n costs = e₂
            ∙ ap (λ (k : ℕ). row_reduction n cost (stage_at cols₁ rows₁ v₁ (part 0 n room₁) k)) (sym all_two)
            ∙ ap (row_reduction n cost) (stage_one all_one) in
            record {
              stage = ap pass_end two;
              free_rows = ap (λ (s : Stage). s.count) e;
              looks_one = ap (λ (x : Passing). x.pass.looks) (one all_one);
              left_one = ap (λ (x : Passing). x.pass.left) (one all_one);
              looks_two = ap (λ (x : Passing). x.pass.looks) two;
              room_size = size;
            }
