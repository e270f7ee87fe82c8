-- What the entry answers: where its tests pass, the total of a least pairing, which the first n entries then hold, and none before it in dictionary
-- order has that total. Assumes nothing.
use mathlib.Core.Path.{◌≡◌, refl, sym, ap, ap₂, ◌∙◌}
use mathlib.Core.Bool.{Bool, true, not, cond}
use mathlib.Core.Logic.{◌↔◌}
use mathlib.Core.List.{List, [], ◌++◌}
use Prim.Native.Nat.{ℕ, ◌*◌, ◌≤◌, ◌<◌}
use native.Mathlib.Omega.{arith}
use lib.IntN.{ℤ, pos}
use lib.ListN.{length, take, drop}
use lib.Seq.{length-take-le}
use Rattle.ints.specs.Parts.{Within}
use Rattle.lists.specs.Permutations.{table}
use Rattle.lists.proofs.BitSets.{bit_none}
use Rattle.lists.proofs.Counts.{some_cong}
use Rattle.lists.proofs.Tables.{length-table, get_d_table}
use Rattle.assignment.specs.Pairings.{Night, Pairing, total, Least, square, signed_at}
use Rattle.bars.specs.Barred.{night_of}
use Rattle.matrix.specs.Limits.{K}
use Rattle.matrix.specs.Tests.{side_within, costs_fill, list_long, costs_within}
use Rattle.matrix.specs.Verdicts.{Passes, ◌then◌}
use Rattle.std.specs.Prelude.{Ok, Err}
use Rattle.matrix.specs.declared.refusals.Refusal.{Refusal}
use Rattle.matrix.proofs.First.{first_cong}
use Rattle.matrix.proofs.Passed.{side_within_lem, costs_fill_lem, list_long_lem, costs_within_lem}
use Rattle.matrix.proofs.Verdicts.{then_iff}
use Rattle.plain.specs.Engine.{list_count, list_of, cost_of, less, is_least, chosen, written, plain_tests, answered, plain}
use Rattle.std.proofs.Common.{Option, Some, None, unwrap_or}
use Rattle.plain.proofs.Numbers.{Before}
use Rattle.plain.proofs.Pairings.{passes_cong, eight_within}
use Rattle.plain.proofs.Answers.{pairing_found, chosen-least, chosen-same, chosen-first}

-- Two nights of the same rows, columns and costs in which the same places are allowed: every list costs the same, and the same one is chosen.
module _ (one : Night) (other : ℕ → ℕ → Bool) (same : (i j : ℕ) → one.allowed i j ≡ other i j) where
  abbrev two : Night
  two = record { row_count = one.row_count; column_count = one.column_count; cost = one.cost; allowed = other }

  pub cost-same : (cols : List ℕ) → cost_of one cols ≡ cost_of two cols
  unfolding cost_of
  cost-same cols = ap (λ (b : Bool). cond b (Some (total one cols)) None) (passes_cong one other cols same)

  least-same : (k : ℕ) → is_least one k ≡ is_least two k
  unfolding is_least
  least-same k =
      ap not (some_cong (list_count one) _ _ (λ j l. ap₂ less (cost-same (list_of one j)) (cost-same (list_of one k))))

  pub chosen_unchanged : chosen one ≡ chosen two
  unfolding chosen
  chosen_unchanged = ap (list_of one) (first_cong (list_count one) (is_least one) (is_least two) (λ k l. least-same k))

module _ (n : ℕ) (costs : List ℤ) where
  -- A square night has a pairing: row i at column i.
  straight : Pairing (square n costs) (table n (λ i. i))
  straight = record {
    size = length-table n (λ i. i);
    inside = λ i l. rw (get_d_table n (λ k. k) 0 i l) l;
    apart = λ i k hi hk e. sym (get_d_table n (λ x. x) 0 i hi) ∙ e ∙ get_d_table n (λ x. x) 0 k hk;
    permitted = λ i l. refl;
  }

  square-found : cost_of (square n costs) (chosen (square n costs)) ≡ Some (total (square n costs) (chosen (square n costs)))
  square-found = pairing_found (square n costs) (omega arith) (table n (λ i. i)) straight

  pub square-least : Least (square n costs) (chosen (square n costs))
  square-least = chosen-least (square n costs) (omega arith) (table n (λ i. i)) straight

  pub square-same : (other : List ℕ) → Least (square n costs) other → total (square n costs) (chosen (square n costs)) ≡ total (square n costs) other
  square-same = chosen-same (square n costs) (omega arith)

  pub square-first : (other : List ℕ) → Least (square n costs) other → Before n other (chosen (square n costs)) → ⊥
  square-first = chosen-first (square n costs) (omega arith)

  -- What the engine finds where the list of bars has no entry.
  call_chosen : (m : ℕ) → m ≡ n → chosen (night_of m n costs []) ≡ chosen (square n costs)
  call_chosen m e =
      ap (λ (k : ℕ). chosen (night_of k n costs [])) e ∙ chosen_unchanged (night_of n n costs []) (λ i j. true) (λ i j. ap not (bit_none j))

  call_found : (m : ℕ) → m ≡ n → cost_of (night_of m n costs []) (chosen (night_of m n costs [])) ≡ Some (total (square n costs) (chosen (square n costs)))
  call_found m e =
      ap₂ (λ (k : ℕ) (l : List ℕ). cost_of (night_of k n costs []) l) e (call_chosen m e)
      ∙ cost-same (night_of n n costs []) (λ i j. true) (λ i j. ap not (bit_none j)) (chosen (square n costs)) ∙ square-found

-- What an input that passes the tests is like.
pub record Fit (n : ℕ) (costs : List ℤ) (cols : List ℕ) : Type 0 where
  pub small : n ≤ 8
  pub squared : length costs ≡ n * n
  pub listed : n ≤ length cols
  pub within : (k : ℕ) → k < length costs → Within K (signed_at costs k)

module _ (n : ℕ) (costs : List ℤ) (cols : List ℕ) where
  pub tests_fit : Passes (plain_tests n costs cols) ↔ Fit n costs cols
  unfolding plain_tests
  tests_fit =
      let t5 = then_iff (side_within 8 n then costs_fill n n costs then list_long 1 n (length cols)) (costs_within costs) in
      let t3 = then_iff (side_within 8 n then costs_fill n n costs) (list_long 1 n (length cols)) in
      let t2 = then_iff (side_within 8 n) (costs_fill n n costs) in (
        λ e.
            let a = t5.0 e in
            let b = t3.0 a.0 in
            let c = t2.0 b.0 in
            record {
              small = (side_within_lem 8 n).0 c.0;
              squared = (costs_fill_lem n n costs).0 c.1;
              listed = (list_long_lem 1 n (length cols)).0 b.1;
              within = (costs_within_lem costs).0 a.1;
            },
        λ h.
            t5.1 (
              t3.1 (t2.1 ((side_within_lem 8 n).1 h.small, (costs_fill_lem n n costs).1 h.squared), (list_long_lem 1 n (length cols)).1 h.listed),
              (costs_within_lem costs).1 h.within,
            ),
      )

  -- Where they pass, the total of the first least pairing is answered, which the first n entries then hold.
  pub fit_plain : Fit n costs cols → plain n costs cols ≡ (Ok (total (square n costs) (chosen (square n costs))), chosen (square n costs) ++ drop n cols)
  unfolding answered
  fit_plain h = rw (tests_fit.1 h) refl

  -- A refusal leaves the list as it was.
  pub refused-plain : {refusal : Refusal} → plain_tests n costs cols ≡ Err refusal → (Err refusal, cols) ≡ plain n costs cols
  unfolding answered
  refused-plain e = rw e refl

  -- What the code makes of what the engine leaves in the front of the list.
  pub called : (found : Option ℤ) (left : List ℕ) (t : ℤ) → Passes (plain_tests n costs cols)
      → found ≡ cost_of (night_of (length (take n cols)) n costs []) (chosen (night_of (length (take n cols)) n costs []))
      → left ≡ written found (chosen (night_of (length (take n cols)) n costs [])) (take n cols) → t ≡ unwrap_or found (pos 0)
      → (Ok t, left ++ drop n cols) ≡ plain n costs cols
  called found left t e found-is left-is t-is =
      let h = tests_fit.0 e in
      let size : length (take n cols) ≡ n = length-take-le n cols h.listed in
      let r : found ≡ Some (total (square n costs) (chosen (square n costs))) = found-is ∙ call_found n costs (length (take n cols)) size in
      let l : left ≡ chosen (square n costs) =
      left-is ∙ ap (λ (f : Option ℤ). written f (chosen (night_of (length (take n cols)) n costs [])) (take n cols)) r
      ∙ call_chosen n costs (length (take n cols)) size in
      ap₂ (λ (x : ℤ) (c : List ℕ). (Ok x, c ++ drop n cols)) (t-is ∙ ap (λ (f : Option ℤ). unwrap_or f (pos 0)) r) l ∙ sym (fit_plain h)

-- What the entry's tests and the engine's answer are proved by.
pub ruleset entry_tests = (eight_within, side_within_lem, costs_fill_lem, list_long_lem)

pub ruleset entry_answers = (refused-plain, called)
