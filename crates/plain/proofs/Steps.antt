-- The engine's turns, as code takes them. Assumes nothing.
use mathlib.Core.Path.{◌≡◌, refl, sym, ap, ◌∙◌, subst}
use mathlib.Core.Bool.{Bool, true, false, cond}
use mathlib.Core.List.{List}
use Prim.Native.Nat.{ℕ, zero, suc, ◌-◌, ◌*◌, ◌^◌, ◌≤◌, ◌<◌}
use native.Mathlib.Nat.{pow-zero, pow-suc}
use native.Mathlib.Omega.{arith}
use lib.Dec.{ltb}
use lib.IntN.{ℤ}
use lib.ListN.{length, replicate}
use borrow.Author.Tests.{ltb-true, ltb-false}
use Rattle.lists.specs.Permutations.{table}
use Rattle.lists.proofs.Tables.{get_d_constant, table_constant}
use Rattle.assignment.specs.Pairings.{Night}
use Rattle.bars.specs.Barred.{night_of}
use Rattle.plain.specs.Engine.{digits, cost_of, less, chosen, written}
use Rattle.std.specs.Prelude.{Option, None}
use Rattle.plain.proofs.Numbers.{number, Below, digits-below, digits_number, number_below, number_digits}
use Rattle.plain.proofs.Answers.{Kept, kept_none, kept_more, kept-found, some_list, kept_cost, kept_list}

-- Numbers past the first are written with digits that are not 0.
some_digit : (n m k : ℕ) → suc k < n ^ m → 0 < n
some_digit zero zero k l = absurd (omega (arith, pow-zero 0))
some_digit zero (suc m) k l = absurd (omega (arith, pow-suc 0 m))
some_digit (suc n) m k l = omega arith

-- The first list is all zeros.
zeros_number : (n m k : ℕ) → number n m (table k (λ i. 0)) ≡ 0
unfolding number
zeros_number n zero k = refl
zeros_number n (suc m) k = omega (arith, ap (λ (x : ℕ). x * n) (zeros_number n m k), get_d_constant {A = ℕ} k 0 m)

module _ (n m : ℕ) (costs : List ℤ) (bars lent : List ℕ) where
  abbrev pub night : Night
  night = night_of m n costs bars

  -- What holds before each turn.
  pub record Head (list cols : List ℕ) (found : Option ℤ) : Type 0 where
    pub below : Below n m list
    pub kept : Kept night (number n m list) lent found cols

  pub head_first : (list : List ℕ) → m ≤ n → list ≡ replicate m 0 → Head list lent None
  head_first list few e =
      let z : list ≡ table m (λ i. 0) = e ∙ sym (table_constant m 0) in record {
        below = subst (Below n m) (sym z) (λ i l. omega (arith, get_d_constant {A = ℕ} m 0 i));
        kept = subst (λ (k : ℕ). Kept night k lent None lent) (sym (ap (number n m) z ∙ zeros_number n m m)) (kept_none night lent);
      }

  -- A turn: the list's cost is found and kept, and the next list is counted.
  module _ (list cols : List ℕ) (found : Option ℤ) (h : Head list cols found) (size : length list ≡ m) (cost r : Option ℤ) (left next : List ℕ) (more : Bool)
      (cost-is : cost ≡ cost_of (night_of (length list) n costs bars) list)
      (kept-is : (r ≡ cond (less cost found) cost found) × (left ≡ cond (less cost found) list cols))
      (next-is : (k : ℕ) → k < n ^ length list → list ≡ digits n (length list) k → (next ≡ digits n (length list) (suc k)) × (more ≡ ltb (suc k) (n ^ length list))) where
    abbrev place : ℕ
    place = number n m list

    turned : Kept night (suc place) lent r left
    turned =
        let e : cost ≡ cost_of night list = cost-is ∙ ap (λ (k : ℕ). cost_of (night_of k n costs bars) list) size in
        subst (λ (f : Option ℤ). Kept night (suc place) lent f left) (sym (kept-is.0 ∙ ap (λ (f : Option ℤ). kept_cost night f found) e))
        (subst (Kept night (suc place) lent (kept_cost night (cost_of night list) found)) (sym (kept-is.1 ∙ ap (λ (f : Option ℤ). kept_list night f found list cols) e))
        (subst (λ (l : List ℕ). Kept night (suc place) lent (kept_cost night (cost_of night l) found) (kept_list night (cost_of night l) found l cols))
        (digits_number n m list size h.below) (kept_more night place lent found cols h.kept)))

    counted : (next ≡ digits n m (suc place)) × (more ≡ ltb (suc place) (n ^ m))
    counted =
        subst (λ (j : ℕ). (k : ℕ) → k < n ^ j → list ≡ digits n j k → (next ≡ digits n j (suc k)) × (more ≡ ltb (suc k) (n ^ j))) size next-is place
        (number_below n m list h.below) (sym (digits_number n m list size h.below))

    -- The last list: the engine's answer is held.
    pub head_last : m ≤ n → more ≡ false → (r ≡ cost_of night (chosen night)) × (left ≡ written r (chosen night) lent)
    head_last enough l =
        let e : suc place ≡ n ^ m = omega (arith, ltb-false (suc place) (n ^ m) (sym counted.1 ∙ l), number_below n m list h.below) in
        kept-found night (some_list night enough) lent r left (subst (λ (k : ℕ). Kept night k lent r left) e turned)

    -- Any other: the next one's turn.
    module _ (l : more ≡ true) where
      reach : suc place < n ^ m
      reach = ltb-true (suc place) (n ^ m) (sym counted.1 ∙ l)

      next_number : number n m next ≡ suc place
      next_number = ap (number n m) counted.0 ∙ number_digits n m (suc place) reach

      pub head_more : Head next left r
      head_more = record {
        below = subst (Below n m) (sym counted.0) (digits-below n m (suc place) (some_digit n m place reach));
        kept = subst (λ (k : ℕ). Kept night k lent r left) (sym next_number) turned;
      }

      pub head_nearer : n ^ m - number n m next < n ^ m - place
      head_nearer = omega (arith, next_number, reach)
