-- The test of a list of columns says what `assignment` calls a pairing. Assumes nothing.
use mathlib.Core.Path.{◌≡◌, refl, sym, ap, ◌∙◌}
use mathlib.Core.Bool.{Bool, true, false, not, ◌||◌, true≢false}
use mathlib.Core.List.{List}
use Prim.Native.Nat.{ℕ, ◌≤◌, ◌<◌}
use native.Mathlib.Decide.{dec_lt}
use native.Mathlib.Omega.{arith}
use lib.Dec.{eqb}
use lib.ListN.{length}
use borrow.Author.Tests.{eq-eqb, eqb-true, not-true}
use Rattle.ints.proofs.Tests.{not_true_false}
use Rattle.lists.specs.Counts.{some}
use Rattle.lists.specs.Permutations.{at}
use Rattle.lists.proofs.Counts.{some_read, some_make, some_cong}
use Rattle.assignment.specs.Pairings.{Night, Pairing}
use Rattle.matrix.specs.Limits.{side}
use Rattle.matrix.proofs.First.{Clear}
use Rattle.plain.specs.Engine.{taken, is_pairing}

pub clear_none : (n : ℕ) (test : ℕ → Bool) → Clear test n → some n test ≡ false
clear_none n test clear = not_true_false (λ t. let s = some_read n test t in absurd (true≢false (sym s.2 ∙ clear s.0 s.1)))

pub none_clear : (n : ℕ) (test : ℕ → Bool) → some n test ≡ false → Clear test n
none_clear n test e i l = not_true_false (λ t. absurd (true≢false (sym (some_make n test i l t) ∙ e)))

-- What `any` answers of the rows before row i.
abbrev pub Before : List ℕ → ℕ → Bool → Type 0
Before cols i true = (h : ℕ) × (h < i) × (eqb (at cols h) (at cols i) ≡ true)
Before cols i false = (h : ℕ) → h < i → eqb (at cols h) (at cols i) ≡ false

pub taken_before : (cols : List ℕ) (i : ℕ) (r : Bool) → Before cols i r → r ≡ taken cols i
taken_before cols i true b = sym (some_make i (λ h. eqb (at cols h) (at cols i)) b.0 b.1 b.2)
taken_before cols i false b = sym (clear_none i (λ h. eqb (at cols h) (at cols i)) b)

-- The solver's tests take a side of 8.
pub eight_within : 8 ≤ side
unfolding side
eight_within = omega arith

-- Whether row i is wrong: at a place that is not allowed, or with the column of a row before it.
abbrev pub wrong : (ℕ → ℕ → Bool) → List ℕ → ℕ → Bool
wrong allowed cols i = not (allowed i (at cols i)) || taken cols i

neither : (a b : Bool) → (not a || b) ≡ false → (a ≡ true) × (b ≡ false)
neither true b e = (refl, e)
neither false b e = absurd (true≢false e)

-- A list of columns that passes the test is a pairing, and every pairing passes it.
module _ (night : Night) (cols : List ℕ) where
  abbrev passes : Bool
  passes = is_pairing night cols

  pub passes_pairing : length cols ≡ night.row_count → ((i : ℕ) → i < night.row_count → at cols i < night.column_count) → passes ≡ true → Pairing night cols
  unfolding is_pairing
  passes_pairing size inside e = record { size = size; inside = inside; apart = apart; permitted = λ i l. (row i l).0 }
    where
      row : (i : ℕ) → i < night.row_count → (night.allowed i (at cols i) ≡ true) × (taken cols i ≡ false)
      row i l = neither (night.allowed i (at cols i)) (taken cols i) (none_clear night.row_count (wrong night.allowed cols) (not-true _ e) i l)

      once : (i : ℕ) → i < night.row_count → (h : ℕ) → h < i → at cols h ≡ at cols i → ⊥
      once i l h g same =
          true≢false (sym (eq-eqb (at cols h) (at cols i) same) ∙ none_clear i (λ k. eqb (at cols k) (at cols i)) (row i l).1 h g)

      apart : (i k : ℕ) → i < night.row_count → k < night.row_count → at cols i ≡ at cols k → i ≡ k
      apart i k hi hk same = by (dec_lt i k) (dec_lt k i)
        where
          by : Dec (i < k) → Dec (k < i) → i ≡ k
          by (yes l) d = absurd (once k hk i l same)
          by (no l) (yes d) = absurd (once i hi k d (sym same))
          by (no l) (no d) = omega arith

  pub pairing_passes : Pairing night cols → passes ≡ true
  unfolding is_pairing
  pairing_passes p = ap not (clear_none night.row_count (wrong night.allowed cols) right)
    where
      fresh : (i : ℕ) → i < night.row_count → taken cols i ≡ false
      fresh i l =
          clear_none i (λ k. eqb (at cols k) (at cols i))
          (λ h g. not_true_false (λ t. let e : h ≡ i = p.apart h i (omega arith) l (eqb-true (at cols h) (at cols i) t) in omega arith))

      right : Clear (wrong night.allowed cols) night.row_count
      right i l = rw (p.permitted i l, fresh i l)

-- as code finds it out
module _ (night : Night) (cols : List ℕ) where
  pub wrong_fails : (i : ℕ) → i < night.row_count → wrong night.allowed cols i ≡ true → is_pairing night cols ≡ false
  unfolding is_pairing
  wrong_fails i l e = ap not (some_make night.row_count (wrong night.allowed cols) i l e)

  pub right_passes : Clear (wrong night.allowed cols) night.row_count → is_pairing night cols ≡ true
  unfolding is_pairing
  right_passes clear = ap not (clear_none night.row_count (wrong night.allowed cols) clear)

-- The same places allowed, the same pairings.
pub passes_cong : (night : Night) (other : ℕ → ℕ → Bool) (cols : List ℕ) → ((i j : ℕ) → night.allowed i j ≡ other i j)
    → is_pairing night cols ≡ is_pairing (record { row_count = night.row_count; column_count = night.column_count; cost = night.cost; allowed = other }) cols
unfolding is_pairing
passes_cong night other cols same =
    ap not (some_cong night.row_count (wrong night.allowed cols) (wrong other cols)
    (λ i l. ap (λ (t : Bool). not t || taken cols i) (same i (at cols i))))
