-- The turns of the flips' loop, over plain variables: the last flip, the next one, and that fewer are left after each. Assumes nothing.
use mathlib.Core.Path.{◌≡◌, refl, sym, ap, ◌∙◌}
use mathlib.Core.Logic.{◌≢◌}
use mathlib.Core.Bool.{Bool, true, false, true≢false}
use mathlib.Core.List.{List}
use Prim.Native.Nat.{ℕ, zero, suc, ◌≤◌, ◌<◌}
use native.Mathlib.Decide.{dec_lt}
use native.Mathlib.Omega.{arith}
use borrow.Author.Tests.{eq-eqb, ne_eqb}
use lib.ListN.{length, set, length-set}
use Rattle.lists.specs.Runs.{Turn, on, left, and_then, first}
use Rattle.lists.proofs.Runs.{until_none, first_holds, first_before}
use Rattle.lists.specs.Permutations.{at}
use Rattle.rules.specs.Columns.{Pairs}
use Rattle.rules.specs.Augmentation.{Open, flip, flips, flipped}
use Rattle.rules.proofs.Pairs.{taken-below}
use Rattle.rules.proofs.Turns.{flips-first}
use Rattle.augmentation.specs.Augmentation.{pairs_of, open_at, CanFlip}

-- ---- how many flips are left

is_left : Turn Open Pairs → Bool
is_left (on o) = false
is_left (left p) = true

module _ (n s : ℕ) (predecessors : List ℕ) where
  flips_none : (o : Open) → flips 0 s predecessors o ≡ on o
  unfolding flips
  flips_none o = until_none 0 0 (λ k. flip s predecessors) o (omega arith)

  abbrev whole_after : Open → ℕ → Bool
  whole_after o k = is_left (flips k s predecessors o)

  -- The flips that are left from o on; n + 1 where more than n are.
  pub togo : Open → ℕ
  togo o = first (suc n) (whole_after o)

  togo_le : (o : Open) (m : ℕ) → whole_after o m ≡ true → togo o ≤ m
  unfolding togo
  togo_le o m e = by (dec_lt m (first (suc n) (whole_after o)))
    where
      by : Dec (m < first (suc n) (whole_after o)) → first (suc n) (whole_after o) ≤ m
      by (yes l) = absurd (true≢false (sym e ∙ first_before (whole_after o) (suc n) m l))
      by (no l) = omega arith

  -- One flip makes them fewer.
  togo_less : (o x : Open) → flip s predecessors o ≡ on x → (m : ℕ) (p : Pairs) → m ≤ n → flips m s predecessors o ≡ left p → togo x < togo o
  unfolding is_left togo
  togo_less o x e m p l q = by (togo o) refl
    where
      few : togo o ≤ m
      few = togo_le o m (ap is_left q)

      reached : whole_after o (togo o) ≡ true
      reached = first_holds (whole_after o) (suc n) (omega (arith, few))

      by : (a : ℕ) → togo o ≡ a → togo x < a
      by zero z = absurd (true≢false (sym reached ∙ ap (whole_after o) z ∙ ap is_left (flips_none o)))
      by (suc a) z =
          let t : whole_after x a ≡ true =
          sym (ap is_left (flips-first a s predecessors o ∙ ap (λ (y : Turn Open Pairs). and_then y (flips a s predecessors)) e))
          ∙ sym (ap (whole_after o) z) ∙ reached in
          omega (arith, togo_le x a t)

-- ---- the turns

-- Some flips have been made, and column j stands open.
pub record Flipping (n s : ℕ) (predecessors : List ℕ) (j₀ : ℕ) (cols₀ rows₀ cols rows : List ℕ) (j : ℕ) : Type 0 where
  pub can : CanFlip n s j₀ predecessors cols₀ rows₀
  pub column_below : j < n
  pub cols_size : length cols ≡ n
  pub rows_size : length rows ≡ n
  pub cols_below : (i : ℕ) → i < n → at cols i < n
  pub fuel : ℕ
  pub few : fuel ≤ n
  pub same : flips fuel s predecessors (open_at j cols rows) ≡ flips n s predecessors (open_at j₀ cols₀ rows₀)

pub first-flip : {n s j : ℕ} {predecessors cols rows : List ℕ} → CanFlip n s j predecessors cols rows → Flipping n s predecessors j cols rows cols rows j
first-flip {n} C = record {
  can = C;
  column_below = C.column_below;
  cols_size = C.cols_size;
  rows_size = C.rows_size;
  cols_below = C.cols_below;
  fuel = n;
  few = omega arith;
  same = refl;
}

module _ {n s : ℕ} {predecessors : List ℕ} {j₀ : ℕ} {cols₀ rows₀ cols rows : List ℕ} {j : ℕ} (F : Flipping n s predecessors j₀ cols₀ rows₀ cols rows j) where
  abbrev i : ℕ
  i = at predecessors j

  abbrev o : Open
  o = open_at j cols rows

  pub row_below : at predecessors j < n
  row_below = F.can.predecessors_below j F.column_below

  ends : flips F.fuel s predecessors o ≡ left F.can.whole
  ends = F.same ∙ F.can.ends

  spare : (f : ℕ) → F.fuel ≡ f → (g : ℕ) × (f ≡ suc g)
  unfolding is_left
  spare zero e =
      absurd (true≢false (sym (ap is_left ends) ∙ ap (λ (m : ℕ). is_left (flips m s predecessors o)) e ∙ ap is_left (flips_none n s predecessors o)))
  spare (suc g) e = (g, refl)

  -- One flip, and the rest.
  turn : and_then (flip s predecessors o) (flips (spare F.fuel refl).0 s predecessors) ≡ flips n s predecessors (open_at j₀ cols₀ rows₀)
  turn =
      sym (flips-first (spare F.fuel refl).0 s predecessors o) ∙ ap (λ (m : ℕ). flips m s predecessors o) (sym (spare F.fuel refl).1)
      ∙ F.same

  -- The row is the start: the pairs are whole.
  pub last-flip : i ≡ s → pairs_of (set cols i j) (set rows j i) ≡ flipped (flips n s predecessors (open_at j₀ cols₀ rows₀))
  last-flip e = ap flipped (rw (eq-eqb i s e) at turn)

  -- Its old column stands open.
  pub next_flip : i ≢ s → Flipping n s predecessors j₀ cols₀ rows₀ (set cols i j) (set rows j i) (at cols i)
  next_flip d = record {
    can = F.can;
    column_below = F.cols_below i row_below;
    cols_size = length-set cols i j ∙ F.cols_size;
    rows_size = length-set rows j i ∙ F.rows_size;
    cols_below = taken-below n (pairs_of cols rows) F.cols_size F.rows_size i j row_below F.column_below F.cols_below;
    fuel = (spare F.fuel refl).0;
    few = omega (arith, F.few, (spare F.fuel refl).1);
    same = rw (ne_eqb i s d) at turn;
  }

  pub fewer : i ≢ s → togo n s predecessors (open_at (at cols i) (set cols i j) (set rows j i)) < togo n s predecessors (open_at j cols rows)
  fewer d = togo_less n s predecessors o (open_at (at cols i) (set cols i j) (set rows j i)) (rw (ne_eqb i s d)) F.fuel F.can.whole F.few ends
