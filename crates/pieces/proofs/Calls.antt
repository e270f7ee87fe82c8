-- Each call, by what is held: what it answers, what it leaves, and what is held then. Assumes nothing.
use mathlib.Core.Path.{◌≡◌, refl, sym, ap, subst, ◌∙◌}
use mathlib.Core.Bool.{Bool, true, false, cond, true≢false}
use mathlib.Core.List.{List, [], ◌∷◌}
use Prim.Native.Nat.{ℕ, ◌+◌, ◌≤◌, ◌<◌}
use native.Mathlib.Decide.{dec_lt}
use native.Mathlib.Omega.{arith}
use borrow.Author.Tests.{lt-ltb, le-ltb}
use lib.Dec.{eqb}
use lib.ListN.{length, take, replicate, length-replicate}
use lib.Seq.{get_or-set_same, get_or-set_other}
use Rattle.lists.specs.Permutations.{at}
use Rattle.matrix.specs.Refusals.{number}
use Rattle.matrix.specs.declared.refusals.Reason.TheVariants.{SheetOver, SheetEnded}
use Rattle.sheet.specs.Reading.{sheet_most}
use Rattle.sheet.specs.Settle.{pair}
use Rattle.pieces.specs.declared.Held.{Held}
use Rattle.pieces.specs.declared.Held.TheVariants.{Taking, Over, Ended}
use Rattle.pieces.specs.Kept.{Kept, kept, came, mark, over_mark, end_mark, held_by, held, Fresh}
use Rattle.pieces.specs.Calls.{marked, longer, taken, piece_by, piece, ending, delivered, end_by, end, reset}

-- How many bytes have come, where pieces are taken.
abbrev many : Held → ℕ
many (Taking n) = n
many Over = 0
many Ended = 0

few_by : (n mark : ℕ) → Dec (sheet_most < n) → many (held_by n mark) ≤ sheet_most
few_by n mark (yes l) = rw (lt-ltb sheet_most n l) (omega arith)
few_by n mark (no l) = rw (le-ltb sheet_most n (omega arith)) (unmarked (eqb mark 0) (eqb mark end_mark))
  where
    unmarked : (none end : Bool) → many (cond none (Taking n) (cond end Ended Over)) ≤ sheet_most
    unmarked true end = omega arith
    unmarked false true = omega arith
    unmarked false false = omega arith

-- No more have come than there is room for.
pub taking_few : (k : Kept) (n : ℕ) → held k ≡ Taking n → n ≤ sheet_most
taking_few k n e = subst (λ (h : Held). many h ≤ sheet_most) e (few_by (came k) (mark k) (dec_lt sheet_most (came k)))

-- ---- a piece

module _ (sent : List ℕ) (k : Kept) where
  pub piece-over : held k ≡ Over → piece sent k ≡ taken (number SheetOver) k
  unfolding piece
  piece-over e = ap (piece_by sent k) e

  pub piece-ended : held k ≡ Ended → piece sent k ≡ taken (number SheetEnded) k
  unfolding piece
  piece-ended e = ap (piece_by sent k) e

  pub piece_long : (n : ℕ) → held k ≡ Taking n → sheet_most < n + length sent → piece sent k ≡ taken (number SheetOver) (marked over_mark k)
  unfolding piece
  piece_long n e h = ap (piece_by sent k) e ∙ rw (lt-ltb sheet_most (n + length sent) h) refl

  pub piece_fits : (n : ℕ) → held k ≡ Taking n → n + length sent ≤ sheet_most → piece sent k ≡ taken 0 (longer n sent k)
  unfolding piece
  piece_fits n e h = ap (piece_by sent k) e ∙ rw (le-ltb sheet_most (n + length sent) h) refl

-- ---- the end

module _ (slip : List ℕ) (k : Kept) where
  pub end-over : held k ≡ Over → end slip k ≡ ending (delivered (number SheetOver) slip) k
  unfolding end
  end-over e = ap (end_by slip k) e

  pub end-ended : held k ≡ Ended → end slip k ≡ ending (delivered (number SheetEnded) slip) k
  unfolding end
  end-ended e = ap (end_by slip k) e

  pub end_taking : (n : ℕ) → held k ≡ Taking n → end slip k ≡ ending (pair (take n k.bytes) slip) (marked end_mark k)
  unfolding end
  end_taking n e = ap (end_by slip k) e

-- ---- fresh states: zeroed memory, and what a reset leaves

pub two_zeros : (state : List ℕ) → length state ≡ 2 → at state 0 ≡ 0 → at state 1 ≡ 0 → state ≡ 0 ∷ 0 ∷ []
two_zeros [] e z w = absurd (omega arith)
two_zeros (came ∷ []) e z w = absurd (omega arith)
two_zeros (came ∷ mark ∷ []) e z w = rw (z, w) refl
two_zeros (came ∷ mark ∷ more ∷ rest) e z w = absurd (omega arith)

pub zeroed_fresh : Fresh (kept (replicate sheet_most 0) (0 ∷ 0 ∷ []))
zeroed_fresh = record { room = length-replicate sheet_most 0; zeros = refl }

pub reset-fresh : (k : Kept) → length k.bytes ≡ sheet_most → Fresh (reset k).kept
reset-fresh k room = record { room = room; zeros = refl }

-- ---- what is held after a mark

-- Whether pieces are taken.
abbrev counting : Held → Bool
counting (Taking n) = true
counting Over = false
counting Ended = false

pub taking_room : (k : Kept) (n : ℕ) → held k ≡ Taking n → came k ≤ sheet_most
taking_room k n e = by (dec_lt sheet_most (came k))
  where
    by : Dec (sheet_most < came k) → came k ≤ sheet_most
    by (yes l) =
        let over : held k ≡ Over = rw (lt-ltb sheet_most (came k) l) refl in
        absurd (true≢false (ap counting (sym e ∙ over)))
    by (no l) = omega arith

module _ (k : Kept) (two : length k.state ≡ 2) (n : ℕ) (e : held k ≡ Taking n) where
  pub marked-over : held (marked over_mark k) ≡ Over
  marked-over =
      rw
      (get_or-set_other k.state 1 0 over_mark 0 (λ q. omega arith), get_or-set_same k.state 1 over_mark 0 (omega arith), le-ltb sheet_most (came k) (taking_room k n e))
      refl

  pub marked-ended : held (marked end_mark k) ≡ Ended
  marked-ended =
      rw (get_or-set_other k.state 1 0 end_mark 0 (λ q. omega arith), get_or-set_same k.state 1 end_mark 0 (omega arith), le-ltb sheet_most (came k) (taking_room k n e))
      refl
