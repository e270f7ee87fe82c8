-- However a sheet is cut, its pieces and the end give what the whole would have given. Assumes nothing.
use mathlib.Core.Path.{◌≡◌, refl, sym, ap, subst, ◌∙◌}
use mathlib.Core.Bool.{cond}
use mathlib.Core.List.{List, [], ◌∷◌, ◌++◌, append-nil, append_assoc}
use Prim.Native.Nat.{ℕ, ◌+◌, ◌≤◌, ◌<◌}
use native.Mathlib.Decide.{dec_lt}
use native.Mathlib.Omega.{arith}
use borrow.Author.Tests.{lt-ltb, le-ltb}
use lib.Dec.{ltb}
use lib.ListN.{length, get_or, take, length-append, length-set}
use lib.Seq.{get_or-set_same, get_or-set_other}
use Rattle.lists.specs.Parts.{replaced, joined}
use Rattle.lists.proofs.Parts.{replaced-length, replaced_front}
use Rattle.matrix.specs.Refusals.{number}
use Rattle.matrix.specs.declared.refusals.Reason.TheVariants.{SheetOver}
use Rattle.sheet.specs.Reading.{sheet_most}
use Rattle.sheet.specs.Settle.{pair}
use Rattle.pieces.specs.declared.Held.TheVariants.{Taking, Over}
use Rattle.pieces.specs.Kept.{Kept, came, mark, held, Fresh}
use Rattle.pieces.specs.Calls.{longer, Taken, piece, Ending, end, pieces, whole}
use Rattle.pieces.proofs.Calls.{piece-over, piece_long, piece_fits, end-over, end_taking, marked-over}

-- The sheet so far stands at the front of the room.
record Holding (k : Kept) (sheet : List ℕ) : Type 0 where
  room : length k.bytes ≡ sheet_most
  two : length k.state ≡ 2
  unmarked : mark k ≡ 0
  counted : came k ≡ length sheet
  few : length sheet ≤ sheet_most
  there : take (length sheet) k.bytes ≡ sheet

fresh_holding : (k : Kept) → Fresh k → Holding k []
fresh_holding k f = record {
  room = f.room;
  two = ap length f.zeros;
  unmarked = ap (λ (s : List ℕ). get_or s 1 0) f.zeros;
  counted = ap (λ (s : List ℕ). get_or s 0 0) f.zeros;
  few = omega arith;
  there = refl;
}

module _ (k : Kept) (sheet : List ℕ) (h : Holding k sheet) where
  holding_held : held k ≡ Taking (length sheet)
  holding_held = rw (h.counted, h.unmarked, le-ltb sheet_most (length sheet) h.few) refl

  end_holding : (slip : List ℕ) → (end slip k).delivery ≡ pair sheet slip
  end_holding slip = ap (λ (e : Ending). e.delivery) (end_taking slip k (length sheet) holding_held) ∙ ap (λ (l : List ℕ). pair l slip) h.there

  module _ (sent : List ℕ) where
    holding_longer : length sheet + length sent ≤ sheet_most → Holding (longer (length sheet) sent k) (sheet ++ sent)
    holding_longer fits =
        let n = length sheet + length sent in
        let size = length-append sheet sent in
        record {
          room = replaced-length (length sheet) sent k.bytes (omega (arith, h.room)) ∙ h.room;
          two = length-set k.state 0 n ∙ h.two;
          unmarked = get_or-set_other k.state 0 1 n 0 (λ e. omega arith) ∙ h.unmarked;
          counted = get_or-set_same k.state 0 n 0 (omega (arith, h.two)) ∙ sym size;
          few = omega (arith, size);
          there = ap (λ (m : ℕ). take m (replaced (length sheet) sent k.bytes)) size
              ∙ replaced_front (length sheet) sent k.bytes (omega (arith, h.room)) ∙ ap (λ (l : List ℕ). l ++ sent) h.there;
        }

    piece_holding : length sheet + length sent ≤ sheet_most → Holding (piece sent k).kept (sheet ++ sent)
    piece_holding fits =
        subst (λ (t : Taken). Holding t.kept (sheet ++ sent)) (sym (piece_fits sent k (length sheet) holding_held fits)) (holding_longer fits)

    piece_passes : sheet_most < length sheet + length sent → held (piece sent k).kept ≡ Over
    piece_passes past =
        ap (λ (t : Taken). held t.kept) (piece_long sent k (length sheet) holding_held past) ∙ marked-over k h.two (length sheet) holding_held

-- Once 17 was given, pieces change nothing.
over_stays : (k : Kept) → held k ≡ Over → (sent : List (List ℕ)) → held (pieces sent k) ≡ Over
unfolding pieces
over_stays k e [] = e
over_stays k e (bytes ∷ rest) = ap (λ (t : Taken). held (pieces rest t.kept)) (piece-over bytes k e) ∙ over_stays k e rest

-- What is kept after the pieces of a sheet: 17 was given where it is too long, else it stands at the front of the room.
data After (k : Kept) (sheet : List ℕ) : Type 0 where
  passed : sheet_most < length sheet → held k ≡ Over → After k sheet
  within : Holding k sheet → After k sheet

after_pieces : (sent : List (List ℕ)) (k : Kept) (sheet : List ℕ) → Holding k sheet → After (pieces sent k) (sheet ++ joined sent)
unfolding pieces joined
after_pieces [] k sheet h = subst (After k) (sym (append-nil sheet)) (within h)
after_pieces (bytes ∷ rest) k sheet h = by (dec_lt sheet_most (length sheet + length bytes)) (after_pieces rest (piece bytes k).kept (sheet ++ bytes))
  where
    by : Dec (sheet_most < length sheet + length bytes)
        → (Holding (piece bytes k).kept (sheet ++ bytes) → After (pieces rest (piece bytes k).kept) ((sheet ++ bytes) ++ joined rest))
        → After (pieces rest (piece bytes k).kept) (sheet ++ (bytes ++ joined rest))
    by (yes past) later =
        passed (omega (arith, length-append sheet (bytes ++ joined rest), length-append bytes (joined rest)))
        (over_stays (piece bytes k).kept (piece_passes k sheet h bytes past) rest)
    by (no past) later = subst (After (pieces rest (piece bytes k).kept)) (append_assoc sheet bytes (joined rest)) (later (piece_holding k sheet h bytes (omega arith)))

end_after : (k : Kept) (sheet : List ℕ) → After k sheet → (slip : List ℕ) → (end slip k).delivery ≡ whole sheet slip
end_after k sheet (passed past e) slip = rw (lt-ltb sheet_most (length sheet) past) (ap (λ (x : Ending). x.delivery) (end-over slip k e))
end_after k sheet (within h) slip = rw (le-ltb sheet_most (length sheet) h.few) (end_holding k sheet h slip)

number_after : (k : Kept) (sheet : List ℕ) → After k sheet → (sent : List ℕ)
    → (piece sent k).number ≡ cond (ltb sheet_most (length sheet + length sent)) (number SheetOver) 0
number_after k sheet (passed past e) sent =
    rw (lt-ltb sheet_most (length sheet + length sent) (omega arith)) (ap (λ (t : Taken). t.number) (piece-over sent k e))
number_after k sheet (within h) sent = by (dec_lt sheet_most (length sheet + length sent))
  where
    by : Dec (sheet_most < length sheet + length sent) → (piece sent k).number ≡ cond (ltb sheet_most (length sheet + length sent)) (number SheetOver) 0
    by (yes past) =
        rw (lt-ltb sheet_most (length sheet + length sent) past) (ap (λ (t : Taken). t.number) (piece_long sent k (length sheet) (holding_held k sheet h) past))
    by (no past) =
        rw (le-ltb sheet_most (length sheet + length sent) (omega arith))
        (ap (λ (t : Taken). t.number) (piece_fits sent k (length sheet) (holding_held k sheet h) (omega arith)))

-- ---- on a fresh state

module _ (k : Kept) (f : Fresh k) where
  -- Each piece answers 0, until one, with all before it, is over 65,536 bytes: it and all that follow answer 17.
  pub piece_number : (before : List (List ℕ)) (sent : List ℕ)
      → (piece sent (pieces before k)).number ≡ cond (ltb sheet_most (length (joined before) + length sent)) (number SheetOver) 0
  piece_number before sent = number_after (pieces before k) (joined before) (after_pieces before k [] (fresh_holding k f)) sent

  -- For any pieces, taken in order and ended: number and slip's room are those of their whole.
  pub however_cut : (sent : List (List ℕ)) (slip : List ℕ) → (end slip (pieces sent k)).delivery ≡ whole (joined sent) slip
  however_cut sent slip = end_after (pieces sent k) (joined sent) (after_pieces sent k [] (fresh_holding k f)) slip

-- Two cuttings of the same bytes, on any two fresh states.
pub cuts_agree : (k l : Kept) → Fresh k → Fresh l → (one other : List (List ℕ)) → joined one ≡ joined other → (slip : List ℕ)
    → (end slip (pieces one k)).delivery ≡ (end slip (pieces other l)).delivery
cuts_agree k l f g one other same slip =
    however_cut k f one slip ∙ ap (λ (sheet : List ℕ). whole sheet slip) same ∙ sym (however_cut l g other slip)
