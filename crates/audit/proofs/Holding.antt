-- When a slip holds: it has the form of its sheet's edition, rows and side, its columns and prices pass, and its total is what they cost. Assumes nothing.
use mathlib.Core.Path.{◌≡◌, refl, sym, ap, ◌∙◌}
use mathlib.Core.Bool.{Bool, true, false, true≢false, cond, not, ◌&&◌, ◌||◌}
use mathlib.Core.List.{List, [], ◌++◌, append_assoc}
use Prim.Native.Nat.{ℕ, ◌^◌, ◌≤◌, ◌<◌}
use native.Mathlib.Omega.{arith}
use lib.Dec.{eqb}
use lib.IntN.{ℤ}
use lib.ListN.{length}
use borrow.Author.Tests.{eq-eqb, eqb-true, le-ltb}
use Rattle.layout.specs.Values.{bytes_of, value_of}
use Rattle.layout.specs.Trailers.{slip_mark, trailer, has_row_count, distance_of, side_of, edition_of, mark_of, row_count_of}
use Rattle.layout.specs.Slips.{slip_body, row_count, row_count_length, slip_distance, slip_of, slip_length, slip_total, slip_columns}
use Rattle.layout.proofs.Slips.{length-slip_of}
use Rattle.layout.proofs.Trailers.{length-trailer, row_count_read, distance_read, side-read, edition_read, mark-read}
use Rattle.assignment.specs.Pairings.{total}
use Rattle.bars.specs.Barred.{night_of}
use Rattle.matrix.specs.Limits.{sheet_side}
use Rattle.matrix.specs.Verdicts.{Passes}
use Rattle.matrix.specs.Verdicts.{Verdict}
use Rattle.std.specs.Prelude.{Ok, Err}
use Rattle.matrix.proofs.Verdicts.{then_iff, fails_if_iff}
use Rattle.checker.proofs.Places.{differ_same}
use Rattle.sheet.specs.Reading.{Laid, laid_of, rows_of, unknown, sheet_tests, night_tests, night_if, night_tested, refused, night, read_if, read}
use Rattle.sheet.proofs.Editions.{count-short}
use Rattle.sheet.proofs.Passing.{rows_passed}
use Rattle.audit.specs.Audit.{unlike, slip_tests, audit_tests, audited_by, audited_as, audit}
use Rattle.audit.specs.Audit.{holds}

-- ---- a slip as it is written

neither : {a b : Bool} → a ≡ false → b ≡ false → (a || b) ≡ false
neither e f = rw (e, f) refl

none : {a b c d e f : Bool} → a ≡ false → b ≡ false → c ≡ false → d ≡ false → e ≡ false → f ≡ false → (a || (b || (c || (d || (e || f))))) ≡ false
none g h i j k l = neither g (neither h (neither i (neither j (neither k l))))

module _ (edition m n : ℕ) (cols : List ℕ) (us vs : List ℤ) (t : ℤ) (fewer : m ≤ n) (small : n ≤ 64) (known : edition < 256 ^ 2) (c : length cols ≡ m)
    (r : length us ≡ m) (p : length vs ≡ n) where
  abbrev body : List ℕ
  body = slip_body cols us vs t

  abbrev due : ℕ
  due = slip_distance edition m n

  abbrev end : List ℕ
  end = trailer due n edition slip_mark

  abbrev front : List ℕ
  front = body ++ row_count edition m

  abbrev whole : List ℕ
  whole = slip_of edition m n cols us vs t

  parted : whole ≡ front ++ end
  parted = sym (append_assoc body (row_count edition m) end)

  size : length whole ≡ slip_length edition m n
  size = length-slip_of edition m n cols us vs t c r p

  marks : mark_of whole ≡ value_of slip_mark
  marks = ap mark_of parted ∙ mark-read front due n edition slip_mark refl

  counts : (has_row_count edition && not (eqb (row_count_of whole) m)) ≡ false
  counts = by (has_row_count edition)
    where
      by : (b : Bool) → (b && not (eqb (row_count_of (body ++ (cond b (bytes_of 2 m) [] ++ end))) m)) ≡ false
      by true = ap not (eq-eqb _ m (row_count_read body m end (length-trailer due n edition slip_mark) (omega arith)))
      by false = refl

  pub slip_like : unlike edition m n whole ≡ false
  unfolding unlike
  slip_like =
      none (ap not (eq-eqb (length whole) (slip_length edition m n) size))
      (neither (le-ltb (length whole) 12 (omega (arith, size))) (ap not (eq-eqb (mark_of whole) (value_of slip_mark) marks)))
      (ap not (eq-eqb (distance_of whole) due (ap distance_of parted ∙ distance_read front due n edition slip_mark refl (omega (arith, count-short edition)))))
      (ap not (eq-eqb (side_of whole) n (ap side_of parted ∙ side-read front due n edition slip_mark refl (omega arith))))
      (ap not (eq-eqb (edition_of whole) edition (ap edition_of parted ∙ edition_read front due n edition slip_mark refl known))) counts

-- ---- a sheet, read for another room

refused_not_night : {refusal : _} {laid : Laid} → refused refusal ≡ night laid → ⊥
refused_not_night x = let z : ◌≡◌ {A = ℕ} 0 1 = cc x in omega arith

-- A known edition fits two bytes.
known_fits : (edition : ℕ) → unknown edition ≡ false → edition < 256 ^ 2
known_fits edition e = by (eqb edition 1) (eqb edition 2) (eqb edition 3) refl refl refl e
  where
    by : (s t u : Bool) → eqb edition 1 ≡ s → eqb edition 2 ≡ t → eqb edition 3 ≡ u → not s && not t && not u ≡ false → edition < 256 ^ 2
    by true t u f g k h = omega (arith, eqb-true edition 1 f)
    by false true u f g k h = omega (arith, eqb-true edition 2 g)
    by false false true f g k h = omega (arith, eqb-true edition 3 k)
    by false false false f g k h = absurd (true≢false h)

module _ (room : ℕ) (sheet : List ℕ) (laid : Laid) (e : read room sheet ≡ night laid) where
  read_passed : Passes (sheet_tests room sheet) × (night_tested (laid_of sheet) ≡ night laid)
  unfolding read
  read_passed = by (sheet_tests room sheet) refl e
    where
      by : (v : Verdict) → sheet_tests room sheet ≡ v → read_if sheet v ≡ night laid → Passes (sheet_tests room sheet) × (night_tested (laid_of sheet) ≡ night laid)
      by (Err refusal) g h = absurd (refused_not_night h)
      by (Ok _) g h = (g, h)

  laid_is : laid_of sheet ≡ laid
  laid_is = by (night_tests (laid_of sheet)) read_passed.1
    where
      by : (v : Verdict) → night_if (laid_of sheet) v ≡ night laid → laid_of sheet ≡ laid
      by (Ok _) h = cc h
      by (Err refusal) h = absurd (refused_not_night h)

  pub read_edition : laid.edition < 256 ^ 2
  unfolding sheet_tests
  read_edition =
      let t16 = (then_iff _ _).0 read_passed.0 in
      let t21 = (then_iff _ _).0 t16.0 in
      let t15 = (then_iff _ _).0 t21.0 in
      let t23 = (then_iff _ _).0 t15.0 in
      let t13 = (then_iff _ _).0 t23.0 in
      let t12 = (then_iff _ _).0 t13.0 in
      known_fits laid.edition (ap (λ (x : Laid). unknown x.edition) (sym laid_is) ∙ (fails_if_iff _ _ _).0 t12.1)

  -- The auditor's room is long enough for every slip.
  pub read_larger : read (slip_length 3 sheet_side sheet_side) sheet ≡ night laid
  unfolding sheet_tests read
  read_larger =
      let t16 = (then_iff _ _).0 read_passed.0 in
      let t21 = (then_iff _ _).0 t16.0 in
      let t15 = (then_iff _ _).0 t21.0 in
      let counted = rows_passed sheet t15.0 in
      let two : row_count_length 3 ≡ 2 = refl in
      let long : slip_length (edition_of sheet) (rows_of sheet) (side_of sheet) ≤ slip_length 3 sheet_side sheet_side =
      omega (arith, counted.small, counted.fewer, count-short (edition_of sheet), two) in
      ap (read_if sheet) ((then_iff _ _).1 (t16.0, (fails_if_iff _ _ _).1 (le-ltb _ _ long))) ∙ read_passed.1

-- ---- a slip that holds

module _ (sheet slip : List ℕ) (laid : Laid) (e : read (slip_length 3 sheet_side sheet_side) sheet ≡ night laid) where
  abbrev rows : ℕ
  rows = laid.row_count

  abbrev side : ℕ
  side = laid.side

  pub accepted_holds : unlike laid.edition rows side slip ≡ false → Passes (slip_tests rows side laid.costs laid.bars slip)
      → slip_total rows side slip ≡ total (night_of rows side laid.costs laid.bars) (slip_columns rows slip) → audit sheet slip ≡ holds side (slip_total rows side slip)
  unfolding audit audit_tests
  accepted_holds like passed same = ap (audited_as slip) e ∙ ap (audited_by rows side slip) all
    where
      all : Passes (audit_tests laid slip)
      all = (then_iff _ _).1 ((then_iff _ _).1 ((fails_if_iff _ _ _).1 like, passed), (fails_if_iff _ _ _).1 (differ_same _ _ same))
