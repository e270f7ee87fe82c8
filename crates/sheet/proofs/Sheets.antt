-- A night that is laid on a sheet of its edition is read again, whatever the sheet's note for people says. Assumes nothing.
use mathlib.Core.Path.{◌≡◌, refl, sym, ap, ap₂, ◌∙◌}
use mathlib.Core.Bool.{Bool, true, false, true≢false, cond, not, ◌&&◌, ◌||◌}
use mathlib.Core.List.{List, [], ◌++◌, flat_map}
use Prim.Native.Nat.{ℕ, ◌+◌, ◌*◌, ◌-◌, ◌/◌, ◌^◌, ◌≤◌, ◌<◌}
use native.Mathlib.Nat.{zero-lt-suc, lt_of_lt_of_le, pow-le-pow_right}
use native.Mathlib.Omega.{arith}
use borrow.Author.Tests.{le-ltb, lt-leb, eq-eqb, eqb-true}
use lib.Dec.{ltb, eqb}
use lib.IntN.{ℤ, pos, negsuc}
use lib.ListN.{length, replicate, get_or-append}
use lib.Signed.{mag}
use Rattle.ints.specs.Parts.{Within}
use Rattle.ints.proofs.Ranges.{within_mono}
use Rattle.lists.specs.Permutations.{at}
use Rattle.layout.specs.Values.{bytes_of, value_of, signed_bytes}
use Rattle.layout.specs.Trailers.{sheet_mark, trailer, has_row_count, row_count_of, distance_of, side_of, edition_of, mark_of}
use Rattle.layout.specs.Sheets.{sheet_with, costs_at, bars_at}
use Rattle.layout.specs.Slips.{row_count, row_count_length, slip_length}
use Rattle.layout.proofs.Values.{length-bytes_of}
use Rattle.layout.proofs.Fields.{length_flat_map}
use Rattle.layout.proofs.Slips.{length-row_count}
use Rattle.layout.proofs.Sheets.{sheet_length_lem, sheet_distance, sheet_side_lem, sheet_edition, sheet_mark_lem, sheet_costs, sheet_row_count, sheet_bars}
use Rattle.assignment.specs.Pairings.{signed_at}
use Rattle.bars.specs.Barred.{bits_above}
use Rattle.matrix.specs.Limits.{sheet_side, K}
use Rattle.matrix.specs.Verdicts.{Passes}
use Rattle.matrix.proofs.SmallLimits.{sheet_side_small, K_small}
use Rattle.matrix.proofs.Verdicts.{then_iff, fails_if_iff, fails_at_iff}
use Rattle.matrix.proofs.Passed.{costs_in_lem}
use Rattle.sheet.specs.Reading.{sheet_most, note_most, has_bars, unknown, rows_of, distance_due, cost_most, Laid, laid_of, bars_in, note_length, unprintable, unfit, trailed, rows_fit, pointed, note_fit, sheet_tests, night_tests, night_if, read_if, night_tested, night, read, Printable, Layable}
use Rattle.sheet.proofs.Limits.{sheet_most_large}
use Rattle.sheet.proofs.Editions.{cost_most_within, due_short, barred_uncounted, counted_unbarred}

-- A cost within K fits four bytes.
fits_four : (z : ℤ) → Within K z → mag z < 256 ^ 4 / 2
fits_four (pos m) w = omega (arith, K_small)
fits_four (negsuc m) w = omega (arith, K_small)

-- A known edition is a small number, and bits below those of a side up to 64 fit eight bytes.
known_small : (edition : ℕ) → unknown edition ≡ false → edition < 256 ^ 2
known_small edition e = by (eqb edition 1) (eqb edition 2) (eqb edition 3) refl refl refl e
  where
    by : (s t u : Bool) → eqb edition 1 ≡ s → eqb edition 2 ≡ t → eqb edition 3 ≡ u → not s && not t && not u ≡ false → edition < 256 ^ 2
    by true t u f g k h = omega (arith, eqb-true edition 1 f)
    by false true u f g k h = omega (arith, eqb-true edition 2 g)
    by false false true f g k h = omega (arith, eqb-true edition 3 k)
    by false false false f g k h = absurd (true≢false h)

pub below_word : (n : ℕ) → n ≤ 64 → (bits : ℕ) → bits < 2 ^ n → bits < 256 ^ 8
below_word n h bits l = lt_of_lt_of_le l (pow-le-pow_right (zero-lt-suc 1) h)

-- What an edition puts between costs and trailer: bars, or a row count.
abbrev pub more_of : Bool → ℕ → ℕ → List ℕ → List ℕ
more_of barred edition m bars = cond barred (flat_map (bytes_of 8) bars) (row_count edition m)

more_length : (edition m n : ℕ) (bars : List ℕ) → length bars ≡ n → length (more_of (has_bars edition) edition m bars) ≡ cond (has_bars edition) (8 * n) 0 + row_count_length edition
more_length edition m n bars e = by (has_bars edition) refl
  where
    no_count : has_bars edition ≡ true → row_count_length edition ≡ 0
    no_count h = ap (λ (t : Bool). cond t 2 0) (barred_uncounted edition h)

    by : (t : Bool) → has_bars edition ≡ t → length (more_of t edition m bars) ≡ cond t (8 * n) 0 + row_count_length edition
    by true h = omega (arith, e, length_flat_map (bytes_of 8) 8 (length-bytes_of 8) bars, no_count h)
    by false h = length-row_count edition m ∙ omega arith

-- A sheet of a night, by its edition.
abbrev pub sheet_laid : List ℕ → Laid → List ℕ
sheet_laid note laid = sheet_with laid.edition note laid.side laid.costs (more_of (has_bars laid.edition) laid.edition laid.row_count laid.bars)

module _ (note : List ℕ) (laid : Laid) (room : ℕ) (printable : Printable note) (g : Layable laid) (roomy : slip_length laid.edition laid.row_count laid.side ≤ room) where
  abbrev m : ℕ
  m = laid.row_count

  abbrev n : ℕ
  n = laid.side

  abbrev edition : ℕ
  edition = laid.edition

  abbrev costs : List ℤ
  costs = laid.costs

  abbrev more : List ℕ
  more = more_of (has_bars edition) edition m laid.bars

  abbrev sheet : List ℕ
  sheet = sheet_laid note laid

  few : n ≤ 64
  few = omega (arith, g.small, sheet_side_small)

  edition_small : edition < 256 ^ 2
  edition_small = known_small edition g.known

  due : 4 * length costs + length more ≡ distance_due edition m n
  due = omega (arith, ap (λ (c : ℕ). 4 * c) g.filled, more_length edition m n laid.bars g.rows)

  long : length sheet ≡ length note + distance_due edition m n + 12
  long = omega (arith, sheet_length_lem edition note n costs more, due)

  side-read : side_of sheet ≡ n
  side-read = sheet_side_lem edition note n costs more (omega (arith, few))

  edition_read : edition_of sheet ≡ edition
  edition_read = sheet_edition edition note n costs more edition_small

  distance_read : distance_of sheet ≡ distance_due edition m n
  distance_read = sheet_distance edition note n costs more (omega (arith, due, due_short edition m n g.fewer few)) ∙ due

  -- Where the edition has a row count, that is what stands before the trailer.
  counted_more : has_row_count edition ≡ true → more ≡ bytes_of 2 m
  counted_more h =
      ap₂ (λ (t u : Bool). cond t (flat_map (bytes_of 8) laid.bars) (cond u (bytes_of 2 m) [])) (counted_unbarred edition h) h

  rows_read : rows_of sheet ≡ m
  rows_read = ap (λ (d : ℕ). cond (has_row_count d) (row_count_of sheet) (side_of sheet)) edition_read ∙ by (has_row_count edition) refl
    where
      by : (t : Bool) → has_row_count edition ≡ t → cond t (row_count_of sheet) (side_of sheet) ≡ m
      by true h = ap (λ (l : List ℕ). row_count_of (sheet_with edition note n costs l)) (counted_more h) ∙ sheet_row_count edition note n costs m (omega (arith, g.fewer, few))
      by false h = side-read ∙ sym (g.square h)

  costs-read : costs_at (distance_of sheet) (rows_of sheet * side_of sheet) sheet ≡ costs
  costs-read =
      let count : rows_of sheet * side_of sheet ≡ length costs = ap₂ ◌*◌ rows_read side-read ∙ sym g.filled in
      ap₂ (λ (far many : ℕ). costs_at far many sheet) (distance_read ∙ sym due) count
      ∙ sheet_costs edition note n costs more (λ k l. fits_four (signed_at costs k) (within_mono (cost_most_within edition) (g.inside k (omega (arith, g.filled)))))

  bars_of : (t : Bool) → has_bars edition ≡ t → bars_in edition n (sheet_with edition note n costs (more_of t edition m laid.bars)) ≡ laid.bars
  bars_of true e =
      let whole = sheet_with edition note n costs (flat_map (bytes_of 8) laid.bars) in
      ap (λ (t : Bool). cond t (bars_at n whole) (replicate n 0)) e ∙ ap (λ (m : ℕ). bars_at m whole) (sym g.rows)
      ∙ sheet_bars edition note n costs laid.bars (λ i l. below_word n few (at laid.bars i) (g.clear i (omega (arith, g.rows))))
  bars_of false e =
      ap (λ (t : Bool). cond t (bars_at n (sheet_with edition note n costs (row_count edition m))) (replicate n 0)) e ∙ sym (g.unbarred e)

  bars_read : bars_in (edition_of sheet) (side_of sheet) sheet ≡ laid.bars
  bars_read = ap₂ (λ (d m : ℕ). bars_in d m sheet) edition_read side-read ∙ bars_of (has_bars edition) refl

  laid_read : laid_of sheet ≡ laid
  laid_read =
      ap₂ (λ (d k : ℕ). record { edition = d; row_count = rows_of sheet; side = k; costs = costs_at (distance_of sheet) (rows_of sheet * side_of sheet) sheet; bars = bars_in (edition_of sheet) (side_of sheet) sheet }) edition_read side-read
      ∙ ap (λ (k : ℕ). record { edition = edition; row_count = k; side = n; costs = costs_at (distance_of sheet) (rows_of sheet * side_of sheet) sheet; bars = bars_in (edition_of sheet) (side_of sheet) sheet }) rows_read
      ∙ ap₂ (λ (c : List ℤ) (b : List ℕ). record { edition = edition; row_count = m; side = n; costs = c; bars = b }) costs-read bars_read

  trailer_passed : Passes (trailed sheet)
  trailer_passed =
      let due-most = due_short edition m n g.fewer few in
      let short : length sheet ≤ sheet_most = omega (arith, long, due-most, printable.short, sheet_most_large) in
      let t17 = (fails_if_iff _ _ _).1 (le-ltb sheet_most (length sheet) short) in
      let t11 = (then_iff _ _).1 (t17, (fails_if_iff _ _ _).1 (ap₂ ◌||◌ (le-ltb (length sheet) 12 (omega (arith, long))) (ap not (eq-eqb (mark_of sheet) (value_of sheet_mark) (sheet_mark_lem edition note n costs more))))) in
      let t12 = (then_iff _ _).1 (t11, (fails_if_iff _ _ _).1 (ap unknown edition_read ∙ g.known)) in
      (then_iff _ _).1 (t12, (fails_if_iff _ _ _).1 (le-ltb sheet_side (side_of sheet) (omega (arith, g.small, side-read))))

  rows_passed : Passes (rows_fit sheet)
  rows_passed = (then_iff _ _).1 (
    (fails_if_iff _ _ _).1 (ap (λ (d : ℕ). has_row_count d && ltb (length sheet) 14) edition_read ∙ by (has_row_count edition) refl),
    (fails_if_iff _ _ _).1 (le-ltb (side_of sheet) (rows_of sheet) (omega (arith, rows_read, side-read, g.fewer))),
  )
    where
      by : (t : Bool) → has_row_count edition ≡ t → (t && ltb (length sheet) 14) ≡ false
      by true h = let two : row_count_length edition ≡ 2 = ap (λ (t : Bool). cond t 2 0) h in le-ltb (length sheet) 14 (omega (arith, long, two))
      by false h = refl

  distance_passed : Passes (pointed sheet)
  distance_passed =
      let t14 = (fails_if_iff _ _ _).1 (ap not (eq-eqb (distance_of sheet) (distance_due (edition_of sheet) (rows_of sheet) (side_of sheet)) (distance_read ∙ ap₂ (λ (d k : ℕ). distance_due d k n) (sym edition_read) (sym rows_read) ∙ ap (distance_due (edition_of sheet) (rows_of sheet)) (sym side-read)))) in
      (then_iff _ _).1 (t14, (fails_if_iff _ _ _).1 (le-ltb (length sheet - 12) (distance_of sheet) (omega (arith, long, distance_read))))

  slip_read : slip_length (edition_of sheet) (rows_of sheet) (side_of sheet) ≡ slip_length edition m n
  slip_read = ap₂ (λ (d k : ℕ). slip_length d k (side_of sheet)) edition_read rows_read ∙ ap (slip_length edition m) side-read

  -- The note is read at the sheet's front.
  note_read : note_length sheet ≡ length note
  note_read = omega (arith, long, distance_read)

  note_passed : Passes (note_fit sheet)
  note_passed = (fails_at_iff _ (λ k. k) (note_length sheet) (unfit sheet)).1
      (λ k l.
      let inside : k < length note = omega (arith, note_read) in
      let byte : at sheet k ≡ at note k = get_or-append note (flat_map (signed_bytes 4) costs ++ (more ++ trailer (4 * length costs + length more) n edition sheet_mark)) 0 k inside in
      ap₂ ◌||◌ (lt-leb note_most k (omega (arith, printable.short))) (ap unprintable byte ∙ printable.printed k inside))

  all_passed : Passes (sheet_tests room sheet)
  unfolding sheet_tests
  all_passed =
      let t23 = (then_iff _ _).1 (trailer_passed, rows_passed) in
      let t15 = (then_iff _ _).1 (t23, distance_passed) in
      let t21 = (then_iff _ _).1 (t15, note_passed) in
      (then_iff _ _).1 (t21, (fails_if_iff _ _ _).1 (le-ltb room (slip_length (edition_of sheet) (rows_of sheet) (side_of sheet)) (omega (arith, roomy, slip_read))))

  night_passed : Passes (night_tests laid)
  night_passed = (then_iff _ _).1 (
    (costs_in_lem (cost_most edition) costs).1 (λ k l. g.inside k (omega (arith, g.filled))),
    (fails_at_iff _ (λ i. i) n (λ i. bits_above n (at laid.bars i))).1 (λ i l. lt-leb (2 ^ n) (at laid.bars i) (g.clear i l)),
  )

  pub read_sheet : read room sheet ≡ night laid
  unfolding read
  read_sheet = ap (read_if sheet) all_passed ∙ ap night_tested laid_read ∙ ap (night_if laid) night_passed
