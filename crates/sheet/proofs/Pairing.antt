-- From what is settled of a sheet to what the front desk gets and finds: places are small, a night's slip fits its room, and what stands at the
-- front of the arrays is the answer. Assumes nothing.
use mathlib.Core.Path.{◌≡◌, refl, sym, ap, ◌∙◌, subst}
use mathlib.Core.Bool.{Bool, true, false, cond}
use mathlib.Core.List.{List, ◌++◌}
use Prim.Native.Nat.{ℕ, ◌+◌, ◌*◌, ◌-◌, ◌^◌, ◌≤◌, ◌<◌}
use native.Mathlib.Nat.{mul-le-mul}
use native.Mathlib.Omega.{arith}
use Rattle.lists.specs.Parts.{part}
use Rattle.lists.specs.Permutations.{at}
use Rattle.lists.proofs.Parts.{part-short, part_inside, part_at}
use lib.Dec.{ltb, lit<}
use lib.ListN.{length, take, drop, replicate, length-replicate}
use lib.Seq.{take_at, take-take}
use Rattle.layout.specs.Editions as editions
use Rattle.layout.specs.Editions.{named}
use Rattle.layout.specs.Values.{bytes_of, value_of}
use Rattle.layout.specs.Trailers.{has_row_count, distance_of, side_of, edition_of, row_count_of}
use Rattle.layout.specs.Sheets.{costs_at, bars_at}
use Rattle.layout.specs.Slips.{slip_of, slip_length}
use Rattle.layout.proofs.Values.{value_below}
use Rattle.layout.proofs.Fields.{length_fields}
use Rattle.matrix.specs.Limits.{sheet_side}
use Rattle.matrix.specs.Refusals.{number, code_of}
use Rattle.matrix.specs.declared.refusals.Reason.TheVariants.{NoPairing}
use Rattle.matrix.specs.Asked.{Tellable}
use Rattle.matrix.specs.Verdicts.{Passes}
use Rattle.matrix.specs.Verdicts.{Verdict}
use Rattle.std.specs.Prelude.{Ok, Err}
use Rattle.matrix.specs.declared.refusals.Refusal.{Refusal}
use Rattle.matrix.proofs.SmallLimits.{sheet_side_small}
use Rattle.matrix.proofs.Verdicts as verdicts
use Rattle.matrix.proofs.Verdicts.{then_iff, then_small, fails_if_small, fails_at_small}
use Rattle.sheet.specs.declared.Unpaired.TheVariants.{Refused, Blocked}
use Rattle.sheet.specs.declared.Settled.{Settled}
use Rattle.sheet.specs.Reading.{sheet_most, has_bars, unknown, rows_of, Laid, laid_of, trailed, rows_fit, pointed, unfit, note_fit, sheet_tests, night_tests, Read, refused, night, night_if, read_if, read}
use Rattle.sheet.specs.Settle.{fresh, found, ended, barred_row, rows_shown, blocked_with, accepted_with, settled_as, Delivery, blocked_as, slip_as, paired_as}
use Rattle.sheet.proofs.Editions.{number_named}
use Rattle.sheet.proofs.Limits.{sheet_most_small}
use Rattle.sheet.proofs.Solver as solver
use Rattle.sheet.proofs.Passing.{trailed_passed, tests_passed}

-- ---- what was read

trailed_small : (sheet : List ℕ) → verdicts.Small (trailed sheet)
trailed_small sheet =
    then_small _ _
    (then_small _ _ (then_small _ _ (fails_if_small _ _ _ (λ e. lit< tt)) (λ e. fails_if_small _ _ _ (λ e. lit< tt))) (λ e. fails_if_small _ _ _ (λ e. lit< tt)))
    (λ e. fails_if_small _ _ _ (λ e. lit< tt))

pointed_small : (sheet : List ℕ) → verdicts.Small (pointed sheet)
pointed_small sheet = then_small _ _ (fails_if_small _ _ _ (λ e. lit< tt)) (λ e. fails_if_small _ _ _ (λ e. lit< tt))

-- A row count is two bytes, and so is a side.
abbrev pub Bytes : List ℕ → Type 0
Bytes sheet = (k : ℕ) → k < length sheet → at sheet k < 256

two_bytes : (sheet : List ℕ) → Bytes sheet → (a : ℕ) → value_of (part a 2 sheet) < 256 ^ 2
two_bytes sheet bytes a =
    value_below (part a 2 sheet) 2 (part-short a 2 sheet)
    (λ i l. rw (part_at a 2 sheet i 0 (omega (arith, part-short a 2 sheet))) (bytes (a + i) (part_inside a 2 sheet i l)))

rows_small : (sheet : List ℕ) → Bytes sheet → verdicts.Small (rows_fit sheet)
rows_small sheet bytes = then_small _ _ (fails_if_small _ _ _ (λ e. lit< tt)) (λ e. fails_if_small _ _ _ (λ f. by (has_row_count (edition_of sheet))))
  where
    by : (t : Bool) → cond t (row_count_of sheet) (side_of sheet) < 2 ^ 48
    by true = omega (arith, two_bytes sheet bytes (length sheet - 14))
    by false = omega (arith, two_bytes sheet bytes (length sheet - 8))

-- A position of the note is one of the sheet, which is short.
note_small : (sheet : List ℕ) → length sheet ≤ sheet_most → verdicts.Small (note_fit sheet)
note_small sheet short = fails_at_small _ (λ k. k) _ (unfit sheet) (λ k l. omega (arith, sheet_most_small))

tests_small : (room : ℕ) (sheet : List ℕ) → Bytes sheet → verdicts.Small (sheet_tests room sheet)
unfolding sheet_tests
tests_small room sheet bytes =
    then_small _ _
    (then_small _ _
    (then_small _ _ (then_small _ _ (trailed_small sheet) (λ e. rows_small sheet bytes)) (λ e. pointed_small sheet))
    (λ e. note_small sheet (trailed_passed sheet ((then_iff _ _).0 ((then_iff _ _).0 e).0).0).2))
    (λ e. fails_if_small _ _ _ (λ e. lit< tt))

-- What is known of a night that was read: state and room are large enough, and its costs and bars are within their limits.
pub record Readable (room : ℕ) (laid : Laid) : Type 0 where
  pub small : laid.side ≤ sheet_side
  pub few : laid.side ≤ 64
  pub fewer : laid.row_count ≤ laid.side
  pub roomy : slip_length laid.edition laid.row_count laid.side ≤ room
  pub filled : length laid.costs ≡ laid.row_count * laid.side
  pub square : has_row_count laid.edition ≡ false → laid.row_count ≡ laid.side
  pub rows : length laid.bars ≡ laid.side
  pub unbarred : has_bars laid.edition ≡ false → laid.bars ≡ replicate laid.side 0
  pub known : unknown laid.edition ≡ false
  pub passes : Passes (night_tests laid)

-- A refusal of bytes is told by one number.
abbrev pub ReadRight : ℕ → List ℕ → Read → Type 0
ReadRight room sheet (refused refusal) = Bytes sheet → Tellable refusal
ReadRight room sheet (night laid) = Readable room laid

night_right : (room : ℕ) (sheet : List ℕ) (laid : Laid) (verdict : Verdict) → verdicts.Small verdict → (Passes verdict → Readable room laid) → ReadRight room sheet (night_if laid verdict)
night_right room sheet laid (Ok _) h f = f refl
night_right room sheet laid (Err refusal) h f = λ bytes. h

-- A place in the costs or among the rows is small.
night_small : (laid : Laid) → laid.row_count ≤ 64 → laid.side ≤ 64 → length laid.costs ≡ laid.row_count * laid.side → verdicts.Small (night_tests laid)
night_small laid rows few size =
    then_small _ _ (fails_at_small _ _ _ _ (λ k l. omega (arith, size, mul-le-mul rows few))) (λ e. fails_at_small _ _ _ _ (λ i l. omega (arith, few)))

bars_size : (t : Bool) (n : ℕ) (sheet : List ℕ) → length (cond t (bars_at n sheet) (replicate n 0)) ≡ n
bars_size true n sheet = length_fields _ _ 8 n sheet
bars_size false n sheet = length-replicate n 0

pub read_right : (room : ℕ) (sheet : List ℕ) → ReadRight room sheet (read room sheet)
unfolding read
read_right room sheet = by (sheet_tests room sheet) refl (tests_small room sheet)
  where
    by : (v : Verdict) → sheet_tests room sheet ≡ v → (Bytes sheet → verdicts.Small v) → ReadRight room sheet (read_if sheet v)
    by (Err refusal) e small = small
    by (Ok _) e small =
        let p = tests_passed room sheet e in
        let m = rows_of sheet in
        let n = side_of sheet in
        let few : n ≤ 64 = omega (arith, p.counted.small, sheet_side_small) in
        let size : length (costs_at (distance_of sheet) (m * n) sheet) ≡ m * n = length_fields _ _ 4 (m * n) sheet in
        night_right room sheet (laid_of sheet) (night_tests (laid_of sheet)) (night_small (laid_of sheet) (omega (arith, p.counted.fewer, few)) few size)
        (λ passes. record { small = p.counted.small; few = few; fewer = p.counted.fewer; roomy = p.roomy; filled = size; square = λ h. ap (λ (t : Bool). cond t (row_count_of sheet) n) h; rows = bars_size (has_bars (edition_of sheet)) n sheet; unbarred = λ h. ap (λ (t : Bool). cond t (bars_at n sheet) (replicate n 0)) h; known = p.known; passes = passes })

-- ---- what is settled

-- The first m of what stands at the front, where that is longer.
front_shorter : {A : Type 0} (m n : ℕ) → m ≤ n → {a : List A} (l : List A) → take n l ≡ a → take m l ≡ take m a
front_shorter m n h l e = sym (take-take m n l h) ∙ ap (take m) e

-- What the front desk gets of a sheet that was read as x.
module _ (room : List ℕ) where
  -- A night ends with or without rows to show, and in no other refusal.
  night_refused : (laid : Laid) (t : Bool) (refusal : Refusal) → cond t (blocked_with laid) (accepted_with laid) ≡ Err (Refused refusal) → ⊥
  night_refused laid true refusal v = cc
  night_refused laid false refusal v = cc

  pub refused-outcome : (sheet : List ℕ) → Bytes sheet → (x : Read) → ReadRight (length room) sheet x → (refusal : Refusal) → settled_as x ≡ Err (Refused refusal)
      → (Tellable refusal) × (◌≡◌ {A = Delivery} (record { number = code_of refusal; slip = room }) (paired_as room x))
  refused-outcome sheet bytes (refused given) right refusal v =
      let same : given ≡ refusal = cc v in
      (subst Tellable same (right bytes), ap (λ (r : Refusal). record { number = code_of r; slip = room }) (sym same))
  refused-outcome sheet bytes (night laid) right refusal v = absurd (night_refused laid (ltb (barred_row laid) laid.side) refusal v)

  -- Rows that are shown.
  shown_by : (laid : Laid) (t : Bool) (rows : ℕ) → cond t (blocked_with laid) (accepted_with laid) ≡ Err (Blocked rows)
      → ◌≡◌ {A = Delivery} (record { number = number NoPairing; slip = bytes_of 8 rows ++ drop 8 room }) (cond t (blocked_as room laid) (slip_as room laid))
  shown_by laid true rows v = let same : rows_shown laid ≡ rows = cc in ap (λ (r : ℕ). record { number = number NoPairing; slip = bytes_of 8 r ++ drop 8 room }) (sym same)
  shown_by laid false rows v = absurd cc

  pub blocked_outcome : (sheet : List ℕ) (x : Read) → ReadRight (length room) sheet x → (rows : ℕ) → settled_as x ≡ Err (Blocked rows)
      → (8 ≤ length room) × (◌≡◌ {A = Delivery} (record { number = number NoPairing; slip = bytes_of 8 rows ++ drop 8 room }) (paired_as room x))
  blocked_outcome sheet (refused given) right rows v = absurd cc
  blocked_outcome sheet (night laid) right rows v = (omega (arith, right.roomy), shown_by laid (ltb (barred_row laid) laid.side) rows v)

  -- The slip that is written from the front of the arrays.
  abbrev written : Settled → List ℕ
  written s =
      let e = editions.number s.edition in
      let m = s.row_count in
      let n = s.side in
      slip_of e m n (take m s.state.cols) (take m s.state.row_prices) (take n s.state.col_prices) s.total ++ drop (slip_length e m n) room

  -- What `write` is asked with, and what it leaves.
  abbrev Written : Settled → Delivery → Type 0
  Written s delivery =
      (s.row_count ≤ s.side) × (s.side ≤ 64) × (slip_length (editions.number s.edition) s.row_count s.side ≤ length room) × (◌≡◌ {A = Delivery} (record { number = 0; slip = written s }) delivery)

  ended_written : (laid : Laid) → Readable (length room) laid
      → Written (record { edition = named laid.edition; row_count = laid.row_count; side = laid.side; total = (found laid).total; state = ended laid }) (slip_as room laid)
  ended_written laid right =
      let a = found laid in
      let n = laid.side in
      let owed = solver.owed laid.edition laid.row_count n laid.costs laid.bars right.filled right.rows right.fewer right.small right.passes in
      let cols = take_at a.cols (drop n fresh.cols) n owed.cols_size in
      let rows = take_at a.prices_of_rows (drop n fresh.row_prices) n owed.row_prices_size in
      let columns = take_at a.prices_of_columns (drop n fresh.col_prices) n owed.column_prices_size in
      rw (number_named laid.edition right.known, front_shorter laid.row_count n right.fewer (ended laid).cols cols, front_shorter laid.row_count n right.fewer (ended laid).row_prices rows, columns)
      (right.fewer, right.few, right.roomy, refl)

  paired_by : (laid : Laid) (t : Bool) → Readable (length room) laid → (s : Settled) → cond t (blocked_with laid) (accepted_with laid) ≡ Ok s → Written s (cond t (blocked_as room laid) (slip_as room laid))
  paired_by laid true right s v = absurd cc
  paired_by laid false right s v =
      let same : record { edition = named laid.edition; row_count = laid.row_count; side = laid.side; total = (found laid).total; state = ended laid } ≡ s = cc in
      subst (λ (z : Settled). Written z (slip_as room laid)) same (ended_written laid right)

  pub paired-outcome : (sheet : List ℕ) (x : Read) → ReadRight (length room) sheet x → (s : Settled) → settled_as x ≡ Ok s → Written s (paired_as room x)
  paired-outcome sheet (refused given) right s v = absurd cc
  paired-outcome sheet (night laid) right s v = paired_by laid (ltb (barred_row laid) laid.side) right s v
