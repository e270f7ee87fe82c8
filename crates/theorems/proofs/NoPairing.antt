-- Refusal 20, of a sheet that passes every test before it: given exactly if its night has no pairing, with rows that show it. Assumes nothing.
use mathlib.Core.Path.{◌≡◌, refl, sym, ap, ◌∙◌, subst}
use mathlib.Core.Bool.{Bool, true, false, cond}
use mathlib.Core.Logic.{◌↔◌}
use mathlib.Core.List.{List, ◌++◌}
use Prim.Native.Nat.{ℕ, ◌+◌, ◌*◌, ◌^◌, ◌≤◌, ◌<◌}
use native.Mathlib.Decide.{dec_lt}
use native.Mathlib.Omega.{arith}
use borrow.Author.Tests.{lt-ltb, le-ltb, leb-false}
use lib.Count.{ones}
use lib.Dec.{ltb}
use lib.IntN.{pos}
use lib.ListN.{length, take, drop}
use lib.Seq.{take_at, drop_at}
use lib.Signed.{◌<ℤ◌}
use Rattle.ints.specs.Parts.{Within}
use Rattle.lists.specs.Permutations.{at}
use Rattle.lists.specs.Counts.{bit_of}
use Rattle.layout.specs.Values.{bytes_of, value_of}
use Rattle.layout.proofs.Values.{length-bytes_of, value_bytes_of}
use Rattle.assignment.specs.Pairings.{Night, Pairing, signed_at}
use Rattle.bars.specs.Barred.{night_of, barred, first_barred, bits_above}
use Rattle.bars.specs.Tests.{barred_most}
use Rattle.bars.specs.Blocked.{Blocked}
use Rattle.bars.specs.Masks.{columns_mask}
use Rattle.bars.proofs.Barred.{no_pair_barred, barred_iff, shown_blocked, shown_ones, wide_margin}
use Rattle.bars.proofs.Masks.{reached_below}
use Rattle.matrix.specs.Limits.{K}
use Rattle.matrix.specs.Refusals.{number}
use Rattle.matrix.specs.declared.refusals.Reason.TheVariants.{NoPairing}
use Rattle.matrix.proofs.Verdicts.{then_iff, fails_at_iff}
use Rattle.rules.specs.Run.{Result}
use Rattle.rules.specs.Right.{Right}
use Rattle.sheet.specs.Reading.{has_bars, Laid, night, read}
use Rattle.sheet.specs.Settle.{solved_costs, found, barred_row, rows_shown, Delivery, blocked_as, slip_as, paired_as, pair}
use Rattle.sheet.proofs.Sheets.{below_word}
use Rattle.sheet.proofs.Editions.{barred_uncounted}
use Rattle.sheet.proofs.Pairing.{Readable}
use Rattle.sheet.proofs.Nights.{sheet_night, readable, owed, costs_near, night_pairing}

-- Costs within an edition's limit leave K far above, where the edition has bars.
margin : (n : ℕ) → n ≤ 64 → pos (barred_most + n * (2 * barred_most)) <ℤ pos K
unfolding barred_most K
margin = wide_margin

module _ (sheet room : List ℕ) (laid : Laid) (e : read (length room) sheet ≡ night laid) where
  abbrev m : ℕ
  m = laid.row_count

  abbrev n : ℕ
  n = laid.side

  abbrev a : Result
  a = found laid

  abbrev its : Night
  its = sheet_night sheet (length room) laid e

  abbrev None : Type 0
  None = (other : List ℕ) → Pairing its other → ⊥

  abbrev fits : Readable (length room) laid
  fits = readable sheet (length room) laid e

  abbrev right : Right n (solved_costs laid) K a
  right = owed sheet (length room) laid e

  clear : (i : ℕ) → i < n → at laid.bars i < 2 ^ n
  clear i l = leb-false (2 ^ n) (at laid.bars i) ((fails_at_iff _ (λ k. k) n (λ k. bits_above n (at laid.bars k))).0 ((then_iff _ _).0 fits.passes).1 i l)

  -- Where a pair is barred the edition has bars; so its costs are small, and its rows as many as its columns.
  bars_there : barred_row laid < n → has_bars laid.edition ≡ true
  bars_there h = by (has_bars laid.edition) refl
    where
      by : (t : Bool) → has_bars laid.edition ≡ t → has_bars laid.edition ≡ true
      by true s = s
      by false s = absurd (omega (arith, ap (λ (bars : List ℕ). first_barred n bars a.cols) (fits.unbarred s), no_pair_barred n a.cols))

  square_there : barred_row laid < n → m ≡ n
  square_there h = fits.square (barred_uncounted laid.edition (bars_there h))

  barred_small : barred_row laid < n → (k : ℕ) → k < n * n → Within barred_most (signed_at laid.costs k)
  barred_small h k l =
      let there : k < length laid.costs = omega (arith, fits.filled, ap (λ (i : ℕ). i * n) (square_there h)) in
      subst (λ (c : ℕ). Within c (signed_at laid.costs k)) (ap (λ (u : Bool). cond u barred_most K) (bars_there h)) (costs_near sheet (length room) laid e k there)

  its_square : barred_row laid < n → barred n laid.costs laid.bars ≡ its
  its_square h = ap (λ (i : ℕ). night_of i n laid.costs laid.bars) (sym (square_there h))

  -- "Refuse with 20 exactly if there is none."
  pub barred_none : (barred_row laid < n) ↔ None
  barred_none = (
    λ h. subst (λ (x : Night). (other : List ℕ) → Pairing x other → ⊥) (its_square h)
        ((barred_iff n (pos K) laid.costs laid.bars barred_most (barred_small h) (margin n fits.few) a.prices_of_rows a.prices_of_columns right.feasible a.cols right.pairing right.tight).0 h),
    λ none. by none (dec_lt (barred_row laid) n),
  )
    where
      by : None → Dec (barred_row laid < n) → barred_row laid < n
      by none (yes h) = h
      by none (no h) = absurd (none (take m a.cols) (night_pairing sheet (length room) laid e (omega arith)))

  delivered : {t : Bool} → ltb (barred_row laid) n ≡ t → pair sheet room ≡ cond t (blocked_as room laid) (slip_as room laid)
  unfolding pair
  delivered s = ap (paired_as room) e ∙ ap (λ (t : Bool). cond t (blocked_as room laid) (slip_as room laid)) s

  pub twenty_iff : ((pair sheet room).number ≡ number NoPairing) ↔ None
  twenty_iff = (
    λ given. barred_none.0 (by given (dec_lt (barred_row laid) n)),
    λ none. ap (λ (d : Delivery). d.number) (delivered (lt-ltb (barred_row laid) n (barred_none.1 none))),
  )
    where
      by : (pair sheet room).number ≡ number NoPairing → Dec (barred_row laid < n) → barred_row laid < n
      by given (yes h) = h
      by given (no h) =
          let paired : (pair sheet room).number ≡ 0 = ap (λ (d : Delivery). d.number) (delivered (le-ltb (barred_row laid) n (omega arith))) in
          absurd (omega (arith, given, paired))

  -- What is then written: 8 bytes, whose bits are rows that have fewer allowed columns than they are, "by counting ones", and nothing behind them.
  module _ (none : None) where
    h : barred_row laid < n
    h = barred_none.1 none

    abbrev slip : List ℕ
    slip = (pair sheet room).slip

    abbrev shown : ℕ
    shown = value_of (take 8 slip)

    slip_is : slip ≡ bytes_of 8 (rows_shown laid) ++ drop 8 room
    slip_is = ap (λ (d : Delivery). d.slip) (delivered (lt-ltb (barred_row laid) n h))

    shown_is : shown ≡ rows_shown laid
    shown_is =
        ap (λ (l : List ℕ). value_of (take 8 l)) slip_is
        ∙ ap value_of (take_at (bytes_of 8 (rows_shown laid)) (drop 8 room) 8 (length-bytes_of 8 (rows_shown laid)))
        ∙ value_bytes_of 8 (rows_shown laid) (below_word n fits.few (rows_shown laid) (reached_below n laid.costs laid.bars a.cols (barred_row laid) h))

    pub twenty_shows : Blocked its (bit_of shown)
    twenty_shows =
        subst (λ (rows : ℕ). Blocked its (bit_of rows)) (sym shown_is)
        (subst (λ (x : Night). Blocked x (bit_of (rows_shown laid))) (its_square h)
        (shown_blocked n (pos K) laid.costs laid.bars barred_most (barred_small h) (margin n fits.few) a.prices_of_rows a.prices_of_columns right.feasible a.cols right.pairing right.tight h))

    pub twenty_ones : ones (columns_mask n laid.bars shown) < ones shown
    twenty_ones =
        subst (λ (rows : ℕ). ones (columns_mask n laid.bars rows) < ones rows) (sym shown_is)
        (shown_ones n (pos K) laid.costs laid.bars barred_most (barred_small h) (margin n fits.few) a.prices_of_rows a.prices_of_columns right.feasible a.cols right.pairing right.tight clear h)

    pub twenty_rest : drop 8 slip ≡ drop 8 room
    twenty_rest = ap (drop 8) slip_is ∙ drop_at (bytes_of 8 (rows_shown laid)) (drop 8 room) 8 (length-bytes_of 8 (rows_shown laid))
