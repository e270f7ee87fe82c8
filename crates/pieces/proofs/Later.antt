-- What later calls give: 17 until a reset once it was given, 28 until a reset once the end was. Assumes nothing.
use mathlib.Core.Path.{◌≡◌, refl, sym, ap, ◌∙◌}
use mathlib.Core.List.{List}
use Prim.Native.Nat.{ℕ, ◌+◌, ◌<◌}
use native.Mathlib.Decide.{dec_lt}
use native.Mathlib.Omega.{arith}
use lib.ListN.{length}
use Rattle.matrix.specs.Refusals.{number}
use Rattle.matrix.specs.declared.refusals.Reason.TheVariants.{SheetOver, SheetEnded}
use Rattle.sheet.specs.Reading.{sheet_most}
use Rattle.pieces.specs.declared.Held.{Held}
use Rattle.pieces.specs.declared.Held.TheVariants.{Taking, Over, Ended}
use Rattle.pieces.specs.Kept.{Kept, held}
use Rattle.pieces.specs.Calls.{Taken, taken, piece, Ending, ending, delivered, end}
use Rattle.pieces.proofs.Calls.{piece-over, piece-ended, piece_long, piece_fits, end-over, end-ended, end_taking, marked-over, marked-ended}

-- Every call but a reset answers this number and changes nothing.
pub record Answers (number : ℕ) (k : Kept) : Type 0 where
  pub pieces : (sent : List ℕ) → piece sent k ≡ taken number k
  pub ends : (slip : List ℕ) → end slip k ≡ ending (delivered number slip) k

over_answers : (k : Kept) → held k ≡ Over → Answers (number SheetOver) k
over_answers k e = record { pieces = λ sent. piece-over sent k e; ends = λ slip. end-over slip k e }

ended_answers : (k : Kept) → held k ≡ Ended → Answers (number SheetEnded) k
ended_answers k e = record { pieces = λ sent. piece-ended sent k e; ends = λ slip. end-ended slip k e }

module _ (k : Kept) (two : length k.state ≡ 2) where
  module _ (sent : List ℕ) where
    over_by : (h : Held) → held k ≡ h → (piece sent k).number ≡ number SheetOver → held (piece sent k).kept ≡ Over
    over_by Over e q = ap (λ (t : Taken). held t.kept) (piece-over sent k e) ∙ e
    over_by Ended e q =
        let same : number SheetEnded ≡ number SheetOver = sym (ap (λ (t : Taken). t.number) (piece-ended sent k e)) ∙ q in
        absurd (omega arith)
    over_by (Taking n) e q = by (dec_lt sheet_most (n + length sent))
      where
        by : Dec (sheet_most < n + length sent) → held (piece sent k).kept ≡ Over
        by (yes l) = ap (λ (t : Taken). held t.kept) (piece_long sent k n e l) ∙ marked-over k two n e
        by (no l) =
            let same : 0 ≡ number SheetOver = sym (ap (λ (t : Taken). t.number) (piece_fits sent k n e (omega arith))) ∙ q in
            absurd (omega arith)

    -- A piece that gives 17: so does every later call.
    pub over_until_reset : (piece sent k).number ≡ number SheetOver → Answers (number SheetOver) (piece sent k).kept
    over_until_reset q = over_answers (piece sent k).kept (over_by (held k) refl q)

  -- The end while pieces are taken, refused or not: every later call gives 28.
  pub ended_until_reset : (slip : List ℕ) (n : ℕ) → held k ≡ Taking n → Answers (number SheetEnded) (end slip k).kept
  ended_until_reset slip n e =
      ended_answers (end slip k).kept (ap (λ (c : Ending). held c.kept) (end_taking slip k n e) ∙ marked-ended k two n e)
