-- From references to pairs. Where a sheet of scores is written, its bytes are read back as exactly these scores, and the sheet entry never refuses
-- them where the slip has room. Assumes nothing.
use mathlib.Core.Path.{◌≡◌, refl, ap, ◌∙◌}
use mathlib.Core.Bool.{Bool, cond}
use mathlib.Core.List.{List, []}
use Prim.Native.Nat.{ℕ, ◌*◌, ◌/◌, ◌%◌, ◌≤◌}
use lib.Pow.{pow_pos}
use native.Mathlib.Omega.{arith}
use borrow.Author.Tests.{le-ltb}
use lib.IntN.{pos}
use lib.ListN.{length, take, replicate, length-replicate, get_or-replicate}
use Rattle.ints.proofs.Ranges.{within_mono}
use Rattle.lists.proofs.Tables.{length-table, get_d_table}
use Rattle.bars.proofs.Barred.{no_pair_barred}
use Rattle.layout.specs.Slips.{slip_length}
use Rattle.matrix.proofs.SmallLimits.{K_large}
use Rattle.score.specs.ScoreSheet.{reference_count, reference, sheet_length, score_at, scores, score_sheet}
use Rattle.score.proofs.Metric.{sum_small}
use Rattle.score.proofs.Accepted.{accepted_lists, sheet_written}
use Rattle.sheet.specs.Reading.{Laid, Read, night, read, Printable, Layable}
use Rattle.sheet.specs.Settle.{found, barred_row, blocked_as, slip_as, paired_as, pair}
use Rattle.sheet.proofs.Sheets.{read_sheet}

module _ (firsts seconds room : List ℕ) (e : (score_sheet firsts seconds room).number ≡ 0) where
  abbrev n : ℕ
  n = reference_count firsts

  -- The bytes that are written.
  abbrev sheet : List ℕ
  sheet = take (sheet_length n) (score_sheet firsts seconds room).sheet

  size : length (scores n firsts seconds) ≡ n * n
  size = length-table (n * n) (score_at n firsts seconds)

  -- The night as it lies on the sheet: edition 1, nothing barred.
  abbrev laid : Laid
  laid = record { edition = 1; row_count = n; side = n; costs = scores n firsts seconds; bars = replicate n 0 }

  layable : Layable laid
  layable = record {
    known = refl;
    small = (accepted_lists firsts seconds room e).few;
    fewer = omega arith;
    square = λ h. refl;
    filled = size;
    inside = λ k l. rw (get_d_table (n * n) (score_at n firsts seconds) (pos 0) k l) (within_mono (omega (arith, K_large)) (sum_small (reference (k / n) firsts) (reference (k % n) seconds)));
    rows = length-replicate n 0;
    clear = λ i l. rw (get_or-replicate {A = ℕ} n i 0 0 l) (pow_pos n);
    unbarred = λ h. refl;
  }

  no_note : Printable []
  no_note = record { short = omega arith; printed = λ k l. absurd (omega arith) }

  pub scores-read : (slip : ℕ) → slip_length 1 n n ≤ slip → read slip sheet ≡ night laid
  scores-read slip roomy = ap (read slip) (sheet_written firsts seconds room e) ∙ read_sheet [] laid slip no_note layable roomy

  pub scores-paired : (slip : List ℕ) → slip_length 1 n n ≤ length slip → (pair sheet slip).number ≡ 0
  unfolding pair
  scores-paired slip roomy =
      ap (λ (r : Read). (paired_as slip r).number) (scores-read (length slip) roomy)
      ∙ ap (λ (t : Bool). (cond t (blocked_as slip laid) (slip_as slip laid)).number) (le-ltb (barred_row laid) n (omega (arith, no_pair_barred n (found laid).cols)))
