-- `write_sheet` writes the scores and the trailer, and nothing past them. Assumes nothing.
use mathlib.Core.Path.{◌≡◌, refl, ap, ◌∙◌}
use mathlib.Core.List.{List, [], ◌++◌, flat_map}
use Prim.Native.Nat.{ℕ, ◌+◌, ◌*◌, ◌≤◌}
use native.Mathlib.Omega.{arith}
use lib.IntN.{ℤ}
use lib.ListN.{length, drop}
use lib.Seq.{sets}
use Rattle.lists.proofs.Tables.{length-table}
use Rattle.layout.specs.Values.{bytes_of, signed_bytes}
use Rattle.layout.specs.Trailers.{sheet_mark, trailer}
use Rattle.layout.specs.Sheets.{sheet_of}
use Rattle.layout.proofs.Values.{length-signed_bytes}
use Rattle.layout.proofs.Fields.{length_flat_map}
use Rattle.layout.proofs.Stores.{stored_then, sets_front}
use Rattle.layout.proofs.Sheets.{sheet_length_lem}
use Rattle.score.specs.ScoreSheet.{reference_count, sheet_length, score_at, scores}
use Rattle.score.proofs.sheets.write_sheet.Goals as goal

mark : bytes_of 4 0x4843544D ≡ sheet_mark
unfolding bytes_of
mark = refl

-- costs and trailer are the sheet
module _ (n : ℕ) (costs : List ℤ) (size : length costs ≡ n * n) (room : List ℕ) (roomy : sheet_length n ≤ length room) where
  joined : {p t : List ℕ} → p ≡ sets room 0 (flat_map (signed_bytes 4) costs) → t ≡ sets p (4 * (n * n)) (trailer (4 * (n * n)) n 1 (bytes_of 4 0x4843544D))
      → t ≡ sheet_of [] n costs ++ drop (sheet_length n) room
  joined {p} d e =
      let far : 4 * (n * n) ≡ 4 * length costs + 0 = omega (arith, size) in
      stored_then room (flat_map (signed_bytes 4) costs) (trailer (4 * length costs + 0) n 1 sheet_mark) 0 (4 * (n * n)) d (omega (arith, size, length_flat_map (signed_bytes 4) 4 (length-signed_bytes 4) costs))
      (e ∙ ap (λ (m : List ℕ). sets p (4 * (n * n)) (trailer (4 * (n * n)) n 1 m)) mark ∙ ap (λ (k : ℕ). sets p (4 * (n * n)) (trailer k n 1 sheet_mark)) far)
      ∙ sets_front (sheet_of [] n costs) room (sheet_length n) (omega (arith, size, sheet_length_lem 1 [] n costs [])) roomy

pub returns : goal.returns
returns c =
    let u = c.args in
    let n = reference_count u.firsts.now in
    joined n (scores n u.firsts.now u.seconds.now) (length-table (n * n) (score_at n u.firsts.now u.seconds.now)) u.sheet.now c.requires.1 c.write.ensures (rw c.number.ensures at c.write_trailer.ensures)
