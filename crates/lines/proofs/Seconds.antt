-- What the last line of a sheet's night says: `only` is written exactly if no other pairing of the night has its total, and the columns after `also` are
-- another pairing with that total. For every edition. Assumes nothing.
use mathlib.Core.Path.{◌≡◌, refl, sym, ap, ◌∙◌, subst}
use mathlib.Core.Logic.{◌≢◌, ◌↔◌}
use mathlib.Core.List.{List}
use Prim.Native.Nat.{ℕ, ◌≤◌}
use native.Mathlib.Omega.{arith}
use lib.ListN.{take, get_or}
use Rattle.assignment.specs.Pairings.{Pairing, total}
use Rattle.swaps.specs.Second.{Answer, only, also, Another, Right}
use Rattle.swaps.proofs.Shown.{shown_right}
use Rattle.sheet.specs.Reading.{Laid, night, read}
use Rattle.sheet.specs.Settle.{found, barred_row}
use Rattle.sheet.proofs.Nights.{sheet_night, night_total}
use Rattle.lines.specs.Lines.{second_line, second_of}
use Rattle.lines.proofs.Ended.{night_shown}

-- The two lines differ in their first byte.
line-only : (a : Answer) → second_line a ≡ second_line only → a ≡ only
line-only only e = refl
line-only (also other) e = let z : ◌≡◌ {A = ℕ} 97 111 = ap (λ (l : List ℕ). get_or l 0 0) e in absurd (omega arith)

module _ (sheet : List ℕ) (room : ℕ) (laid : Laid) (e : read room sheet ≡ night laid) (free : laid.side ≤ barred_row laid) where
  -- What is paired: the columns of the row lines.
  abbrev paired : List ℕ
  paired = take laid.row_count (found laid).cols

  -- No other pairing has the total of the first line.
  abbrev pub NoOther : Type 0
  NoOther = (other : List ℕ) → Pairing (sheet_night sheet room laid e) other → total (sheet_night sheet room laid e) other ≡ (found laid).total → other ≡ paired

  right : Right (sheet_night sheet room laid e) paired (second_of laid)
  right = shown_right (sheet_night sheet room laid e) (found laid).prices_of_rows (found laid).prices_of_columns (found laid).cols (night_shown sheet room laid e free)

  total_is : (found laid).total ≡ total (sheet_night sheet room laid e) paired
  total_is = night_total sheet room laid e free

  pub only_iff : (second_line (second_of laid) ≡ second_line only) ↔ NoOther
  only_iff = (
    λ q other p t. subst (Right (sheet_night sheet room laid e) paired) (line-only (second_of laid) q) right other p (t ∙ total_is),
    λ none. ap second_line (by none (second_of laid) right),
  )
    where
      by : NoOther → (a : Answer) → Right (sheet_night sheet room laid e) paired a → a ≡ only
      by none only r = refl
      by none (also other) r = absurd (r.differs (none other r.pairing (r.same ∙ sym total_is)))

  pub also_another : (other : List ℕ) → second_of laid ≡ also other
      → Pairing (sheet_night sheet room laid e) other × (total (sheet_night sheet room laid e) other ≡ (found laid).total) × (other ≢ paired)
  also_another other q =
      let r : Another (sheet_night sheet room laid e) paired other = subst (Right (sheet_night sheet room laid e) paired) q right in
      (r.pairing, r.same ∙ sym total_is, r.differs)
