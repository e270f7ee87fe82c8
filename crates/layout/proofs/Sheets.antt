-- A sheet made of costs, of any edition: how long it is, what its trailer says, and that its costs are found again. Assumes nothing.
use mathlib.Core.Path.{◌≡◌, refl, sym, ap, ap₂, ◌∙◌}
use mathlib.Core.List.{List, ◌++◌, flat_map, append_assoc}
use Prim.Native.Nat.{ℕ, ◌+◌, ◌*◌, ◌-◌, ◌/◌, ◌^◌, ◌<◌}
use native.Mathlib.Omega.{arith}
use lib.IntN.{ℤ, pos}
use lib.ListN.{length, get_or, length-append}
use lib.Signed.{mag}
use Rattle.layout.specs.Values.{bytes_of, value_of, signed_bytes, signed_value}
use Rattle.layout.specs.Fields.{fields}
use Rattle.layout.specs.Trailers.{sheet_mark, trailer, distance_of, side_of, edition_of, row_count_of, mark_of}
use Rattle.layout.specs.Sheets.{sheet_with, costs_at, bars_at}
use Rattle.layout.proofs.Values.{length-bytes_of, length-signed_bytes, value_bytes_of, signed_value-signed_bytes}
use Rattle.layout.proofs.Fields.{length_flat_map, fields_flat_map}
use Rattle.layout.proofs.Trailers as trailers
use Rattle.layout.proofs.Trailers.{length-trailer, row_count_read}

module _ (edition : ℕ) (note : List ℕ) (side : ℕ) (costs : List ℤ) (more : List ℕ) where
  abbrev distance : ℕ
  distance = 4 * length costs + length more

  abbrev front : List ℕ
  front = note ++ (flat_map (signed_bytes 4) costs ++ more)

  abbrev end : List ℕ
  end = trailer distance side edition sheet_mark

  abbrev sheet : List ℕ
  sheet = sheet_with edition note side costs more

  in_two : sheet ≡ front ++ end
  in_two = simp append_assoc

  pub sheet_length_lem : length sheet ≡ length note + distance + 12
  sheet_length_lem =
      omega (arith, length-append note (flat_map (signed_bytes 4) costs ++ (more ++ end)), length-append (flat_map (signed_bytes 4) costs) (more ++ end), length-append more end, length_flat_map (signed_bytes 4) 4 (length-signed_bytes 4) costs, length-trailer distance side edition sheet_mark)

  pub sheet_distance : distance < 256 ^ 4 → distance_of sheet ≡ distance
  sheet_distance h = ap distance_of in_two ∙ trailers.distance_read front distance side edition sheet_mark refl h

  pub sheet_side_lem : side < 256 ^ 2 → side_of sheet ≡ side
  sheet_side_lem h = ap side_of in_two ∙ trailers.side-read front distance side edition sheet_mark refl h

  pub sheet_edition : edition < 256 ^ 2 → edition_of sheet ≡ edition
  sheet_edition h = ap edition_of in_two ∙ trailers.edition_read front distance side edition sheet_mark refl h

  pub sheet_mark_lem : mark_of sheet ≡ value_of sheet_mark
  sheet_mark_lem = ap mark_of in_two ∙ trailers.mark-read front distance side edition sheet_mark refl

  pub sheet_costs : ((k : ℕ) → k < length costs → mag (get_or costs k (pos 0)) < 256 ^ 4 / 2) → costs_at distance (length costs) sheet ≡ costs
  sheet_costs fit =
      let start : length sheet - 12 - distance ≡ length note = omega (arith, sheet_length_lem) in
      ap (λ (base : ℕ). fields (signed_value 4) base 4 (length costs) sheet) start
      ∙ fields_flat_map (signed_bytes 4) 4 (length-signed_bytes 4) (signed_value 4) note (length note) costs (length costs) (more ++ end) (pos 0) refl refl
      (λ k l. signed_value-signed_bytes 4 (get_or costs k (pos 0)) (fit k l))

-- What stands between costs and trailer, if it is the row count, is found again.
pub sheet_row_count : (edition : ℕ) (note : List ℕ) (side : ℕ) (costs : List ℤ) (m : ℕ) → m < 256 ^ 2 → row_count_of (sheet_with edition note side costs (bytes_of 2 m)) ≡ m
sheet_row_count edition note side costs m h =
    let end = trailer (4 * length costs + length (bytes_of 2 m)) side edition sheet_mark in
    ap row_count_of (sym (append_assoc note (flat_map (signed_bytes 4) costs) (bytes_of 2 m ++ end)))
    ∙ row_count_read (note ++ flat_map (signed_bytes 4) costs) m end (length-trailer (4 * length costs + length (bytes_of 2 m)) side edition sheet_mark) h

-- What stands between costs and trailer, if it is a number for each row, is found again.
pub sheet_bars : (edition : ℕ) (note : List ℕ) (side : ℕ) (costs : List ℤ) (bars : List ℕ) → ((i : ℕ) → i < length bars → get_or bars i 0 < 256 ^ 8)
    → bars_at (length bars) (sheet_with edition note side costs (flat_map (bytes_of 8) bars)) ≡ bars
sheet_bars edition note side costs bars fit =
    let more = flat_map (bytes_of 8) bars in
    let size = length_flat_map (bytes_of 8) 8 (length-bytes_of 8) bars in
    let first = note ++ flat_map (signed_bytes 4) costs in
    let end = trailer (4 * length costs + length more) side edition sheet_mark in
    let long : length first ≡ length note + length costs * 4 = omega (arith, length-append note (flat_map (signed_bytes 4) costs), length_flat_map (signed_bytes 4) 4 (length-signed_bytes 4) costs) in
    let start : length (sheet_with edition note side costs more) - 12 - 8 * length bars ≡ length first = omega (arith, sheet_length_lem edition note side costs more) in
    ap₂ (λ (base : ℕ) (bytes : List ℕ). fields value_of base 8 (length bars) bytes) start (sym (append_assoc note (flat_map (signed_bytes 4) costs) (more ++ end)))
    ∙ fields_flat_map (bytes_of 8) 8 (length-bytes_of 8) value_of first (length first) bars (length bars) end 0 refl refl
    (λ i l. value_bytes_of 8 (get_or bars i 0) (fit i l))
