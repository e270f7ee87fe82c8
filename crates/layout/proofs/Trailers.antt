-- A trailer is 12 bytes long, and its parts are found again behind whatever stands before it. Assumes nothing.
use mathlib.Core.Path.{◌≡◌, refl, ap, ◌∙◌}
use mathlib.Core.Bool.{true, false}
use mathlib.Core.List.{List, ◌++◌}
use Prim.Native.Nat.{ℕ, ◌+◌, ◌-◌, ◌^◌, ◌<◌}
use native.Mathlib.Omega.{arith}
use borrow.Author.Tests.{eq-eqb, ne_eqb}
use lib.ListN.{length, take, length-append}
use lib.Seq.{take_all, take_at, drop-append-add}
use Rattle.lists.specs.Parts.{part}
use Rattle.layout.specs.Values.{bytes_of, value_of}
use Rattle.layout.specs.Trailers.{trailer, distance_of, side_of, edition_of, row_count_of, mark_of, has_row_count}
use Rattle.layout.proofs.Values.{length-bytes_of, value_bytes_of}

pub length-trailer : (distance side edition : ℕ) (mark : List ℕ) → length (trailer distance side edition mark) ≡ 8 + length mark
unfolding bytes_of
length-trailer distance side edition mark = omega arith

-- An edition with a row count, and any other.
pub counted : {edition : ℕ} → edition ≡ 3 → has_row_count edition ≡ true
counted {edition} e = eq-eqb edition 3 e

pub uncounted : {edition : ℕ} → ((edition ≡ 3) → ⊥) → has_row_count edition ≡ false
uncounted {edition} h = ne_eqb edition 3 h

-- A part of the last bytes, counted from the list's end, is that part of them.
part_of_end : (p t : List ℕ) (a k w : ℕ) → a + k ≡ length t → part (length (p ++ t) - k) w (p ++ t) ≡ part a w t
part_of_end p t a k w e =
    let at : length (p ++ t) - k ≡ length p + a = omega (arith, length-append p t) in
    ap (λ (m : ℕ). part m w (p ++ t)) at ∙ ap (take w) (drop-append-add p t a)

-- The row count is found again before a trailer.
pub row_count_read : (front : List ℕ) (m : ℕ) (end : List ℕ) → length end ≡ 12 → m < 256 ^ 2 → row_count_of (front ++ (bytes_of 2 m ++ end)) ≡ m
row_count_read front m end s h =
    ap value_of (part_of_end front (bytes_of 2 m ++ end) 0 14 2 (omega (arith, length-append (bytes_of 2 m) end, length-bytes_of 2 m)) ∙ take_at (bytes_of 2 m) end 2 (length-bytes_of 2 m))
    ∙ value_bytes_of 2 m h

module _ (front : List ℕ) (distance side edition : ℕ) (mark : List ℕ) (four : length mark ≡ 4) where
  abbrev end : List ℕ
  end = trailer distance side edition mark

  abbrev bytes : List ℕ
  bytes = front ++ end

  -- A part of the trailer, found at its place.
  found : (a k w : ℕ) → a + k ≡ 12 → part (length bytes - k) w bytes ≡ part a w end
  found a k w e = part_of_end front end a k w (omega (arith, length-trailer distance side edition mark))

  pub distance_read : distance < 256 ^ 4 → distance_of bytes ≡ distance
  unfolding bytes_of
  distance_read h = ap value_of (found 0 12 4 refl) ∙ value_bytes_of 4 distance h

  pub side-read : side < 256 ^ 2 → side_of bytes ≡ side
  unfolding bytes_of
  side-read h = ap value_of (found 4 8 2 refl) ∙ value_bytes_of 2 side h

  pub edition_read : edition < 256 ^ 2 → edition_of bytes ≡ edition
  unfolding bytes_of
  edition_read h = ap value_of (found 6 6 2 refl) ∙ value_bytes_of 2 edition h

  pub mark-read : mark_of bytes ≡ value_of mark
  unfolding bytes_of
  mark-read = ap value_of (found 8 4 4 refl ∙ take_all 4 mark (omega arith))
