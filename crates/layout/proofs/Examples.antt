-- Document 01's sheet and slip of side 1, byte for byte, by computation. Assumes nothing.
use mathlib.Core.Path.{◌≡◌, refl}
use mathlib.Core.List.{[], ◌∷◌, flat_map}
use lib.IntN.{pos}
use Rattle.layout.specs.Values.{bytes_of}
use Rattle.layout.specs.Sheets.{sheet_of}
use Rattle.layout.specs.Slips.{slip_of}

-- "Side 1, cost 7, no note, is `07 00 00 00 04 00 00 00 01 00 01 00 4D 54 43 48`."
sheet_bytes : sheet_of [] 1 (pos 7 ∷ [])
    ≡ 0x07 ∷ 0 ∷ 0 ∷ 0 ∷ 0x04 ∷ 0 ∷ 0 ∷ 0 ∷ 0x01 ∷ 0 ∷ 0x01 ∷ 0 ∷ 0x4D ∷ 0x54 ∷ 0x43 ∷ 0x48 ∷ []
unfolding bytes_of flat_map
sheet_bytes = refl

-- "Its slip: `00 00`, eight `00`, `07` and seven `00`, `07` and seven `00`, then `1A 00 00 00 01 00 01 00 53 4C 49 50`."
slip_bytes : slip_of 1 1 1 (0 ∷ []) (pos 0 ∷ []) (pos 7 ∷ []) (pos 7)
    ≡ 0 ∷ 0
    ∷ 0 ∷ 0 ∷ 0 ∷ 0 ∷ 0 ∷ 0 ∷ 0 ∷ 0
    ∷ 0x07 ∷ 0 ∷ 0 ∷ 0 ∷ 0 ∷ 0 ∷ 0 ∷ 0
    ∷ 0x07 ∷ 0 ∷ 0 ∷ 0 ∷ 0 ∷ 0 ∷ 0 ∷ 0
    ∷ 0x1A ∷ 0 ∷ 0 ∷ 0 ∷ 0x01 ∷ 0 ∷ 0x01 ∷ 0 ∷ 0x53 ∷ 0x4C ∷ 0x49 ∷ 0x50 ∷ []
unfolding bytes_of flat_map
slip_bytes = refl
