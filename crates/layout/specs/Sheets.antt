-- The layout of a sheet, byte for byte, and where its costs are found again.
use mathlib.Core.List.{List, [], ◌++◌, flat_map}
use Rattle.std.specs.Prelude.{ℕ, ◌+◌, ◌*◌, ◌-◌, ℤ, length}
use Rattle.layout.specs.Values.{bytes_of, value_of, signed_bytes, signed_value}
use Rattle.layout.specs.Fields.{fields}
use Rattle.layout.specs.Trailers.{sheet_mark, trailer}

-- "A sheet is any note bytes, then costs (little-endian, two's complement), then a 12-byte trailer pointing back: distance from the trailer to the
-- first cost". What an edition puts between costs and trailer is `more`.
abbrev pub sheet_with : ℕ → List ℕ → ℕ → List ℤ → List ℕ → List ℕ
sheet_with edition note side costs more =
    note ++ (flat_map (signed_bytes 4) costs ++ (more ++ trailer (4 * length costs + length more) side edition sheet_mark))

-- "edition 1": nothing is.
abbrev pub sheet_of : List ℕ → ℕ → List ℤ → List ℕ
sheet_of note side costs = sheet_with 1 note side costs []

-- "Sheet edition 2 puts 8 bytes per row between costs and trailer": a number for each row.
abbrev pub sheet_barred : List ℕ → ℕ → List ℤ → List ℕ → List ℕ
sheet_barred note side costs bars = sheet_with 2 note side costs (flat_map (bytes_of 8) bars)

-- "Sheet edition 3 holds m rows and n columns [..]: costs m*n in row order, then a 2-byte row count, then the trailer with side n".
abbrev pub sheet_oblong : List ℕ → ℕ → ℕ → List ℤ → List ℕ
sheet_oblong note m n costs = sheet_with 3 note n costs (bytes_of 2 m)

-- So many costs, the first at a distance before the trailer.
abbrev pub costs_at : ℕ → ℕ → List ℕ → List ℤ
costs_at distance count sheet = fields (signed_value 4) (length sheet - 12 - distance) 4 count sheet

-- The numbers of n rows, which end at the trailer.
abbrev pub bars_at : ℕ → List ℕ → List ℕ
bars_at n sheet = fields value_of (length sheet - 12 - 8 * n) 8 n sheet
