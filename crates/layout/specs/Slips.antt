-- The layout of a slip, byte for byte, and where its fields are found again: m rows and n columns.
use Rattle.std.specs.Prelude.{◌≡◌, cond, ℕ, ◌+◌, ◌*◌, ◌/◌, ◌^◌, ◌<◌, ℤ, pos, length, get_or}
use mathlib.Core.List.{List, [], ◌++◌, flat_map}
use Rattle.std.specs.Int.Signed.{mag}
use Rattle.lists.specs.Parts.{part}
use Rattle.lists.specs.Permutations.{at}
use Rattle.layout.specs.Values.{bytes_of, value_of, signed_bytes, signed_value}
use Rattle.layout.specs.Fields.{fields}
use Rattle.layout.specs.Trailers.{slip_mark, trailer, has_row_count}

-- "columns by row (2 bytes each), row prices (8 each), column prices (8 each), total (8)".
abbrev pub slip_body : List ℕ → List ℤ → List ℤ → ℤ → List ℕ
slip_body cols prices_of_rows prices_of_columns total =
    flat_map (bytes_of 2) cols ++ (flat_map (signed_bytes 8) prices_of_rows ++ (flat_map (signed_bytes 8) prices_of_columns ++ signed_bytes 8 total))

-- How long that is.
abbrev pub body_length : ℕ → ℕ → ℕ
body_length m n = 10 * m + 8 * n + 8

-- What edition 3 puts behind the total: "the row count (2 bytes)". Other editions put nothing there.
abbrev pub row_count : ℕ → ℕ → List ℕ
row_count edition m = cond (has_row_count edition) (bytes_of 2 m) []

abbrev pub row_count_length : ℕ → ℕ
row_count_length edition = cond (has_row_count edition) 2 0

-- "distance 18n+8", where rows and columns are n; in edition 3 "10m + 8n + 10".
abbrev pub slip_distance : ℕ → ℕ → ℕ → ℕ
slip_distance edition m n = body_length m n + row_count_length edition

-- "A slip is [..], and the same trailer with [that] distance and mark "SLIP"".
abbrev pub slip_of : ℕ → ℕ → ℕ → List ℕ → List ℤ → List ℤ → ℤ → List ℕ
slip_of edition m n cols prices_of_rows prices_of_columns total =
    slip_body cols prices_of_rows prices_of_columns total ++ (row_count edition m ++ trailer (slip_distance edition m n) n edition slip_mark)

-- How long a slip is: "the slip room needs 12 more".
abbrev pub slip_length : ℕ → ℕ → ℕ → ℕ
slip_length edition m n = slip_distance edition m n + 12

-- What a slip says: columns by row, row prices, column prices, total.
abbrev pub slip_columns : ℕ → List ℕ → List ℕ
slip_columns m slip = fields value_of 0 2 m slip

abbrev pub slip_row_prices : ℕ → List ℕ → List ℤ
slip_row_prices m slip = fields (signed_value 8) (2 * m) 8 m slip

abbrev pub slip_column_prices : ℕ → ℕ → List ℕ → List ℤ
slip_column_prices m n slip = fields (signed_value 8) (10 * m) 8 n slip

abbrev pub slip_total : ℕ → ℕ → List ℕ → ℤ
slip_total m n slip = signed_value 8 (part (10 * m + 8 * n) 8 slip)

-- What a slip can hold: m columns that fit two bytes, m and n prices and a total that fit eight.
pub record Held (m n : ℕ) (cols : List ℕ) (prices_of_rows prices_of_columns : List ℤ) (total : ℤ) : Type 0 where
  pub columns : length cols ≡ m
  pub rows : length prices_of_rows ≡ m
  pub prices : length prices_of_columns ≡ n
  pub column_fits : (i : ℕ) → i < m → at cols i < 256 ^ 2
  pub row_price_fits : (i : ℕ) → i < m → mag (get_or prices_of_rows i (pos 0)) < 256 ^ 8 / 2
  pub column_price_fits : (j : ℕ) → j < n → mag (get_or prices_of_columns j (pos 0)) < 256 ^ 8 / 2
  pub total_fits : mag total < 256 ^ 8 / 2
