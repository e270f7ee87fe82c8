-- A slip's body, of m rows and n columns, says the columns, prices and total that were written into it, whatever follows; how long a slip is.
-- Assumes nothing.
use mathlib.Core.Path.{◌≡◌, refl, ap, ◌∙◌}
use mathlib.Core.Bool.{Bool, true, false, cond}
use mathlib.Core.List.{List, [], ◌++◌, flat_map, append_assoc}
use Prim.Native.Nat.{ℕ, ◌+◌, ◌*◌}
use native.Mathlib.Omega.{arith}
use lib.IntN.{ℤ, pos}
use lib.ListN.{length, get_or, take, length-append}
use lib.Seq.{take_at, drop_at}
use Rattle.lists.specs.Permutations.{at}
use Rattle.layout.specs.Values.{bytes_of, value_of, signed_bytes, signed_value}
use Rattle.layout.specs.Trailers.{slip_mark, trailer, has_row_count}
use Rattle.layout.specs.Slips.{slip_body, body_length, row_count, row_count_length, slip_distance, slip_of, slip_length, slip_columns, slip_row_prices, slip_column_prices, slip_total, Held}
use Rattle.layout.proofs.Values.{length-bytes_of, length-signed_bytes, value_bytes_of, signed_value-signed_bytes}
use Rattle.layout.proofs.Fields.{length_flat_map, fields_flat_map}
use Rattle.layout.proofs.Trailers.{length-trailer}

module _ (m n : ℕ) (cols : List ℕ) (prices_of_rows prices_of_columns : List ℤ) (total : ℤ) where
  abbrev first_part : List ℕ
  first_part = flat_map (bytes_of 2) cols

  abbrev second_part : List ℕ
  second_part = flat_map (signed_bytes 8) prices_of_rows

  abbrev third_part : List ℕ
  third_part = flat_map (signed_bytes 8) prices_of_columns

  abbrev body : List ℕ
  body = slip_body cols prices_of_rows prices_of_columns total

  module _ (c : length cols ≡ m) (r : length prices_of_rows ≡ m) (p : length prices_of_columns ≡ n) where
    length-first : length first_part ≡ 2 * m
    length-first = omega (arith, length_flat_map (bytes_of 2) 2 (length-bytes_of 2) cols)

    length_second : length (first_part ++ second_part) ≡ 10 * m
    length_second =
        omega (arith, length-append first_part second_part, length-first, length_flat_map (signed_bytes 8) 8 (length-signed_bytes 8) prices_of_rows)

    length_third : length ((first_part ++ second_part) ++ third_part) ≡ 10 * m + 8 * n
    length_third =
        omega (arith, length-append (first_part ++ second_part) third_part, length_second, length_flat_map (signed_bytes 8) 8 (length-signed_bytes 8) prices_of_columns)

    pub length_body : length body ≡ body_length m n
    length_body =
        let parted : body ≡ ((first_part ++ second_part) ++ third_part) ++ signed_bytes 8 total = simp append_assoc in
        ap length parted ∙ omega (arith, length-append ((first_part ++ second_part) ++ third_part) (signed_bytes 8 total), length_third, length-signed_bytes 8 total)

  module _ (h : Held m n cols prices_of_rows prices_of_columns total) (rest : List ℕ) where
    pub slip_columns_lem : slip_columns m (body ++ rest) ≡ cols
    slip_columns_lem =
        ap (slip_columns m) (append_assoc first_part (second_part ++ (third_part ++ signed_bytes 8 total)) rest)
        ∙ fields_flat_map (bytes_of 2) 2 (length-bytes_of 2) value_of [] 0 cols m _ 0 refl h.columns
        (λ i l. value_bytes_of 2 (at cols i) (h.column_fits i l))

    pub slip_row_prices_lem : slip_row_prices m (body ++ rest) ≡ prices_of_rows
    slip_row_prices_lem =
        let parted : body ++ rest ≡ first_part ++ (second_part ++ ((third_part ++ signed_bytes 8 total) ++ rest)) = simp append_assoc in
        ap (slip_row_prices m) parted
        ∙ fields_flat_map (signed_bytes 8) 8 (length-signed_bytes 8) (signed_value 8) first_part (2 * m) prices_of_rows m _ (pos 0) (length-first h.columns h.rows h.prices) h.rows
        (λ i l. signed_value-signed_bytes 8 (get_or prices_of_rows i (pos 0)) (h.row_price_fits i l))

    pub slip_column_prices_lem : slip_column_prices m n (body ++ rest) ≡ prices_of_columns
    slip_column_prices_lem =
        let parted : body ++ rest ≡ (first_part ++ second_part) ++ (third_part ++ (signed_bytes 8 total ++ rest)) = simp append_assoc in
        ap (slip_column_prices m n) parted
        ∙ fields_flat_map (signed_bytes 8) 8 (length-signed_bytes 8) (signed_value 8) (first_part ++ second_part) (10 * m) prices_of_columns n _ (pos 0) (length_second h.columns h.rows h.prices) h.prices
        (λ j l. signed_value-signed_bytes 8 (get_or prices_of_columns j (pos 0)) (h.column_price_fits j l))

    pub slip_total_lem : slip_total m n (body ++ rest) ≡ total
    slip_total_lem =
        let parted : body ++ rest ≡ ((first_part ++ second_part) ++ third_part) ++ (signed_bytes 8 total ++ rest) = simp append_assoc in
        ap (slip_total m n) parted
        ∙ ap (λ (l : List ℕ). signed_value 8 (take 8 l)) (drop_at ((first_part ++ second_part) ++ third_part) (signed_bytes 8 total ++ rest) (10 * m + 8 * n) (length_third h.columns h.rows h.prices))
        ∙ ap (signed_value 8) (take_at (signed_bytes 8 total) rest 8 (length-signed_bytes 8 total))
        ∙ signed_value-signed_bytes 8 total h.total_fits

pub length-row_count : (edition m : ℕ) → length (row_count edition m) ≡ row_count_length edition
length-row_count edition m = by (has_row_count edition)
  where
    by : (t : Bool) → length (cond t (bytes_of 2 m) []) ≡ cond t 2 0
    by true = length-bytes_of 2 m
    by false = refl

pub length-slip_of : (edition m n : ℕ) (cols : List ℕ) (prices_of_rows prices_of_columns : List ℤ) (total : ℤ) → length cols ≡ m → length prices_of_rows ≡ m
    → length prices_of_columns ≡ n → length (slip_of edition m n cols prices_of_rows prices_of_columns total) ≡ slip_length edition m n
length-slip_of edition m n cols prices_of_rows prices_of_columns total c r p =
    let last = trailer (slip_distance edition m n) n edition slip_mark in
    omega (
      arith,
      length-append (slip_body cols prices_of_rows prices_of_columns total) (row_count edition m ++ last),
      length-append (row_count edition m) last,
      length_body m n cols prices_of_rows prices_of_columns total c r p,
      length-row_count edition m,
      length-trailer (slip_distance edition m n) n edition slip_mark,
    )

-- "distance 18n+8", "18n+20" bytes: where the edition has no row count.
pub square_slip : (edition n : ℕ) → has_row_count edition ≡ false → slip_distance edition n n ≡ 18 * n + 8
square_slip edition n h = ap (λ (t : Bool). body_length n n + cond t 2 0) h ∙ omega arith
