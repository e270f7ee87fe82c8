-- `write_body` writes the four parts of a slip before its trailer, one after the other. Assumes nothing.
use mathlib.Core.Path.{◌≡◌, ap, ◌∙◌}
use mathlib.Core.List.{List, ◌++◌, flat_map}
use Prim.Native.Nat.{ℕ, ◌+◌, ◌*◌}
use native.Mathlib.Omega.{arith}
use lib.IntN.{ℤ}
use lib.ListN.{length}
use lib.Seq.{sets}
use mir.Facts.{to_z-of_z}
use Rattle.layout.specs.Values.{bytes_of, signed_bytes}
use Rattle.layout.specs.Slips.{slip_body}
use Rattle.layout.specs.Asked.{Listed}
use Rattle.layout.proofs.Values.{length-bytes_of, length-signed_bytes}
use Rattle.layout.proofs.Fields.{length_flat_map}
use Rattle.layout.proofs.Stores.{stored_then}
use Rattle.layout.proofs.slip.write_body.Goals as goal

-- the four parts are the body
module _ (room : List ℕ) (cols : List ℕ) (prices_of_rows prices_of_columns : List ℤ) (total : ℤ) (l : Listed cols prices_of_rows prices_of_columns room) where
  abbrev m : ℕ
  m = length cols

  abbrev n : ℕ
  n = length prices_of_columns

  joined : {p q r s : List ℕ} {x : ℤ} → p ≡ sets room 0 (flat_map (bytes_of 2) cols) → q ≡ sets p (2 * m) (flat_map (signed_bytes 8) prices_of_rows)
      → r ≡ sets q (10 * m) (flat_map (signed_bytes 8) prices_of_columns) → x ≡ total → s ≡ sets r (10 * m + 8 * n) (signed_bytes 8 x)
      → s ≡ sets room 0 (slip_body cols prices_of_rows prices_of_columns total)
  joined {p} {q} {r} d e f g h =
      let prices = flat_map (signed_bytes 8) prices_of_columns in
      stored_then room (flat_map (bytes_of 2) cols) (flat_map (signed_bytes 8) prices_of_rows ++ (prices ++ signed_bytes 8 total)) 0 (2 * m) d (omega (arith, length_flat_map (bytes_of 2) 2 (length-bytes_of 2) cols))
      (stored_then p (flat_map (signed_bytes 8) prices_of_rows) (prices ++ signed_bytes 8 total) (2 * m) (10 * m) e (omega (arith, l.rows, length_flat_map (signed_bytes 8) 8 (length-signed_bytes 8) prices_of_rows))
      (stored_then q prices (signed_bytes 8 total) (10 * m) (10 * m + 8 * n) f (omega (arith, length_flat_map (signed_bytes 8) 8 (length-signed_bytes 8) prices_of_columns))
      (h ∙ ap (λ (y : ℤ). sets r (10 * m + 8 * n) (signed_bytes 8 y)) g)))

pub returns : goal.returns
returns c =
    let u = c.args in
    joined u.slip.now u.cols.now u.row_prices.now u.col_prices.now u.total c.requires c.write_fields.ensures c.write_fields-2.ensures c.write_fields-3.ensures (to_z-of_z c.ranges.total) c.write.ensures
