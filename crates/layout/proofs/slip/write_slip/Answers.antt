-- `write_slip` writes a slip's body and its trailer, and nothing past them. Assumes nothing.
use mathlib.Core.Path.{◌≡◌, refl, ap, ap₂, ◌∙◌}
use mathlib.Core.List.{List, ◌++◌}
use Prim.Native.Nat.{ℕ, ◌+◌}
use native.Mathlib.Omega.{arith}
use lib.IntN.{ℤ}
use lib.ListN.{length, drop}
use lib.Seq.{sets}
use mir.Facts.{to_z-of_z}
use Rattle.layout.specs.Values.{bytes_of}
use Rattle.layout.specs.Trailers.{slip_mark, trailer}
use Rattle.layout.specs.Slips.{slip_body, body_length, row_count, row_count_length, slip_distance, slip_of, slip_length}
use Rattle.layout.specs.Asked.{Slipped}
use Rattle.layout.proofs.Stores.{stored_then, sets_front}
use Rattle.layout.proofs.Slips.{length_body, length-row_count, length-slip_of}
use Rattle.layout.proofs.slip.write_slip.Goals as goal

mark : bytes_of 4 0x50494C53 ≡ slip_mark
unfolding bytes_of
mark = refl

-- body, row count and trailer are the slip
module _ (room : List ℕ) (edition : ℕ) (cols : List ℕ) (prices_of_rows prices_of_columns : List ℤ) (total : ℤ) (q : Slipped edition cols prices_of_rows prices_of_columns room) where
  abbrev m : ℕ
  m = length cols

  abbrev n : ℕ
  n = length prices_of_columns

  abbrev end : ℕ
  end = slip_distance edition m n

  joined : {p r t : List ℕ} {x : ℤ} {c : ℕ} → x ≡ total → c ≡ row_count_length edition → p ≡ sets room 0 (slip_body cols prices_of_rows prices_of_columns x) → r ≡ sets p (body_length m n) (row_count edition m)
      → t ≡ sets r (body_length m n + c) (trailer (body_length m n + c) n edition (bytes_of 4 0x50494C53)) → t ≡ slip_of edition m n cols prices_of_rows prices_of_columns total ++ drop (slip_length edition m n) room
  joined {p} {r} g k d e f =
      let last = trailer end n edition slip_mark in
      stored_then room (slip_body cols prices_of_rows prices_of_columns total) (row_count edition m ++ last) 0 (body_length m n) (d ∙ ap (λ (y : ℤ). sets room 0 (slip_body cols prices_of_rows prices_of_columns y)) g) (omega (arith, length_body m n cols prices_of_rows prices_of_columns total refl q.rows refl))
      (stored_then p (row_count edition m) last (body_length m n) end e (omega (arith, length-row_count edition m))
      (f ∙ ap₂ (λ (c : ℕ) (l : List ℕ). sets r (body_length m n + c) (trailer (body_length m n + c) n edition l)) k mark))
      ∙ sets_front (slip_of edition m n cols prices_of_rows prices_of_columns total) room (slip_length edition m n) (length-slip_of edition m n cols prices_of_rows prices_of_columns total refl q.rows refl) q.roomy

pub returns : goal.returns
returns c =
    let u = c.args in
    joined u.slip.now u.edition u.cols.now u.row_prices.now u.col_prices.now u.total c.requires (to_z-of_z c.ranges.total) c.row_count_length.ensures
    c.write_body.ensures c.write_row_count.ensures c.write_trailer.ensures
