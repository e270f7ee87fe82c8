-- `write_trailer` writes the four parts of a trailer, one after the other. Assumes nothing.
use mathlib.Core.Path.{◌≡◌}
use mathlib.Core.List.{List, ◌++◌}
use Prim.Native.Nat.{ℕ, ◌+◌}
use native.Mathlib.Omega.{arith}
use lib.Seq.{sets}
use Rattle.layout.specs.Values.{bytes_of}
use Rattle.layout.specs.Trailers.{trailer}
use Rattle.layout.proofs.Values.{length-bytes_of}
use Rattle.layout.proofs.Stores.{stored_then}
use Rattle.layout.proofs.trailer.write_trailer.Goals as goal

-- the four parts are the trailer
module _ (at distance side edition mark : ℕ) (room : List ℕ) where
  joined : {r s t w : List ℕ} → r ≡ sets room at (bytes_of 4 distance) → s ≡ sets r (at + 4) (bytes_of 2 side) → t ≡ sets s (at + 6) (bytes_of 2 edition)
      → w ≡ sets t (at + 8) (bytes_of 4 mark) → w ≡ sets room at (trailer distance side edition (bytes_of 4 mark))
  joined {r} {s} d e f g =
      stored_then room (bytes_of 4 distance) (bytes_of 2 side ++ (bytes_of 2 edition ++ bytes_of 4 mark)) at (at + 4) d (omega (arith, length-bytes_of 4 distance))
      (stored_then r (bytes_of 2 side) (bytes_of 2 edition ++ bytes_of 4 mark) (at + 4) (at + 6) e (omega (arith, length-bytes_of 2 side))
      (stored_then s (bytes_of 2 edition) (bytes_of 4 mark) (at + 6) (at + 8) f (omega (arith, length-bytes_of 2 edition)) g))

pub returns : goal.returns
returns c =
    let u = c.args in
    joined u.at u.distance u.side u.edition u.mark u.room.now c.write_value.ensures c.write_value-2.ensures c.write_value-3.ensures c.write_value-4.ensures
