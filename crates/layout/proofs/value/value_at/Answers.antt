-- `value_at` answers what the bytes stand for: those that it makes eight of are zeros. Assumes nothing.
use mathlib.Core.Path.{◌≡◌, refl, ap, ◌∙◌}
use mathlib.Core.List.{List, ◌++◌}
use Prim.Native.Nat.{ℕ, zero, suc, ◌+◌, ◌-◌, ◌^◌, ◌≤◌, ◌<◌}
use native.Mathlib.Omega.{arith}
use lib.ListN.{length, get_or, take, drop, replicate, length-append, length-drop}
use lib.Seq.{get_or-drop}
use mir.Syntax.{w64}
use Rattle.std.specs.Int.{from_le_bytes}
use Rattle.lists.specs.Parts.{part}
use Rattle.lists.proofs.Parts.{part_length, part_at}
use Rattle.layout.specs.Values.{value_of}
use Rattle.layout.proofs.Values.{padded, value_below}
use Rattle.layout.proofs.LittleEndian.{read}
use Rattle.layout.proofs.value.value_at.Goals as goal

abbrev zeros : List ℕ
zeros = replicate 8 0

all_same : (k i a : ℕ) → get_or (replicate k a) i a ≡ a
all_same zero i a = refl
all_same (suc k) zero a = refl
all_same (suc k) (suc i) a = all_same k i a

module _ (bytes : List ℕ) (at width : ℕ) (few : width ≤ 8) (reach : at + width ≤ length bytes) where
  long : length (part at width bytes) ≡ width
  long = part_length at width bytes reach

  value : (n : ℕ) → n ≡ from_le_bytes w64 (part at width bytes ++ drop width zeros) → n ≡ value_of (part at width bytes)
  value n e =
      e ∙ read w64 (part at width bytes ++ drop width zeros) (omega (arith, length-append (part at width bytes) (drop width zeros), long, length-drop width zeros))
      ∙ padded (part at width bytes) (drop width zeros) (λ i. get_or-drop width zeros i 0 ∙ all_same 8 (width + i) 0)

  below : ((i : ℕ) → get_or bytes i 0 < 256) → value_of (part at width bytes) < 256 ^ width
  below f = value_below (part at width bytes) width (omega (arith, long)) (λ i h. omega (arith, part_at at width bytes i 0 (omega (arith, long)), f (at + i)))

pub returns : goal.returns
returns c =
    let u = c.args in
    let two : u.at + u.width - u.at ≡ u.width = omega arith in
    let e : c.from_le_bytes.result ≡ value_of (part u.at u.width u.bytes.now) = value u.bytes.now u.at u.width c.requires.0 c.requires.1 c.from_le_bytes.result (c.from_le_bytes.ensures ∙ ap (λ (q : List ℕ). from_le_bytes w64 (q ++ drop u.width zeros)) (c.copy_from_slice.ensures.after ∙ ap (λ (m : ℕ). take m (drop u.at u.bytes.now)) two)) in
    (e, omega (arith, e, below u.bytes.now u.at u.width c.requires.0 c.requires.1 (λ i. (c.type_inv.bytes i).fits)))
