use mathlib.Core.Path.{◌≡◌, refl, sym, ◌∙◌}
use mathlib.Core.List.{List}
use Prim.Native.Nat.{ℕ, suc, ◌+◌, ◌-◌, ◌/◌, ◌%◌, ◌<◌}
use native.Mathlib.Omega.{arith}
use lib.ListN.{set}
use lib.Seq.{sets}
use Rattle.layout.specs.Values.{bytes_of}
use Rattle.layout.proofs.value.write_value.Goals as goal

-- a turn writes the lowest byte of the rest
turn : (room : List ℕ) (at width rest k b : ℕ) → k < width → b ≡ rest % 256
    → sets (set room (at + k) b) (at + (k + 1)) (bytes_of (width - (k + 1)) (rest / 256)) ≡ sets room (at + k) (bytes_of (width - k) rest)
unfolding bytes_of
turn room at width rest k b h e =
    let more : width - k ≡ suc (width - (k + 1)) = omega arith in
    let next : at + (k + 1) ≡ suc (at + k) = omega arith in
    rw (more, next, e)

-- no byte is left
done : (room : List ℕ) (at width rest k : ℕ) → k ≡ width → sets room (at + k) (bytes_of (width - k) rest) ≡ room
unfolding bytes_of
done room at width rest k e = let none : width - k ≡ 0 = omega arith in rw none

pub loop-k-preserved : goal.loop-k-preserved
loop-k-preserved c =
    let l = c.loop-k in
    let u = c.args in
    turn l.room u.at u.width l.rest l.k (l.rest % 256) c.loop-k-test.true refl ∙ l.invariant

pub returns : goal.returns
returns c =
    let l = c.loop-k in
    let u = c.args in
    sym (done l.room u.at u.width l.rest l.k (omega arith)) ∙ l.invariant
