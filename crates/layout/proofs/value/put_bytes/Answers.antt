-- `put_bytes` writes over a part of the room. Assumes nothing.
use mathlib.Core.Path.{ap, ◌∙◌}
use mathlib.Core.List.{List}
use Prim.Native.Nat.{ℕ, ◌+◌, ◌-◌}
use native.Mathlib.Omega.{arith}
use borrow.Rule.Slice.PartMut.{put_mid}
use Rattle.layout.proofs.Stores.{stored_over}
use Rattle.layout.proofs.value.put_bytes.Goals as goal

pub returns : goal.returns
returns g c =
    let u = c.args in
    let k = u.at + g.row.N - u.at in
    ap (λ (q : List ℕ). put_mid u.at k u.room.now q) c.copy_from_slice.ensures.after ∙ stored_over u.room.now u.these u.at k (omega arith) (omega arith)
