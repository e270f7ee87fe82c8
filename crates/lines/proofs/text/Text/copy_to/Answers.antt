-- `copy_to` leaves the text at the front of the room. Assumes nothing.
use mathlib.Core.Path.{◌≡◌, sym, ap, ◌∙◌}
use mathlib.Core.List.{List, ◌++◌}
use Prim.Native.Nat.{ℕ}
use native.Mathlib.Omega.{arith}
use lib.ListN.{length, drop}
use lib.Seq.{length-take-le}
use Rattle.layout.proofs.Stores.{sets_front}
use Rattle.lines.proofs.text.Text.copy_to.Goals as goal

pub returns : goal.returns
returns c =
    let s = c.self.inside in
    let out = c.args.out.now in
    let size : length c.args.self.now ≡ s.len = ap length (sym c.self.view_is) ∙ length-take-le s.len s.room (omega (arith, c.self.told, c.self.invariant)) in
    record {
      stored = ap (λ (l : List ℕ). l ++ drop s.len out) (c.copy_from_slice.ensures.after ∙ c.self.view_is) ∙ sym (sets_front c.args.self.now out s.len size (omega (arith, size, c.requires)));
      past = omega (arith, size);
    }
