-- Where every place is far below 2^48, a checker's or a repair's answer is told as it is. Assumes nothing.
use Rattle.std.specs.Prelude.{Ok, Err}
use Prim.Native.Nat.{ℕ}
use lib.IntN.{pos}
use mathlib.Core.Path.{◌≡◌, refl, ap}
use Rattle.matrix.specs.Asked.{TellableIn}
use Rattle.matrix.specs.Answers.{Answer, values_of}
use Rattle.matrix.specs.Refusals.{slack_of}
use Rattle.matrix.proofs.Codes.{capped_same}
use Rattle.face.specs.declared.Checked.{Checked}
use Rattle.face.specs.Face.{checked, checked_any}

pub checked_plain : (answer : Answer) → TellableIn answer → checked_any (values_of answer) ≡ checked (values_of answer)
checked_plain (Ok total) h = refl
checked_plain (Err q) h = ap (λ (code : ℕ). let s : Checked = record { refusal = code; total = pos 0; slack = slack_of q } in s) (capped_same q h)
