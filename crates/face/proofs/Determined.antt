-- No two differing outcomes meet the promise of `bristlefrost_solve`, that of `bristlefrost_repair`, or that of one of the entries about a second
-- pairing: neither the struct nor any lent list is left open. Assumes nothing.
use mathlib.Core.Path.{◌≡◌, sym, ◌∙◌}
use Rattle.lapjv.specs.Values.{Told}
use Rattle.repair.specs.Repair.{Outcome}
use Rattle.face.specs.Seconds.{HandedSecond}
use Rattle.face.specs.Face.{Handed, handed, HandedBack, handed_back}

pub handed_determined : (told : Told) (one other : Handed) → one ≡ handed told → other ≡ handed told → one ≡ other
handed_determined told one other e f = e ∙ sym f

pub handed_back_determined : (outcome : Outcome) (one other : HandedBack) → one ≡ handed_back outcome → other ≡ handed_back outcome → one ≡ other
handed_back_determined outcome one other e f = e ∙ sym f

pub handed_second_determined : (said one other : HandedSecond) → one ≡ said → other ≡ said → one ≡ other
handed_second_determined said one other e f = e ∙ sym f
