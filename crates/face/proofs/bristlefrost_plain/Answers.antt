-- `bristlefrost_plain` answers what the engine answers, told, and leaves what it leaves. Assumes nothing.
use mathlib.Core.Path.{sym, ap, ap₂, ◌∙◌, subst}
use mathlib.Core.List.{List}
use Prim.Native.Nat.{ℕ}
use Rattle.matrix.specs.Answers.{values_of}
use Rattle.matrix.specs.Asked.{TellableIn}
use Rattle.matrix.specs.Answers.{Answer}
use Rattle.plain.proofs.Codes.{plain_places}
use Rattle.face.specs.declared.Totalled.{Totalled}
use Rattle.face.specs.Face.{totalled}
use Rattle.face.proofs.bristlefrost_plain.Goals as goal

pub told-requires : goal.told-requires
told-requires c =
    let u = c.args in
    subst TellableIn (sym (ap (λ (x : Answer × List ℕ). x.0) c.plain.ensures)) (plain_places u.n u.costs.now u.cols.now)

pub returns : goal.returns
returns c =
    let e = c.plain.ensures in
    ap₂ (λ (t : Totalled) (l : List ℕ). record { totalled = t; cols = l }) (c.told.ensures ∙ ap (λ (x : Answer × List ℕ). totalled (values_of x.0)) e) (ap (λ (x : Answer × List ℕ). x.1) e)
