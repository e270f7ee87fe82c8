-- `print` leaves the lines of the sheet at the front of the room. Assumes nothing.
use mathlib.Core.Path.{◌≡◌, refl, ap, ap₂, subst, ◌∙◌}
use mathlib.Core.List.{List}
use Prim.Native.Nat.{ℕ, ◌≤◌}
use native.Mathlib.Nat.{zero-add}
use native.Mathlib.Omega.{arith}
use lib.ListN.{length}
use Rattle.layout.proofs.Stores.{sets_front}
use Rattle.lines.specs.Put.{Put}
use Rattle.lines.specs.Lines.{output, Printed, printed}
use Rattle.lines.proofs.print.Goals as goal

-- what stands at the front of the room is what was printed
printed-as : (sheet out : List ℕ) {after : List ℕ} {r : ℕ} → Put out 0 (output sheet) after r → length (output sheet) ≤ length out → ◌≡◌ {A = Printed} (record { count = r; room = after }) (printed sheet out)
unfolding printed
printed-as sheet out p h =
    ap₂ (λ (n : ℕ) (l : List ℕ). record { count = n; room = l }) (p.past ∙ zero-add (length (output sheet))) (p.stored ∙ sets_front (output sheet) out (length (output sheet)) refl h)

pub returns : goal.returns
returns c =
    let sheet = c.args.sheet.now in
    let out = c.args.out.now in
    let lines = c.put_sheet.ensures.lines in
    printed-as sheet out (subst (λ (l : List ℕ). Put out 0 l c.copy_to.new.out c.copy_to.result) lines c.copy_to.ensures) (omega (arith, ap length lines, c.put_sheet.ensures.short, c.told-out))
