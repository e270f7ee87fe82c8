-- `put_sheet` writes the lines of what is settled of the sheet. Assumes nothing.
use mathlib.Core.Path.{◌≡◌, refl, sym, ap, ap₂, ◌∙◌}
use mathlib.Core.List.{List, ◌++◌}
use Prim.Native.Nat.{ℕ}
use Rattle.std.specs.Prelude.{Err}
use Rattle.matrix.specs.Limits.{sheet_side}
use Rattle.matrix.specs.declared.refusals.Refusal.{Refusal}
use Rattle.sheet.specs.declared.Unpaired.{Unpaired}
use Rattle.sheet.specs.Reading.{Read, read}
use Rattle.sheet.specs.Settle.{Outcome, settled_as, settled}
use Rattle.sheet.specs.Values.{settled_values}
use Rattle.sheet.proofs.Determined.{settled_values_determine}
use Rattle.lines.specs.Lines.{lines_as, output, refused_line}
use Rattle.lines.proofs.Night.{refused_lines, blocked_lines, night_written}
use Rattle.lines.proofs.put_sheet.Goals as goal

-- the sheet as it was read, for a slip room that is long enough for every edition and side
abbrev reading : List ℕ → Read
reading sheet = read 1174 sheet

output-as : (sheet : List ℕ) → lines_as (reading sheet) ≡ output sheet
unfolding output sheet_side
output-as sheet = refl

as_read : (sheet : List ℕ) {o settles : Outcome} → settled_values o ≡ settled_values (settled 1174 sheet) → o ≡ settles → settled_as (reading sheet) ≡ settles
unfolding settled
as_read sheet e f = sym (settled_values_determine _ _ e) ∙ f

pub put_night-requires : goal.put_night-requires
put_night-requires c =
    let sheet = c.args.sheet.now in
    ((night_written 1174 sheet (reading sheet) refl c.in-Ok.settled (as_read sheet c.settle.ensures c.in-Ok.is)).0, c.requires)

pub returns-in-Ok-clause-lines : goal.returns-in-Ok-clause-lines
returns-in-Ok-clause-lines c =
    let sheet = c.args.sheet.now in
    c.put_night.ensures.lines ∙ (night_written 1174 sheet (reading sheet) refl c.in-Ok.settled (as_read sheet c.settle.ensures c.in-Ok.is)).1 ∙ output-as sheet

pub returns-in-Err-Refused-clause-lines : goal.returns-in-Err-Refused-clause-lines
returns-in-Err-Refused-clause-lines c =
    let sheet = c.args.sheet.now in
    let r = c.in-Err-Refused in
    c.put_refusal.ensures.line ∙ ap (λ (l : List ℕ). l ++ refused_line r.refusal) c.requires
    ∙ refused_lines (reading sheet) r.refusal (as_read sheet c.settle.ensures (r.is ∙ ap (λ (u : Unpaired). Err u) r.field-0-is)) ∙ output-as sheet

pub returns-in-Err-Blocked-clause-lines : goal.returns-in-Err-Blocked-clause-lines
returns-in-Err-Blocked-clause-lines c =
    let sheet = c.args.sheet.now in
    let b = c.in-Err-Blocked in
    c.put_refusal-in-Err-Blocked.ensures.line ∙ ap₂ (λ (l : List ℕ) (r : Refusal). l ++ refused_line r) c.requires c.new.ensures
    ∙ blocked_lines (reading sheet) b.field-0-0 (as_read sheet c.settle.ensures (b.is ∙ ap (λ (u : Unpaired). Err u) b.field-0-is)) ∙ output-as sheet
