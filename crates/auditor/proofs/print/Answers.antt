-- `print` writes the line of what is told.
use Rattle.std.proofs.Common.{sym, ◌∙◌, ap, subst, rules, List, ℕ, w64}
use mir.Facts.{to_z-of_z}
use mir.Val.{SFits}
use Rattle.lines.specs.Put.{Put}
use Rattle.lines.specs.Lines.{accepted_line}
use Rattle.audit.specs.Audit.{audit}
use Rattle.audit.proofs.Determined.{audited_values_determine}
use Rattle.auditor.specs.Line.{audit_line}
use Rattle.auditor.proofs.print.Goals as goal

pub returns-in-Err : goal.returns-in-Err
returns-in-Err c =
    let told = audited_values_determine c.audit.result (audit c.args.sheet.now c.args.slip.now) c.audit.ensures in
    let e = ap audit_line (sym c.in-Err.is ∙ told) in
    (subst (λ (l : List ℕ). Put c.args.out.now 0 l c.put_refused.new.out c.put_refused.result) e c.put_refused.ensures.0, c.put_refused.ensures.1)

pub returns-in-Ok : goal.returns-in-Ok
returns-in-Ok c =
    let told = audited_values_determine c.audit.result (audit c.args.sheet.now c.args.slip.now) c.audit.ensures in
    let fits : SFits w64 c.in-Ok.held.total = search rules in
    let e = ap (accepted_line c.in-Ok.held.side) (to_z-of_z fits) ∙ ap audit_line (sym c.in-Ok.is ∙ told) in
    (subst (λ (l : List ℕ). Put c.args.out.now 0 l c.put_accepted.new.out c.put_accepted.result) e c.put_accepted.ensures.0, c.put_accepted.ensures.1)
