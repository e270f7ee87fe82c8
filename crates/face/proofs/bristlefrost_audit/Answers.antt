-- `bristlefrost_audit` answers what the tool answers, told. Assumes nothing.
use mathlib.Core.Path.{sym, ap, ◌∙◌, subst}
use native.Mathlib.Omega.{arith}
use Rattle.audit.specs.Asked.{TellableAudited}
use Rattle.audit.specs.Audit.{audit}
use Rattle.audit.proofs.Determined.{audited_values_determine}
use Rattle.audit.proofs.Codes.{audit_places}
use Rattle.face.specs.Face.{audit_told}
use Rattle.face.proofs.bristlefrost_audit.Goals as goal

pub told_audited-requires : goal.told_audited-requires
told_audited-requires c =
    let u = c.args in
    subst TellableAudited (sym (audited_values_determine c.audit.result (audit u.sheet.now u.slip.now) c.audit.ensures))
    (audit_places u.sheet.now u.slip.now (λ i l. omega (arith, c.shared_slice_known-1.given i)))

pub returns : goal.returns
returns c = c.told_audited.ensures ∙ ap audit_told c.audit.ensures
