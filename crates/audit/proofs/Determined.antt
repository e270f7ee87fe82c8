-- The values of what the auditor is told determine it. Assumes nothing.
use mathlib.Core.Path.{◌≡◌, sym, ap, ap₂}
use mathlib.Core.Bool.{true≢false}
use Rattle.matrix.proofs.Determined.{refusal_determined}
use Rattle.audit.specs.Values.{AuditedValues, audited_values}
use Rattle.audit.specs.Audit.{Audited}
use Rattle.audit.specs.Audit.{holds}
use Rattle.std.specs.Prelude.{Ok, Err}

pub audited_values_determine : (a b : Audited) → audited_values a ≡ audited_values b → a ≡ b
audited_values_determine (Ok held) (Ok other) e = ap₂ holds (ap (λ (v : AuditedValues). v.side) e) (ap (λ (v : AuditedValues). v.total) e)
audited_values_determine (Ok held) (Err r) e = absurd (true≢false (ap (λ (v : AuditedValues). v.accepted) e))
audited_values_determine (Err q) (Ok held) e = absurd (true≢false (sym (ap (λ (v : AuditedValues). v.accepted) e)))
audited_values_determine (Err q) (Err r) e =
    ap Err (refusal_determined q r (ap (λ (v : AuditedValues). v.number) e) (ap (λ (v : AuditedValues). v.place) e) (ap (λ (v : AuditedValues). v.slack) e))
