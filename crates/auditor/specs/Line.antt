-- What the auditor's program writes: "the program's first line or its refusal line".
use Rattle.std.specs.Prelude.{List, ℕ, Ok, Err}
use Rattle.lines.specs.Lines.{accepted_line, refused_line}
use Rattle.audit.specs.Audit.{Audited}

abbrev pub audit_line : Audited → List ℕ
audit_line (Ok held) = accepted_line held.side held.total
audit_line (Err refusal) = refused_line refusal
