-- What a C caller gets, from the values of what the entries answer: "0, or number + 256*place".
use Rattle.std.specs.Prelude.{cond, List, ℕ, ◌+◌, ◌*◌, ◌-◌, ◌^◌, ltb}
use Rattle.matrix.specs.Answers.{Values, values_of}
use Rattle.matrix.specs.Answers.{Answer}
use Rattle.lapjv.specs.Solve.{Lent}
use Rattle.lapjv.specs.Values.{SolvedValues, Told}
use Rattle.repair.specs.Repair.{Outcome}
use Rattle.audit.specs.Values.{AuditedValues}
use Rattle.face.specs.declared.Audit.{Audit}
use Rattle.face.specs.declared.Checked.{Checked}
use Rattle.face.specs.declared.Solution.{Solution}
use Rattle.face.specs.declared.Totalled.{Totalled}

-- A total, or a refusal.
abbrev pub totalled : Values → Totalled
totalled v = record { refusal = v.number + 256 * v.place; total = v.total }

-- What a C caller gets of the plain engine and finds in the lent list.
pub record HandedColumns : Type 0 where
  pub totalled : Totalled
  pub cols : List ℕ

abbrev pub handed_columns : Answer × List ℕ → HandedColumns
handed_columns (answer, cols) = record { totalled = totalled (values_of answer); cols = cols }

-- A total, or a refusal with its slack.
abbrev pub checked : Values → Checked
checked v = record { refusal = v.number + 256 * v.place; total = v.total; slack = v.slack }

-- The same whatever the place: "where number + 256*place would not fit 64 bits, the C face tells the place as 2^56 - 1".
abbrev pub checked_any : Values → Checked
checked_any v = record { refusal = v.number + 256 * cond (ltb v.place (2 ^ 56)) v.place (2 ^ 56 - 1); total = v.total; slack = v.slack }

-- Side and total of a slip that holds, or a refusal.
abbrev pub audit_told : AuditedValues → Audit
audit_told v = record { refusal = v.number + 256 * v.place; side = v.side; total = v.total }

-- A total with the six counts, or a refusal.
abbrev pub solution : SolvedValues → Solution
solution v = record {
  refusal = v.number + 256 * v.place;
  total = v.total;
  free_rows = v.counts.free_rows;
  looks_one = v.counts.looks_one;
  left_one = v.counts.left_one;
  looks_two = v.counts.looks_two;
  rows_left = v.counts.rows_left;
  columns_scanned = v.counts.columns_scanned;
}

-- What a C caller gets of the solver and finds in the lent lists.
pub record Handed : Type 0 where
  pub solution : Solution
  pub lent : Lent

abbrev pub handed : Told → Handed
handed told = record { solution = solution told.values; lent = told.lent }

-- What a C caller gets of a repair and finds in the lent lists.
pub record HandedBack : Type 0 where
  pub checked : Checked
  pub lent : Lent

abbrev pub handed_back : Outcome → HandedBack
handed_back o = record { checked = checked (values_of o.answer); lent = o.lent }
