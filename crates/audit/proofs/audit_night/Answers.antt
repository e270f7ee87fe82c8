-- `audit_night` answers what its definition says: the rooms hold the sheet's night. Assumes nothing.
use Rattle.std.proofs.Common.{◌≡◌, ℕ, List, ◌*◌, ◌-◌, ◌≤◌, sym, ap, ap₂, ◌∙◌, length, arith}
use lib.IntN.{ℤ}
use lib.ListN.{replicate, length-replicate}
use Rattle.layout.specs.Editions.{number}
use Rattle.layout.specs.Fields.{fields}
use Rattle.layout.specs.Sheets.{costs_at}
use Rattle.layout.specs.Values.{signed_value}
use Rattle.layout.proofs.Fields.{length_fields}
use Rattle.sheet.specs.Reading.{distance_due, night_tested}
use Rattle.audit.specs.Audit.{audited_as}
use Rattle.audit.proofs.Checking.{read_whole}
use Rattle.matrix.specs.Limits.{sheet_side}
use Rattle.audit.proofs.audit_night.Goals as goal

in_sheet : (n : ℕ) → n ≤ 64 → n ≤ sheet_side
unfolding sheet_side
in_sheet n h = h

pub night_held-requires : goal.night_held-requires
night_held-requires c =
    let u = c.args in
    let s = u.shape in
    let sheet = u.sheet.now in
    let read = c.read_fields.ensures ∙ read_whole (s.row_count * s.side) _ u.costs.now (length_fields (signed_value 4) _ 4 (s.row_count * s.side) sheet) c.requires.1 in
    record {
      fewer = s.fewer;
      small = in_sheet s.side s.small;
      filled = ap length read ∙ length_fields (signed_value 4) _ 4 (s.row_count * s.side) sheet;
      rows = c.bars-1.given ∙ ap length c.requires.2 ∙ length-replicate {A = ℕ} s.side 0;
    }

pub returns : goal.returns
returns c =
    let u = c.args in
    let s = u.shape in
    let sheet = u.sheet.now in
    let read =
    c.read_fields.ensures
    ∙ read_whole (s.row_count * s.side) _ u.costs.now (length_fields (signed_value 4) _ 4 (s.row_count * s.side) sheet) c.requires.1
    ∙ ap (λ (d : ℕ). fields (signed_value 4) (length sheet - 12 - d) 4 (s.row_count * s.side) sheet) c.distance.ensures in
    c.night_held.ensures
    ∙ ap₂ (λ (l : List ℤ) (k : List ℕ). audited_as u.slip.now (night_tested (record { edition = number s.edition; row_count = s.row_count; side = s.side; costs = l; bars = k }))) read c.read_bars.ensures
