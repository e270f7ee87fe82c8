-- `scan_dense` is the scan of one column: its row's costs, how far its reduced cost is above the minimum, and what the row lowers. Assumes nothing.
use mathlib.Core.Path.{◌≡◌, refl, ap, ◌∙◌}
use lib.IntN.{◌-ℤ◌}
use lib.ListN.{length, get_or}
use mir.Syntax.{w32, w64}
use mir.Val.{SFits, to_z, of_z}
use Rattle.std.proofs.Common.{rules}
use Rattle.assignment.specs.Pairings.{signed_at}
use Rattle.augmentation.proofs.Scan.{row_length, spare_near, scanned}
use Rattle.augmentation.proofs.scan_dense.Goals as goal

pub lower_columns-requires : goal.lower_columns-requires
lower_columns-requires c =
    let p = c.requires in
    let j = get_or c.args.list.now c.args.cursor.lo 0 in
    let row = c.row-costs_of_row.result.now in
    let minimum : to_z w64 (of_z w64 (signed_at c.args.d.now j)) ≡ signed_at c.args.d.now j = search rules in
    let h : to_z w64 (of_z w64 c.lowered-h.result) ≡ (signed_at row j -ℤ signed_at c.args.v.now j) -ℤ to_z w64 (of_z w64 (signed_at c.args.d.now j)) = search rules in
    let cost : SFits w32 (signed_at row j) = search rules in (
      p.lent,
      ap length c.row-costs_of_row.ensures ∙ row_length _ _ _ p.taken p.costs_size,
      p.place.1,
      rw (h, minimum) (spare_near _ _ _ cost (p.lent.prices_near j) p.minimum_near),
    )

pub returns : goal.returns
returns c =
    let j = get_or c.args.list.now c.args.cursor.lo 0 in
    let row = c.row-costs_of_row.result.now in
    let minimum : to_z w64 (of_z w64 (signed_at c.args.d.now j)) ≡ signed_at c.args.d.now j = search rules in
    let h : to_z w64 (of_z w64 c.lowered-h.result) ≡ (signed_at row j -ℤ signed_at c.args.v.now j) -ℤ to_z w64 (of_z w64 (signed_at c.args.d.now j)) = search rules in
    scanned _ _ _ _ _ _ _ _ _ j _ _ _ _ refl (c.requires.lent.listed.injective.below c.args.cursor.lo c.requires.place.0) refl c.row-costs_of_row.ensures minimum h c.lower_columns.ensures
