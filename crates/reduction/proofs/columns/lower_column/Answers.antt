-- `lower_column` does what its definition says: the row is a part of the costs. Assumes nothing.
use Rattle.std.proofs.Common.{rules, w64, to_z, of_z, ◌≡◌, sym, ap, ◌∙◌, Option, ℤ, pos, set}
use Rattle.std.proofs.lemmas.List.{set-get_or}
use mir.Facts.{to_z-of_z}
use Rattle.assignment.specs.Pairings.{signed_at}
use Rattle.rules.specs.Columns.{less_least}
use Rattle.reduction.proofs.Nearness.{lowered_fits}
use Rattle.reduction.proofs.RowParts.{row_least_but}
use Rattle.reduction.proofs.columns.lower_column.Goals as goal

pub overflow_sub-v : goal.overflow_sub-v
overflow_sub-v c =
    let u = c.args in
    let price : to_z w64 (of_z w64 (signed_at u.v.now u.j)) ≡ signed_at u.v.now u.j = search rules in
    let lowest : to_z w64 (of_z w64 c.in-Some.h) ≡ c.in-Some.h = search rules in
    let least = sym c.in-Some.is ∙ c.least_other.ensures ∙ row_least_but u.n u.i u.costs.now c.row.result.now c.requires.1 c.requires.0.size c.row.ensures u.v.now u.j in
    rw (price, lowest) (lowered_fits u.n u.costs.now u.v.now c.requires.0 c.requires.4 u.i c.requires.1 u.j c.requires.2 c.in-Some.h least)

pub returns-in-Some : goal.returns-in-Some
returns-in-Some c =
    let u = c.args in
    let price : to_z w64 (of_z w64 (signed_at u.v.now u.j)) ≡ signed_at u.v.now u.j = search rules in
    let lowest : to_z w64 (of_z w64 c.in-Some.h) ≡ c.in-Some.h = search rules in
    let least = sym c.in-Some.is ∙ c.least_other.ensures ∙ row_least_but u.n u.i u.costs.now c.row.result.now c.requires.1 c.requires.0.size c.row.ensures u.v.now u.j in
    let fits = lowered_fits u.n u.costs.now u.v.now c.requires.0 c.requires.4 u.i c.requires.1 u.j c.requires.2 c.in-Some.h least in
    rw (price, lowest) (ap (set u.v.now u.j) (to_z-of_z fits) ∙ ap (λ (h : Option ℤ). set u.v.now u.j (less_least (signed_at u.v.now u.j) h)) least)

pub returns-in_default : goal.returns-in_default
returns-in_default c =
    let u = c.args in
    let least = sym c.in_default.is ∙ c.least_other.ensures ∙ row_least_but u.n u.i u.costs.now c.row.result.now c.requires.1 c.requires.0.size c.row.ensures u.v.now u.j in
    sym (set-get_or u.v.now u.j (pos 0)) ∙ ap (λ (h : Option ℤ). set u.v.now u.j (less_least (signed_at u.v.now u.j) h)) least
