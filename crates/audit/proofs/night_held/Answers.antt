-- `night_held` answers what its definition says: 5, 22, 25, and what is held against the night. Assumes nothing.
use Rattle.std.proofs.Common.{rules, ◌≡◌, sym, ◌∙◌}
use Rattle.std.specs.Prelude.{Ok, Err}
use Rattle.layout.specs.Editions.{number}
use Rattle.matrix.specs.declared.refusals.Reason.TheVariants.{SlipWrong}
use Rattle.matrix.proofs.Verdicts.{then_iff, fails_if_iff}
use Rattle.sheet.specs.Reading.{Laid}
use Rattle.audit.proofs.Nights.{like_long, tests_fail, tests_pass}
use Rattle.audit.proofs.night_held.Goals as goal

pub returns-in_err-formed : goal.returns-in_err-formed
returns-in_err-formed c =
    let u = c.args in
    let s = u.shape in
    let laid : Laid = record { edition = number s.edition; row_count = s.row_count; side = s.side; costs = u.costs.now; bars = u.bars.now } in
    let e : c.from_residual.result ≡ Err c.in_err-formed.field-0.0 = search rules in
    e ∙ tests_fail laid u.slip.now (sym c.formed.ensures ∙ c.in_err-formed.was)

pub held_apart-requires : goal.held_apart-requires
held_apart-requires c =
    let s = c.args.shape in
    let f = ((then_iff _ _).0 (sym c.formed.ensures ∙ c.in_ok-formed.was)).1 in
    (c.requires, like_long (number s.edition) s.row_count s.side c.args.slip.now ((fails_if_iff SlipWrong 0 _).0 f))

pub returns : goal.returns
returns c =
    let u = c.args in
    let s = u.shape in
    let laid : Laid = record { edition = number s.edition; row_count = s.row_count; side = s.side; costs = u.costs.now; bars = u.bars.now } in
    tests_pass laid u.slip.now (sym c.formed.ensures ∙ c.in_ok-formed.was) c.held_apart.result c.held_apart.ensures
